use Rattle.std.proofs.Common.{length}
use Rattle.solve.specs.Plans.{missed}
use Rattle.solve.proofs.solution.+solve_plan.Given as goal

abbrev pub decreases-solve_plan : goal.decreases-solve_plan
decreases-solve_plan g l = length (missed l.plan.now)
