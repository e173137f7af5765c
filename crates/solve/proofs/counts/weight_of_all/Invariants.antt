use Rattle.std.proofs.Common.{◌≡◌, take}
use Rattle.solve.specs.Plans.{total_weight}
use Rattle.solve.proofs.counts.weight_of_all.Given as goal

abbrev pub invariant-loop-plan : goal.invariant-loop-plan
invariant-loop-plan l = l.total ≡ total_weight (take l.plan-index l.plans)
