use Rattle.std.proofs.Common.{ap, arith, length}
use Rattle.hall_set.proofs.Sizes.{hall_list-short}
use Rattle.hall_set.proofs.set.HallSet.len.Goals as goal

pub overflow_cast-result : goal.overflow_cast-result
overflow_cast-result c = omega (arith, c.len.ensures, ap length c.self.invariant.1, hall_list-short c.self.inside.shape c.self.invariant.0)

pub returns-clause-bound : goal.returns-clause-bound
returns-clause-bound c = omega (arith, c.len.ensures, ap length c.self.invariant.1, hall_list-short c.self.inside.shape c.self.invariant.0)
