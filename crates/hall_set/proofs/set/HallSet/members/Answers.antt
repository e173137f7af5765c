use Rattle.std.proofs.Common.{ap, arith, length}
use Rattle.hall_set.proofs.Sizes.{hall_list-short}
use Rattle.hall_set.proofs.set.HallSet.members.Goals as goal

pub returns-clause-bound : goal.returns-clause-bound
returns-clause-bound c = omega (arith, ap length c.deref.ensures.value, ap length c.self.invariant.1, hall_list-short c.self.inside.shape c.self.invariant.0)
