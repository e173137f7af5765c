use Rattle.std.proofs.Common.{◌≡◌, take, length, ◌-◌, ◌^◌}
use Rattle.std.specs.Prelude.{min}
use Rattle.solve.specs.Plans.{all_missed}
use Rattle.solve.proofs.counts.misses_in_all.Given as goal

abbrev pub invariant-loop-plan : goal.invariant-loop-plan
invariant-loop-plan l = l.total ≡ min (length (all_missed (take l.plan-index l.plans))) (2 ^ 64 - 1)
