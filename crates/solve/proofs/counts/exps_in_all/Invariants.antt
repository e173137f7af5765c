use Rattle.std.proofs.Common.{◌≡◌, take, ◌-◌, ◌^◌}
use Rattle.std.specs.Prelude.{sum_by, min}
use Rattle.solve.specs.Plans.{exps_of}
use Rattle.solve.proofs.counts.exps_in_all.Given as goal

abbrev pub invariant-loop-plan : goal.invariant-loop-plan
invariant-loop-plan l = l.total ≡ min (sum_by exps_of (take l.plan-index l.plans)) (2 ^ 64 - 1)
