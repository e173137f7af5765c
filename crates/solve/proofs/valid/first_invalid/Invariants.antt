use Rattle.std.proofs.Common.{All, take}
use Rattle.solve.specs.Plans.{IsValid}
use Rattle.solve.proofs.valid.first_invalid.Given as goal

abbrev pub invariant-loop-at : goal.invariant-loop-at
invariant-loop-at l = All (IsValid l.shape) (take l.at l.plans)
