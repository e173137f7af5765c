use Rattle.std.proofs.Common.{◌+◌}
use Rattle.lie_bracket.specs.Expanding.{FitsBelow}
use Rattle.lie_bracket.proofs.expansion.first_past.Given as goal

abbrev pub invariant-loop-before : goal.invariant-loop-before
invariant-loop-before l = FitsBelow l.members l.terms (l.before + 1)
