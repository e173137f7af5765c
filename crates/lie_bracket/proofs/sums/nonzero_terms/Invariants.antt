use Rattle.std.proofs.Common.{◌≡◌, ◌-◌, pos}
use Rattle.std.specs.Prelude.{slice_index_or}
use Rattle.lie_bracket.specs.Tables.{nonzero}
use Rattle.lie_bracket.proofs.sums.nonzero_terms.Given as goal

abbrev pub invariant-loop-at : goal.invariant-loop-at
invariant-loop-at l = l.terms.items ≡ nonzero l.at (λ h. slice_index_or l.sum (h - 1) (pos 0))
