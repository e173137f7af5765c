use Rattle.std.proofs.Common.{◌≡◌, ◌<◌, ℕ, pos, suc, ◌+ℤ◌, ◌*ℤ◌, length, take}
use Rattle.std.specs.Prelude.{slice_index_or}
use Rattle.lie_bracket.specs.Brackets.{coefficient, over_terms}
use Rattle.lie_bracket.specs.Entries.{looked_up}
use Rattle.lie_bracket.proofs.sums.add_brackets.Given as goal

abbrev pub invariant-loop-t : goal.invariant-loop-t
invariant-loop-t l = (h : ℕ) → h < length l.sum
    → slice_index_or l.sum h (pos 0) ≡ slice_index_or l.initial.sum h (pos 0) +ℤ (l.k *ℤ coefficient (suc h) (over_terms (take l.t-index l.terms) (λ c. looked_up l.sign l.entries c l.b)))
