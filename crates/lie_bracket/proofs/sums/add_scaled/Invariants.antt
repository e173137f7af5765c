use Rattle.std.proofs.Common.{◌≡◌, ◌<◌, ℕ, pos, suc, ◌+ℤ◌, ◌*ℤ◌, length, take}
use Rattle.std.specs.Prelude.{slice_index_or}
use Rattle.lie_bracket.specs.Brackets.{coefficient}
use Rattle.lie_bracket.proofs.sums.add_scaled.Given as goal

abbrev pub invariant-loop-t : goal.invariant-loop-t
invariant-loop-t l = (h : ℕ) → h < length l.sum → slice_index_or l.sum h (pos 0) ≡ slice_index_or l.initial.sum h (pos 0) +ℤ (l.k *ℤ coefficient (suc h) (take l.t-index l.terms))
