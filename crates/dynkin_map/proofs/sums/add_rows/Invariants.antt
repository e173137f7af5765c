use Rattle.std.proofs.Common.{◌≡◌, ◌<◌, ◌+◌, ℕ, [], pos, suc, ◌+ℤ◌, ◌*ℤ◌, length}
use Rattle.std.specs.Prelude.{slice_index_or}
use Rattle.definitions.specs.Sums.{sum_below}
use Rattle.lie_bracket.specs.Brackets.{coefficient}
use Rattle.dynkin_map.proofs.sums.add_rows.Given as goal

abbrev pub invariant-loop-i : goal.invariant-loop-i
invariant-loop-i l = (h : ℕ) → h < length l.sum
    → slice_index_or l.sum h (pos 0) ≡ slice_index_or l.initial.sum h (pos 0) +ℤ sum_below l.i (λ i. slice_index_or l.factors i (pos 0) *ℤ coefficient (suc h) (slice_index_or l.rows (l.from + i) []))
