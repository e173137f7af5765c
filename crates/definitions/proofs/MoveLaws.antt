-- The product of entries along the letters of a word, and its bound.
use Rattle.std.proofs.Common.{ℕ, zero, suc, ◌-◌, ◌≤◌, ◌^◌, arith, ℤ, pos, unsigned_abs, List, [], ◌∷◌, length}
use Rattle.std.specs.Prelude.{slice_index_or}
use Rattle.std.proofs.Math.Nat.{pow-suc, pow-zero, mul-le-mul}
use Rattle.std.proofs.lemmas.Int.{unsigned_abs-mul}
use Rattle.definitions.specs.Moves.{along, greatest}

entry-le-greatest : (entries : List ℤ) (i : ℕ) → unsigned_abs (slice_index_or entries i (pos 0)) ≤ greatest entries
entry-le-greatest [] i = omega arith
entry-le-greatest (x ∷ entries) zero = omega arith
entry-le-greatest (x ∷ entries) (suc i) = omega (arith, entry-le-greatest entries i)

-- the product along k letters is at most the k-th power of the greatest entry
pub along-bound : (entries : List ℤ) (word : List ℕ) → unsigned_abs (along entries word) ≤ greatest entries ^ length word
along-bound entries [] = omega (arith, pow-zero (greatest entries))
along-bound entries (a ∷ word) =
    omega (
      arith,
      unsigned_abs-mul (slice_index_or entries (a - 1) (pos 0)) (along entries word),
      pow-suc (greatest entries) (length word),
      mul-le-mul (entry-le-greatest entries (a - 1)) (along-bound entries word),
    )
