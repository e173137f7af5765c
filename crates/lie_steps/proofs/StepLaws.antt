-- What is known of the series of a move: it begins with 1, the weight bounds it, and it obeys the shuffle relations. Nothing else looks inside a move.
use Rattle.std.proofs.Common.{◌≡◌, ℕ, ◌+◌, ◌≤◌, ◌^◌, ap, arith, pos, ◌*ℤ◌, unsigned_abs, List, [], ◌∷◌, length}
use Rattle.std.specs.Prelude.{All}
use Rattle.std.proofs.Math.Nat.{pow-zero}
use Rattle.std.proofs.lemmas.List.Elements.{All-weaker}
use Rattle.definitions.specs.Words.{Extent, binom}
use Rattle.definitions.specs.Moves.{Parts, IsMove}
use Rattle.definitions.proofs.SignatureLaws.{Bounded, StepsBounded}
use Rattle.shuffle.proofs.ShuffleSums.{over}
use Rattle.definitions.specs.Moves.{lie_series, step, sizes_of, move_weight}
use Rattle.lie_steps.proofs.Exponentials.{exponential-empty, exponential-obeys}
use Rattle.lie_steps.proofs.ExponentialBounds.{exponential-bound}
use Rattle.lie_steps.proofs.LieSeries.{lie_series-primitive, lie_series-IsSized, root_at}

-- a step is 1 at the empty word
pub step-empty : (parts : Parts) → step parts [] ≡ pos 1
unfolding step
step-empty parts = exponential-empty (lie_series parts)

-- a step obeys the shuffle relations
pub step-obeys : (parts : Parts) (u v : List ℕ) → over (step parts) u v ≡ pos (binom (length u + length v) (length u)) *ℤ (step parts u *ℤ step parts v)
unfolding step
step-obeys parts u v = exponential-obeys (lie_series parts) (lie_series-primitive parts) u v

within-parts : (parts : Parts) (word : List ℕ) → 1 ≤ length parts → length word ≤ length parts → unsigned_abs (step parts word) ≤ move_weight parts ^ length word
unfolding step
within-parts parts word some short =
    exponential-bound (λ u. Unit {0}) (length parts) (root_at (length parts) 1 (sizes_of parts)) (move_weight parts) (lie_series parts) (lie_series-IsSized parts some) word tt short

-- at words of at most as many letters as there are parts
pub step-bound : (parts : Parts) (word : List ℕ) → length word ≤ length parts → unsigned_abs (step parts word) ≤ move_weight parts ^ length word
step-bound parts [] short = omega (arith, ap unsigned_abs (step-empty parts), pow-zero (move_weight parts))
step-bound parts (a ∷ word) short = within-parts parts (a ∷ word) (omega arith) short

-- ---- moves of a shape
move-long : (extent : Extent) (x : Parts) → IsMove extent x → extent.depth ≤ length x
move-long extent x is = omega (arith, is.deep)

-- the steps of moves of a shape are bounded by their weights, at words of the shape
pub moves-StepsBounded : (extent : Extent) (moves : List Parts) → All (IsMove extent) moves → StepsBounded extent.depth moves
moves-StepsBounded extent moves are =
    All-weaker (IsMove extent) (λ x. Bounded extent.depth (step x) (move_weight x))
    (λ x is u short. let long : extent.depth ≤ length x = move-long extent x is in step-bound x u (omega arith)) moves are
