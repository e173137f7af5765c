-- The rows of an interval, part after part.
use Rattle.std.proofs.Common.{◌≡◌, ℕ, ◌-◌, ◌/◌, ◌^◌, ◌≤◌, refl, ap, ◌∙◌, arith, List, [], ◌∷◌, ◌++◌, map, false}
use Rattle.std.specs.Prelude.{flat_map}
use Rattle.std.proofs.Math.Nat.{div-mul-le_self, mul-le-mul_right, le_trans}
use Rattle.std.proofs.lemmas.Nat.{le-div, pow_pos}
use Rattle.std.proofs.lemmas.Bool.Decides.{nat_tests}
use Rattle.std.proofs.lemmas.List.{map-append}
use Rattle.definitions.specs.Moves.{Parts}
use Rattle.definitions.specs.Rows.{RowValue, lies_in, rounded, rows_in, moves_of}
use Rattle.increments.specs.Edits.{IsInOrder}
use Rattle.increments.proofs.Joins.{no-rows, rows_in-join}
use Rattle.piecewise.specs.Partitions.{IsRising, last_of, parts_of}

last-later : (a : ℕ) (times : List ℕ) → IsRising a times → a ≤ last_of a times
last-later a [] rising = omega arith
last-later a (b ∷ times) rising = le_trans rising.0 (last-later b times rising.1)

-- the moves of the whole are those of the parts
pub moves-parts : (rows : List RowValue) (a : ℕ) (times : List ℕ) → IsInOrder rows → IsRising a times → moves_of (rows_in a (last_of a times) rows) ≡ flat_map moves_of (parts_of a times rows)
moves-parts rows a [] order rising = ap moves_of (no-rows a rows)
moves-parts rows a (b ∷ times) order rising =
    ap moves_of (rows_in-join a b (last_of b times) rows order rising.0 (last-later b times rising.1))
    ∙ map-append (λ (r : RowValue). r.x) (rows_in a b rows) (rows_in b (last_of b times) rows)
    ∙ ap (λ (moves : List Parts). moves_of (rows_in a b rows) ++ moves) (moves-parts rows b times order rising.1)

-- rounding keeps the order of two times
rounded-forward : (r a b : ℕ) → a ≤ b → rounded r a ≤ rounded r b
rounded-forward r a b le =
    let step : ℕ = 2 ^ (16 - r) in
    mul-le-mul_right step (le-div (a / step) b step (pow_pos (16 - r)) (omega (arith, div-mul-le_self a step)))

-- and of all times
pub rounded-rising : (r a : ℕ) (times : List ℕ) → IsRising a times → IsRising (rounded r a) (map (rounded r) times)
rounded-rising r a [] rising = tt
rounded-rising r a (b ∷ times) rising = (rounded-forward r a b rising.0, rounded-rising r b times rising.1)
