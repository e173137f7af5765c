-- The rows of two intervals that meet are those of both together.
use Rattle.std.proofs.Common.{◌≡◌, ◌∙◌, ℕ, zero, suc, ◌<◌, ◌≤◌, ◌⊎◌, inl, inr, refl, arith, List, [], ◌∷◌, ◌++◌, Bool, true, false, cond, get_or}
use Rattle.std.specs.Prelude.{All, nat_le, nat_lt}
use Rattle.std.proofs.lemmas.Bool.{cases_lt}
use Rattle.std.proofs.lemmas.Bool.Decides.{nat_tests}
use Rattle.std.proofs.lemmas.List.Elements.{All-head, All-tail}
use Rattle.definitions.specs.Rows.{RowValue, lies_in, rows_in}
use Rattle.increments.specs.Edits.{IsBefore, IsInOrder}

not-later : (r s : RowValue) → IsBefore r s → r.tick ≤ s.tick
not-later r s (inl earlier) = omega (arith, earlier)
not-later r s (inr same) = omega (arith, same.0)

in_order-head : (r : RowValue) (rows : List RowValue) → IsInOrder (r ∷ rows) → All (λ s. r.tick ≤ s.tick) rows
in_order-head r rows order k d h = not-later r (get_or rows k d) (order zero (suc k) d (omega arith) (omega arith))

-- the rows after the first are in order too
pub in_order-tail : (r : RowValue) (rows : List RowValue) → IsInOrder (r ∷ rows) → IsInOrder rows
in_order-tail r rows order i j d lt within = order (suc i) (suc j) d (omega arith) (omega arith)

-- there are no rows in an empty interval
pub no-rows : (a : ℕ) (rows : List RowValue) → rows_in a a rows ≡ []
no-rows a [] = refl
no-rows a (r ∷ rows) =
    let out : lies_in a a r.tick ≡ false = grind (arith, nat_tests) in
    rw out (no-rows a rows)

none-before : (a b t : ℕ) (rows : List RowValue) → b ≤ t → All (λ s. t ≤ s.tick) rows → rows_in a b rows ≡ []
none-before a b t [] h later = refl
none-before a b t (r ∷ rows) h later =
    let at : t ≤ r.tick = All-head (λ s. t ≤ s.tick) r rows later in
    let out : lies_in a b r.tick ≡ false = grind (arith, nat_tests) in
    rw out (none-before a b t rows h (All-tail (λ s. t ≤ s.tick) r rows later))

in-left : (r : RowValue) (t : Bool) (left right : List RowValue) → cond t (r ∷ (left ++ right)) (left ++ right) ≡ cond t (r ∷ left) left ++ right
in-left r true left right = refl
in-left r false left right = refl

-- the rows in [a, c) are those in [a, b) and then those in [b, c)
pub rows_in-join : (a b c : ℕ) (rows : List RowValue) → IsInOrder rows → a ≤ b → b ≤ c → rows_in a c rows ≡ rows_in a b rows ++ rows_in b c rows
rows_in-join a b c [] order ab bc = refl
rows_in-join a b c (r ∷ rows) order ab bc =
    let rest : rows_in a c rows ≡ rows_in a b rows ++ rows_in b c rows = rows_in-join a b c rows (in_order-tail r rows order) ab bc in
    elim (cases_lt r.tick b) [
      | inl early ↦
          let same : lies_in a c r.tick ≡ lies_in a b r.tick = grind (arith, nat_tests) in
          let out : lies_in b c r.tick ≡ false = grind (arith, nat_tests) in
          rw (same, out, rest) (in-left r (lies_in a b r.tick) (rows_in a b rows) (rows_in b c rows))
      | inr late ↦
          let same : lies_in a c r.tick ≡ lies_in b c r.tick = grind (arith, nat_tests) in
          let out : lies_in a b r.tick ≡ false = grind (arith, nat_tests) in
          let none : rows_in a b rows ≡ [] = none-before a b r.tick rows (omega (arith, late)) (in_order-head r rows order) in
          rw (same, out, rest, none) refl
    ]
