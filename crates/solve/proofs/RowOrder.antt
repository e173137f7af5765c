-- Rows of which each stands before the next are in order.
use Rattle.std.proofs.Common.{◌≡◌, ℕ, zero, suc, ◌<◌, ◌≤◌, arith, List, length, get_or, inl, inr, add-one, subst}
use Rattle.std.specs.List.{AllAdjacentBelow}
use Rattle.std.proofs.lemmas.Bool.{cases_lt}
use Rattle.definitions.specs.Rows.{RowValue}
use Rattle.increments.specs.Edits.{IsBefore, IsInOrder}

before-before : (r s t : RowValue) → IsBefore r s → IsBefore s t → IsBefore r t
before-before r s t h k = grind arith

module _ (rows : List RowValue) (n : ℕ) (long : length rows ≤ n) (adjacent : AllAdjacentBelow IsBefore rows n) (d : RowValue) where
  next : (j : ℕ) → suc j < length rows → IsBefore (get_or rows j d) (get_or rows (suc j) d)
  next j within = subst (λ k. IsBefore (get_or rows j d) (get_or rows k d)) (add-one j) (adjacent j d (omega arith))

  from_next : (i j : ℕ) → i < j → j < length rows → IsBefore (get_or rows i d) (get_or rows j d)
  from_next i zero before within = absurd (omega arith)
  from_next i (suc j) before within =
      elim (cases_lt i j) [
        | inl earlier ↦ before-before (get_or rows i d) (get_or rows j d) (get_or rows (suc j) d) (from_next i j earlier (omega arith)) (next j within)
        | inr last ↦ (let same : j ≡ i = omega arith in subst (λ k. IsBefore (get_or rows k d) (get_or rows (suc j) d)) same (next j within))
      ]

-- if each row stands before the next, the rows are in order
pub in_order-from_adjacent : (rows : List RowValue) (n : ℕ) → length rows ≤ n → AllAdjacentBelow IsBefore rows n → IsInOrder rows
in_order-from_adjacent rows n long adjacent = λ i j d before within. from_next rows n long adjacent d i j before within
