-- Rows put one after the other in their order.
use Rattle.std.proofs.Common.{◌≡◌, ◌∙◌, ℕ, ◌<◌, ◌≤◌, refl, sym, ap, subst, arith, List, [], ◌∷◌, ◌++◌, length, get_or, length-append, None, false, inl, inr}
use Rattle.std.specs.Prelude.{All, String}
use Rattle.std.specs.List.{IsDistinct, AllByRecursion}
use Rattle.std.specs.Str.{bytes_eq}
use Rattle.std.specs.HashMap.{HashMap}
use Rattle.std.specs.BTreeMap.{BTreeMap, values}
use Rattle.std.proofs.Math.Seq.{get_or-append_seam}
use Rattle.std.proofs.lemmas.List.{get_or_append_left}
use Rattle.std.proofs.lemmas.List.Elements.{All-head, All-tail, All-weaker}
use Rattle.std.proofs.lemmas.Map.Keys.{IsDistinct-head, IsDistinct-tail}
use Rattle.definitions.specs.Rows.{RowValue, with_row}
use Rattle.increments.specs.Edits.{IsBefore, IsInOrder, row_of}
use Rattle.increments.specs.Tables.{AreTied}
use Rattle.increments.proofs.Places.{names_in, passes, passed}
use Rattle.increments.proofs.Order.{tied-in_order}

not-after : (r row : RowValue) → IsBefore r row → r.tick ≤ row.tick
not-after r row before = elim before [ inl earlier ↦ omega arith | inr same ↦ omega arith ]

younger : (r row : RowValue) → IsBefore r row → r.tick ≡ row.tick → r.birth < row.birth
younger r row before same = elim before [ inl earlier ↦ absurd (omega arith) | inr here ↦ here.1 ]

module _ (row : RowValue) (rest : List RowValue) where
  before-next : (rows : List RowValue) → IsInOrder (rows ++ row ∷ rest) → All (λ r. IsBefore r row) rows
  before-next rows order k d within =
      let last : length rows < length (rows ++ row ∷ rest) = omega (arith, length-append rows (row ∷ rest)) in
      subst (λ r. IsBefore r row) (get_or_append_left rows (row ∷ rest) d k within)
      (subst (IsBefore (get_or (rows ++ row ∷ rest) k d)) (get_or-append_seam rows row rest d) (order k (length rows) d within last))

  named-next : (P : List ℕ → Type 0) (rows : List RowValue) → AllByRecursion P (names_in (rows ++ row ∷ rest)) → P row.name
  named-next P [] each = each.0
  named-next P (r ∷ rows) each = named-next P rows each.1

  unnamed-next : (rows : List RowValue) → IsDistinct bytes_eq (names_in (rows ++ row ∷ rest)) → row_of row.name rows ≡ None
  unnamed-next [] apart = refl
  unnamed-next (r ∷ rows) apart =
      let names : List (List ℕ) = names_in (rows ++ row ∷ rest) in
      passed row.name r rows (named-next (λ y. bytes_eq r.name y ≡ false) rows (IsDistinct-head bytes_eq r.name names apart))
      ∙ unnamed-next rows (IsDistinct-tail bytes_eq r.name names apart)

-- a row comes next after these
pub record IsNext (row : RowValue) (rows : List RowValue) : Type 0 where
  -- no row before has its name
  pub unnamed : row_of row.name rows ≡ None
  -- all rows before come before it in time or birth
  pub after : All (λ r. IsBefore r row) rows

-- each row of the map comes next after those before it
pub next-row : {Y S : Type 0} (rows : BTreeMap (ℕ × ℕ) RowValue) (names : HashMap (String Y) (ℕ × ℕ) S) → AreTied rows names
    → (row : RowValue) (first rest : List RowValue) → first ++ row ∷ rest ≡ values rows → IsNext row first
next-row rows names tied row first rest whole = record {
  unnamed = unnamed-next row rest first (subst (λ (rs : List RowValue). IsDistinct bytes_eq (names_in rs)) (sym whole) tied.apart);
  after = before-next row rest first (subst IsInOrder (sym whole) (tied-in_order rows names tied));
}

-- it is younger than those of its tick
pub youngest : (row : RowValue) (rows : List RowValue) → All (λ r. IsBefore r row) rows → All (λ (r : RowValue). r.tick ≡ row.tick → r.birth < row.birth) rows
youngest row rows before = All-weaker (λ r. IsBefore r row) (λ (r : RowValue). r.tick ≡ row.tick → r.birth < row.birth) (λ r. younger r row) rows before

-- and comes after all of them
pub with_row-last : (row : RowValue) (rows : List RowValue) → All (λ r. IsBefore r row) rows → with_row row rows ≡ rows ++ row ∷ []
with_row-last row [] before = refl
with_row-last row (r ∷ rows) before =
    passes row r rows (not-after r row (All-head (λ r. IsBefore r row) r rows before))
    ∙ ap (λ (rs : List RowValue). r ∷ rs) (with_row-last row rows (All-tail (λ r. IsBefore r row) r rows before))
