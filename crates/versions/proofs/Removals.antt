-- A new row that is removed again leaves the rows as they were.
use Rattle.std.proofs.Common.{◌≡◌, ◌∙◌, ℕ, refl, sym, ap, List, [], ◌∷◌, Option, Some, None, false, inl, inr}
use Rattle.std.specs.Option.{is_some}
use Rattle.std.proofs.lemmas.Bool.{cases_lt, cases_Bool}
use Rattle.definitions.specs.Rows.{RowValue, with_row, is_live}
use Rattle.increments.specs.Edits.{is_named, row_of, without}
use Rattle.increments.proofs.Places.{name_laws, passes, stops, found, passed, without-named, without-other, without-none}
use Rattle.increments.proofs.Edits.{is_live-row_of}

absent : (o : Option RowValue) → is_some o ≡ false → o ≡ None
absent None h = refl
absent (Some row) h = absurd (cc)

-- a name that isn't live has no row
pub no_row : (name : List ℕ) (rows : List RowValue) → is_live name rows ≡ false → row_of name rows ≡ None
no_row name rows free = absent (row_of name rows) (sym (is_live-row_of name rows) ∙ free)

removed : (row : RowValue) (rows : List RowValue) → row_of row.name rows ≡ None → without row.name (with_row row rows) ≡ rows
removed row [] none = without-named row.name row [] (name_laws.refl row.name)
removed row (r ∷ rows) none =
    elim (cases_Bool (is_named row.name r)) [
      | inl named ↦ (let h : Some r ≡ None = sym (found row.name r rows named) ∙ none in absurd (cc))
      | inr other ↦ elim (cases_lt row.tick r.tick) [
        | inl before ↦ (
            ap (without row.name) (stops row r rows before) ∙ without-named row.name row (r ∷ rows) (name_laws.refl row.name)
            ∙ without-none row.name (r ∷ rows) none)
        | inr after ↦ (
            ap (without row.name) (passes row r rows after) ∙ without-other row.name r (with_row row rows) other
            ∙ ap (λ (rs : List RowValue). r ∷ rs) (removed row rows (sym (passed row.name r rows other) ∙ none)))
      ]
    ]

-- a new row of a name that isn't live, removed again, leaves the rows as they were
pub without-with_row : (row : RowValue) (rows : List RowValue) → is_live row.name rows ≡ false → without row.name (with_row row rows) ≡ rows
without-with_row row rows free = removed row rows (no_row row.name rows free)
