-- What each edit leaves of the rows, for their callers.
use Rattle.std.proofs.Common.{◌≡◌, ◌∙◌, ℕ, refl, sym, ap, subst, List, [], ◌∷◌, Option, None, Some, true, false, ◌||◌, inl, inr, true≢false}
use Rattle.std.specs.Prelude.{All, IsTrue, IsSome, IfNone, ◌↔◌}
use Rattle.std.specs.Prelude.{Result, Err}
use Rattle.std.specs.Option.{option_map, is_some}
use Rattle.std.proofs.lemmas.Bool.{cases_lt, cases_Bool}
use Rattle.std.proofs.lemmas.List.Elements.{All-cons, All-head, All-tail}
use Rattle.definitions.specs.Words.{Extent}
use Rattle.definitions.specs.Moves.{Parts}
use Rattle.definitions.specs.Rows.{RowValue, with_row, is_live}
use Rattle.definitions.proofs.Options.{is_some-map}
use Rattle.increments.specs.declared.fault.RowFault.{RowFault}
use Rattle.increments.specs.declared.fault.RowFault.TheVariants.{NameTaken}
use Rattle.increments.specs.Edits.{RowsValue, is_named, row_of, tick_of, with_move, without}
use Rattle.increments.proofs.Places.{found, passed, passes, stops, with_move-named, with_move-other, with_move-none, without-none}

-- a name is live where a row has it
pub is_live-row_of : (name : List ℕ) (rows : List RowValue) → is_live name rows ≡ is_some (row_of name rows)
is_live-row_of name [] = refl
is_live-row_of name (r ∷ rows) =
    elim (cases_Bool (is_named name r)) [
      | inl named ↦ (ap (λ b. b || is_live name rows) named ∙ sym (ap is_some (found name r rows named)))
      | inr other ↦ (ap (λ b. b || is_live name rows) other ∙ is_live-row_of name rows ∙ sym (ap is_some (passed name r rows other)))
    ]

-- what is found by name is there exactly where the name is live
pub live : {B : Type 0} (f : RowValue → B) (name : List ℕ) (rows : List RowValue) (r : Option B) → r ≡ option_map f (row_of name rows) → IsSome r ↔ IsTrue (is_live name rows)
live f name rows r is =
    let same : is_some r ≡ is_live name rows = ap is_some is ∙ is_some-map f (row_of name rows) ∙ sym (is_live-row_of name rows) in
    (λ h. sym same ∙ h, λ h. same ∙ h)

-- the refusal of a live name comes where the name is live
module _ {B : Type 0} (f : RowValue → B) (name : List ℕ) (rows : List RowValue) (o : Option B) (is : o ≡ option_map f (row_of name rows)) (r : Result (Unit {0}) RowFault) where
  -- the name was found
  pub refused : is_some o ≡ true → r ≡ Err NameTaken → (r ≡ Err NameTaken) ↔ IsTrue (is_live name rows)
  refused there taken = (λ h. (live f name rows o is).0 there, λ h. taken)

  -- the name was not found
  pub not_refused : is_some o ≡ false → (r ≡ Err NameTaken → ⊥) → (r ≡ Err NameTaken) ↔ IsTrue (is_live name rows)
  not_refused absent other = (λ h. absurd (other h), λ h. absurd (true≢false (sym ((live f name rows o is).1 h) ∙ absent)))

unmapped : {A B : Type 0} (f : A → B) (o : Option A) → None ≡ option_map f o → o ≡ None
unmapped f None none = refl
unmapped f (Some x) none = absurd (cc)

module _ (extent : Extent) (name : List ℕ) (rows new : List RowValue) where
  same-rows : new ≡ rows → ◌≡◌ {A = RowsValue} (record { extent = extent; rows = new }) (record { extent = extent; rows = rows })
  same-rows h = ap (λ (rs : List RowValue). record { extent = extent; rows = rs }) h

  -- a move for no row leaves all as it was
  pub uncorrected : (x : Parts) (r : Option ℕ) → r ≡ tick_of name rows → new ≡ with_move name x rows
      → IfNone r (◌≡◌ {A = RowsValue} (record { extent = extent; rows = new }) (record { extent = extent; rows = rows }))
  uncorrected x None is h = same-rows (h ∙ with_move-none name x rows (unmapped (λ row. row.tick) (row_of name rows) is))
  uncorrected x (Some tick) is h = tt

  -- taking no row out leaves all as it was
  pub unremoved : (r : Option ℕ) → r ≡ tick_of name rows → new ≡ without name rows
      → IfNone r (◌≡◌ {A = RowsValue} (record { extent = extent; rows = new }) (record { extent = extent; rows = rows }))
  unremoved None is h = same-rows (h ∙ without-none name rows (unmapped (λ row. row.tick) (row_of name rows) is))
  unremoved (Some tick) is h = tt

module _ (P : RowValue → Type 0) where
  -- what holds of the rows and of a new one
  pub All-with_row : (row : RowValue) (rows : List RowValue) → P row → All P rows → All P (with_row row rows)
  All-with_row row [] here all = All-cons P row [] here all
  All-with_row row (r ∷ rows) here all =
      elim (cases_lt row.tick r.tick) [
        | inl before ↦ (subst (All P) (sym (stops row r rows before)) (All-cons P row (r ∷ rows) here all))
        | inr after ↦ (subst (All P) (sym (passes row r rows after)) (All-cons P r (with_row row rows) (All-head P r rows all) (All-with_row row rows here (All-tail P r rows all))))
      ]

  -- what holds of the rows, and of each with another move
  pub All-with_move : (name : List ℕ) (x : Parts) (rows : List RowValue) → ((r : RowValue) → P r → P (record r { x = x })) → All P rows → All P (with_move name x rows)
  All-with_move name x [] changed all = all
  All-with_move name x (r ∷ rows) changed all =
      let rest : All P (with_move name x rows) = All-with_move name x rows changed (All-tail P r rows all) in
      elim (cases_Bool (is_named name r)) [
        | inl named ↦ (subst (All P) (sym (with_move-named name x r rows named)) (All-cons P (record r { x = x }) (with_move name x rows) (changed r (All-head P r rows all)) rest))
        | inr other ↦ (subst (All P) (sym (with_move-other name x r rows other)) (All-cons P r (with_move name x rows) (All-head P r rows all) rest))
      ]
