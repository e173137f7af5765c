-- The map by names through each edit, and that names differ.
use Rattle.std.proofs.Common.{◌≡◌, ◌∙◌, ℕ, refl, sym, ap, subst, List, [], ◌∷◌, Option, None, Some, Bool, true, false, cond, inl, inr}
use Rattle.std.specs.List.{IsDistinct, AllByRecursion}
use Rattle.std.specs.Option.{option_map}
use Rattle.std.specs.Str.{bytes_eq}
use Rattle.std.proofs.lemmas.Bool.{cases_lt, cases_Bool}
use Rattle.std.proofs.lemmas.Map.Keys.{IsDistinct-head, IsDistinct-tail, IsDistinct-cons}
use Rattle.definitions.specs.Moves.{Parts}
use Rattle.definitions.specs.Rows.{RowValue, with_row}
use Rattle.increments.specs.Edits.{is_named, row_of, with_move, without}
use Rattle.increments.specs.Tables.{place_of}
use Rattle.increments.proofs.Places.{name_laws, found, passed, place_in, names_in, passes, stops, without-named, without-other, with_move-named, with_move-other}

-- a name that no row has
pub unnamed-none : (name : List ℕ) (rows : List RowValue) → row_of name rows ≡ None → AllByRecursion (λ y. bytes_eq name y ≡ false) (names_in rows)
unnamed-none name [] none = tt
unnamed-none name (r ∷ rows) none =
    elim (cases_Bool (is_named name r)) [
      | inl named ↦ (let h : Some r ≡ None = sym (found name r rows named) ∙ none in absurd (cc))
      | inr other ↦ (name_laws.symm name r.name ∙ other, unnamed-none name rows (sym (passed name r rows other) ∙ none))
    ]

-- the row of a name, once a row of a new name is there
pub row_of-with_row : (name : List ℕ) (row : RowValue) (rows : List RowValue) → row_of row.name rows ≡ None
    → row_of name (with_row row rows) ≡ cond (is_named name row) (Some row) (row_of name rows)
row_of-with_row name row [] none = refl
row_of-with_row name row (r ∷ rows) none =
    elim (cases_lt row.tick r.tick) [
      | inl before ↦ (ap (row_of name) (stops row r rows before))
      | inr after ↦ (
          let apart : bytes_eq row.name r.name ≡ false = (unnamed-none row.name (r ∷ rows) none).0 in
          let none_later : row_of row.name rows ≡ None = sym (passed row.name r rows (name_laws.symm r.name row.name ∙ apart)) ∙ none in
          let later : row_of name (with_row row rows) ≡ cond (is_named name row) (Some row) (row_of name rows) = row_of-with_row name row rows none_later in
          ap (row_of name) (passes row r rows after)
          ∙ elim (cases_Bool (is_named name r)) as (λ _. row_of name (r ∷ with_row row rows) ≡ cond (is_named name row) (Some row) (row_of name (r ∷ rows))) [
            | inl named ↦ (
                let differs : is_named name row ≡ false = name_laws.symm row.name name ∙ sym (name_laws.congr r.name name row.name named) ∙ name_laws.symm r.name row.name ∙ apart in
                found name r (with_row row rows) named ∙ sym (found name r rows named) ∙ sym (ap (λ b. cond b (Some row) (row_of name (r ∷ rows))) differs))
            | inr other ↦ (passed name r (with_row row rows) other ∙ later ∙ sym (ap (λ o. cond (is_named name row) (Some row) o) (passed name r rows other)))
          ])
    ]

-- the same with or without a condition
either : (b : Bool) (o : Option RowValue) → o ≡ cond b o o
either true o = refl
either false o = refl

-- once the row of a name is gone
pub row_of-without : (name gone : List ℕ) (rows : List RowValue) → row_of name (without gone rows) ≡ cond (bytes_eq gone name) None (row_of name rows)
row_of-without name gone [] = either (bytes_eq gone name) None
row_of-without name gone (r ∷ rows) =
    let rest : row_of name (without gone rows) ≡ cond (bytes_eq gone name) None (row_of name rows) = row_of-without name gone rows in
    elim (cases_Bool (is_named gone r)) [
      | inl first ↦ (
          let after : row_of name (without gone (r ∷ rows)) ≡ cond (bytes_eq gone name) None (row_of name rows) = ap (row_of name) (without-named gone r rows first) ∙ rest in
          elim (cases_Bool (bytes_eq gone name)) as (λ _. row_of name (without gone (r ∷ rows)) ≡ cond (bytes_eq gone name) None (row_of name (r ∷ rows))) [
            | inl same ↦ (after ∙ ap (λ b. cond b None (row_of name rows)) same ∙ sym (ap (λ b. cond b None (row_of name (r ∷ rows))) same))
            | inr differs ↦ (after ∙ ap (cond (bytes_eq gone name) None) (sym (passed name r rows (name_laws.congr r.name gone name first ∙ differs))))
          ])
      | inr kept ↦ (
          ap (row_of name) (without-other gone r rows kept)
          ∙ elim (cases_Bool (is_named name r)) as (λ _. row_of name (r ∷ without gone rows) ≡ cond (bytes_eq gone name) None (row_of name (r ∷ rows))) [
            | inl named ↦ (
                let differs : bytes_eq gone name ≡ false = name_laws.symm gone name ∙ sym (name_laws.congr r.name name gone named) ∙ kept in
                found name r (without gone rows) named ∙ sym (found name r rows named) ∙ sym (ap (λ b. cond b None (row_of name (r ∷ rows))) differs))
            | inr other ↦ (passed name r (without gone rows) other ∙ rest ∙ ap (cond (bytes_eq gone name) None) (sym (passed name r rows other)))
          ])
    ]

-- two rows of one name and one place before the same others
same-head : (name : List ℕ) (r q : RowValue) (rows moved : List RowValue) → is_named name q ≡ is_named name r → place_of q ≡ place_of r → place_in name moved ≡ place_in name rows
    → place_in name (q ∷ moved) ≡ place_in name (r ∷ rows)
same-head name r q rows moved named place rest =
    elim (cases_Bool (is_named name r)) [
      | inl same ↦ (ap (option_map place_of) (found name q moved (named ∙ same)) ∙ ap Some place ∙ sym (ap (option_map place_of) (found name r rows same)))
      | inr other ↦ (ap (option_map place_of) (passed name q moved (named ∙ other)) ∙ rest ∙ sym (ap (option_map place_of) (passed name r rows other)))
    ]

-- another move leaves the places by name
pub place_in-with_move : (name changed : List ℕ) (x : Parts) (rows : List RowValue) → place_in name (with_move changed x rows) ≡ place_in name rows
place_in-with_move name changed x [] = refl
place_in-with_move name changed x (r ∷ rows) =
    elim (cases_Bool (is_named changed r)) [
      | inl named ↦ (ap (place_in name) (with_move-named changed x r rows named) ∙ same-head name r (record r { x = x }) rows (with_move changed x rows) refl refl (place_in-with_move name changed x rows))
      | inr other ↦ (ap (place_in name) (with_move-other changed x r rows other) ∙ same-head name r r rows (with_move changed x rows) refl refl (place_in-with_move name changed x rows))
    ]

-- and the names
pub names_in-with_move : (changed : List ℕ) (x : Parts) (rows : List RowValue) → names_in (with_move changed x rows) ≡ names_in rows
names_in-with_move changed x [] = refl
names_in-with_move changed x (r ∷ rows) =
    elim (cases_Bool (is_named changed r)) [
      | inl named ↦ (ap names_in (with_move-named changed x r rows named) ∙ ap (λ ns. r.name ∷ ns) (names_in-with_move changed x rows))
      | inr other ↦ (ap names_in (with_move-other changed x r rows other) ∙ ap (λ ns. r.name ∷ ns) (names_in-with_move changed x rows))
    ]

option_map-cond : (b : Bool) (o p : Option RowValue) → option_map place_of (cond b o p) ≡ cond b (option_map place_of o) (option_map place_of p)
option_map-cond true o p = refl
option_map-cond false o p = refl

-- the places by name, once a row of a new name is there
pub place_in-with_row : (name : List ℕ) (row : RowValue) (rows : List RowValue) → row_of row.name rows ≡ None
    → place_in name (with_row row rows) ≡ cond (bytes_eq row.name name) (Some (place_of row)) (place_in name rows)
place_in-with_row name row rows none = ap (option_map place_of) (row_of-with_row name row rows none) ∙ option_map-cond (bytes_eq row.name name) (Some row) (row_of name rows)

-- the places by name, once the row of a name is gone
pub place_in-without : (name gone : List ℕ) (rows : List RowValue) → place_in name (without gone rows) ≡ cond (bytes_eq gone name) None (place_in name rows)
place_in-without name gone rows = ap (option_map place_of) (row_of-without name gone rows) ∙ option_map-cond (bytes_eq gone name) None (row_of name rows)

each-with_row : (P : List ℕ → Type 0) (row : RowValue) (rows : List RowValue) → P row.name → AllByRecursion P (names_in rows) → AllByRecursion P (names_in (with_row row rows))
each-with_row P row [] here all = (here, tt)
each-with_row P row (r ∷ rows) here all =
    elim (cases_lt row.tick r.tick) [
      | inl before ↦ (subst (λ (rs : List RowValue). AllByRecursion P (names_in rs)) (sym (stops row r rows before)) (here, all))
      | inr after ↦ (subst (λ (rs : List RowValue). AllByRecursion P (names_in rs)) (sym (passes row r rows after)) (all.0, each-with_row P row rows here all.1))
    ]

-- the names differ, once a row of a new name is there
pub IsDistinct-with_row : (row : RowValue) (rows : List RowValue) → row_of row.name rows ≡ None → IsDistinct bytes_eq (names_in rows) → IsDistinct bytes_eq (names_in (with_row row rows))
IsDistinct-with_row row [] none apart = IsDistinct-cons bytes_eq row.name [] tt apart
IsDistinct-with_row row (r ∷ rows) none apart =
    let new : AllByRecursion (λ y. bytes_eq row.name y ≡ false) (names_in (r ∷ rows)) = unnamed-none row.name (r ∷ rows) none in
    let differs : bytes_eq r.name row.name ≡ false = name_laws.symm r.name row.name ∙ new.0 in
    elim (cases_lt row.tick r.tick) [
      | inl before ↦ (
          subst (λ (rs : List RowValue). IsDistinct bytes_eq (names_in rs)) (sym (stops row r rows before)) (IsDistinct-cons bytes_eq row.name (names_in (r ∷ rows)) new apart))
      | inr after ↦ (
          subst (λ (rs : List RowValue). IsDistinct bytes_eq (names_in rs)) (sym (passes row r rows after))
          (IsDistinct-cons bytes_eq r.name (names_in (with_row row rows))
          (each-with_row (λ y. bytes_eq r.name y ≡ false) row rows differs (IsDistinct-head bytes_eq r.name (names_in rows) apart))
          (IsDistinct-with_row row rows (sym (passed row.name r rows differs) ∙ none) (IsDistinct-tail bytes_eq r.name (names_in rows) apart))))
    ]

each-without : (P : List ℕ → Type 0) (gone : List ℕ) (rows : List RowValue) → AllByRecursion P (names_in rows) → AllByRecursion P (names_in (without gone rows))
each-without P gone [] all = tt
each-without P gone (r ∷ rows) all =
    elim (cases_Bool (is_named gone r)) [
      | inl named ↦ (subst (λ (rs : List RowValue). AllByRecursion P (names_in rs)) (sym (without-named gone r rows named)) (each-without P gone rows all.1))
      | inr other ↦ (subst (λ (rs : List RowValue). AllByRecursion P (names_in rs)) (sym (without-other gone r rows other)) (all.0, each-without P gone rows all.1))
    ]

-- the names differ, once the row of a name is gone
pub IsDistinct-without : (gone : List ℕ) (rows : List RowValue) → IsDistinct bytes_eq (names_in rows) → IsDistinct bytes_eq (names_in (without gone rows))
IsDistinct-without gone [] apart = apart
IsDistinct-without gone (r ∷ rows) apart =
    let rest : IsDistinct bytes_eq (names_in (without gone rows)) = IsDistinct-without gone rows (IsDistinct-tail bytes_eq r.name (names_in rows) apart) in
    elim (cases_Bool (is_named gone r)) [
      | inl named ↦ (subst (λ (rs : List RowValue). IsDistinct bytes_eq (names_in rs)) (sym (without-named gone r rows named)) rest)
      | inr other ↦ (
          subst (λ (rs : List RowValue). IsDistinct bytes_eq (names_in rs)) (sym (without-other gone r rows other))
          (IsDistinct-cons bytes_eq r.name (names_in (without gone rows)) (each-without (λ y. bytes_eq r.name y ≡ false) gone rows (IsDistinct-head bytes_eq r.name (names_in rows) apart)) rest))
    ]
