-- The map by places through each edit.
use Rattle.std.proofs.Common.{◌≡◌, ◌∙◌, ℕ, ◌<◌, ◌≤◌, refl, sym, ap, arith, List, [], ◌∷◌, Option, None, Some, Bool, true, false, cond, not, inl, inr}
use Rattle.std.specs.Prelude.{All, map}
use Rattle.std.specs.declared.cmp.Ordering.TheVariants.{Less, Greater}
use Rattle.std.specs.Ordering.{eq_by_cmp, match_ordering, is_eq}
use Rattle.std.specs.Cmp.{IsTotalOrder, IsEquivalence}
use Rattle.std.specs.List.{IsDistinct, AllByRecursion}
use Rattle.std.specs.Map.{lookup, remove_entry, set_value, keys_of, values_of}
use Rattle.std.specs.BTreeMap.{insert_entry, is_at}
use Rattle.std.specs.Option.{option_map}
use Rattle.std.specs.Str.{bytes_eq}
use Rattle.std.proofs.lemmas.Bool.{cases_lt, cases_Bool}
use Rattle.std.proofs.lemmas.Bool.Decides.{nat_tests}
use Rattle.std.proofs.lemmas.Cmp.{nat_cmp_total, on_total, then_total, eq_by_cmp_equiv, nat_list_eq_equiv}
use Rattle.std.proofs.lemmas.List.Elements.{All-head, All-tail}
use Rattle.std.proofs.lemmas.Option.{same_Some}
use Rattle.std.proofs.lemmas.Map.Keys.{IsDistinct-head, IsDistinct-tail}
use Rattle.definitions.specs.Moves.{Parts}
use Rattle.definitions.specs.Rows.{RowValue, with_row}
use Rattle.increments.specs.Edits.{is_named, row_of, with_move, without}
use Rattle.increments.specs.Tables.{place_of, entry_of, place_cmp}

place_total : IsTotalOrder place_cmp
place_total = then_total (on_total (λ (p : ℕ × ℕ). p.0) nat_cmp_total) (on_total (λ (p : ℕ × ℕ). p.1) nat_cmp_total)

-- equal ticks and births
abbrev pub same_place : ℕ × ℕ → ℕ × ℕ → Bool
same_place = eq_by_cmp place_cmp

same_laws : IsEquivalence same_place
same_laws = eq_by_cmp_equiv place_total

cmp-before : (a b c d : ℕ) → a < c → place_cmp (a, b) (c, d) ≡ Less
cmp-before a b c d h = grind (arith, nat_tests)

cmp-after : (a b c d : ℕ) → c ≤ a → (c ≡ a → d < b) → place_cmp (a, b) (c, d) ≡ Greater
cmp-after a b c d h k = grind (arith, nat_tests)

-- a new row comes after a row of its own tick or an earlier one
pub passes : (row r : RowValue) (rows : List RowValue) → r.tick ≤ row.tick → with_row row (r ∷ rows) ≡ r ∷ with_row row rows
passes row r rows h = grind (arith, nat_tests)

-- it comes before a row of a later tick
pub stops : (row r : RowValue) (rows : List RowValue) → row.tick < r.tick → with_row row (r ∷ rows) ≡ row ∷ r ∷ rows
stops row r rows h = grind (arith, nat_tests)

-- the rows of the map
pub values_of-entries : (rows : List RowValue) → values_of (map entry_of rows) ≡ rows
values_of-entries [] = refl
values_of-entries (r ∷ rows) = ap (λ (rs : List RowValue). r ∷ rs) (values_of-entries rows)

-- a new row, which is younger than the others of its tick
pub insert_entry-row : (row : RowValue) (rows : List RowValue) → All (λ (r : RowValue). r.tick ≡ row.tick → r.birth < row.birth) rows
    → insert_entry place_cmp (map entry_of rows) (place_of row) row ≡ map entry_of (with_row row rows)
insert_entry-row row [] young = refl
insert_entry-row row (r ∷ rows) young =
    elim (cases_lt row.tick r.tick) [
      | inl before ↦
          ap (λ o. match_ordering o (entry_of row ∷ entry_of r ∷ map entry_of rows) ((place_of r, row) ∷ map entry_of rows) (entry_of r ∷ insert_entry place_cmp (map entry_of rows) (place_of row) row))
          (cmp-before row.tick row.birth r.tick r.birth before)
          ∙ ap (map entry_of) (sym (stops row r rows before))
      | inr after ↦
          ap (λ o. match_ordering o (entry_of row ∷ entry_of r ∷ map entry_of rows) ((place_of r, row) ∷ map entry_of rows) (entry_of r ∷ insert_entry place_cmp (map entry_of rows) (place_of row) row))
          (cmp-after row.tick row.birth r.tick r.birth after (All-head (λ (q : RowValue). q.tick ≡ row.tick → q.birth < row.birth) r rows young))
          ∙ ap (λ es. entry_of r ∷ es) (insert_entry-row row rows (All-tail (λ (q : RowValue). q.tick ≡ row.tick → q.birth < row.birth) r rows young))
          ∙ ap (map entry_of) (sym (passes row r rows after))
    ]

-- the place of the row of a name
abbrev pub place_in : List ℕ → List RowValue → Option (ℕ × ℕ)
place_in name rows = option_map place_of (row_of name rows)

-- the names of the rows, in their order
abbrev pub names_in : List RowValue → List (List ℕ)
names_in rows = map (λ row. row.name) rows

-- names are equal or not as an equivalence says
pub name_laws : IsEquivalence bytes_eq
name_laws = nat_list_eq_equiv

-- a place that differs from those of all rows differs from that of the row of a name
apart-place : (name : List ℕ) (p q : ℕ × ℕ) (rows : List RowValue) → AllByRecursion (λ y. same_place q y ≡ false) (keys_of (map entry_of rows))
    → place_in name rows ≡ Some p → same_place q p ≡ false
apart-place name p q [] apart at = absurd (cc)
apart-place name p q (r ∷ rows) apart at =
    elim (cases_Bool (is_named name r)) [
      | inl named ↦ (
          let is : Some (place_of r) ≡ Some p = sym (ap (λ b. option_map place_of (cond b (Some r) (row_of name rows))) named) ∙ at in
          sym (ap (same_place q) (same_Some (place_of r) p is)) ∙ apart.0)
      | inr other ↦ (apart-place name p q rows apart.1 (sym (ap (λ b. option_map place_of (cond b (Some r) (row_of name rows))) other) ∙ at))
    ]

-- a row of another name than this one, which has the name in question
unnamed : (name other y : List ℕ) → bytes_eq other name ≡ true → bytes_eq other y ≡ false → bytes_eq y name ≡ false
unnamed name other y same apart = name_laws.symm y name ∙ sym (name_laws.congr other name y same) ∙ apart

-- the row of the name goes
pub without-named : (name : List ℕ) (r : RowValue) (rows : List RowValue) → is_named name r ≡ true → without name (r ∷ rows) ≡ without name rows
without-named name r rows h = ap (λ b. cond (not b) (r ∷ without name rows) (without name rows)) h

-- another row stays
pub without-other : (name : List ℕ) (r : RowValue) (rows : List RowValue) → is_named name r ≡ false → without name (r ∷ rows) ≡ r ∷ without name rows
without-other name r rows h = ap (λ b. cond (not b) (r ∷ without name rows) (without name rows)) h

-- the row of the name has the other move
pub with_move-named : (name : List ℕ) (x : Parts) (r : RowValue) (rows : List RowValue) → is_named name r ≡ true
    → with_move name x (r ∷ rows) ≡ record r { x = x } ∷ with_move name x rows
with_move-named name x r rows h = ap (λ b. cond b (record r { x = x }) r ∷ with_move name x rows) h

-- another row keeps its own
pub with_move-other : (name : List ℕ) (x : Parts) (r : RowValue) (rows : List RowValue) → is_named name r ≡ false → with_move name x (r ∷ rows) ≡ r ∷ with_move name x rows
with_move-other name x r rows h = ap (λ b. cond b (record r { x = x }) r ∷ with_move name x rows) h

-- rows of other names stay
pub without-unnamed : (name other : List ℕ) (rows : List RowValue) → bytes_eq other name ≡ true → AllByRecursion (λ y. bytes_eq other y ≡ false) (names_in rows) → without name rows ≡ rows
without-unnamed name other [] same apart = refl
without-unnamed name other (r ∷ rows) same apart =
    without-other name r rows (unnamed name other r.name same apart.0) ∙ ap (λ (rs : List RowValue). r ∷ rs) (without-unnamed name other rows same apart.1)

-- where no row has the name, each keeps its move
pub with_move-unnamed : (name other : List ℕ) (x : Parts) (rows : List RowValue) → bytes_eq other name ≡ true → AllByRecursion (λ y. bytes_eq other y ≡ false) (names_in rows)
    → with_move name x rows ≡ rows
with_move-unnamed name other x [] same apart = refl
with_move-unnamed name other x (r ∷ rows) same apart =
    with_move-other name x r rows (unnamed name other r.name same apart.0) ∙ ap (λ (rs : List RowValue). r ∷ rs) (with_move-unnamed name other x rows same apart.1)

-- the row of the name is the first that has it
pub found : (name : List ℕ) (r : RowValue) (rows : List RowValue) → is_named name r ≡ true → row_of name (r ∷ rows) ≡ Some r
found name r rows h = ap (λ b. cond b (Some r) (row_of name rows)) h

-- a row of another name is passed
pub passed : (name : List ℕ) (r : RowValue) (rows : List RowValue) → is_named name r ≡ false → row_of name (r ∷ rows) ≡ row_of name rows
passed name r rows h = ap (λ b. cond b (Some r) (row_of name rows)) h

-- no row has the name
pub without-none : (name : List ℕ) (rows : List RowValue) → row_of name rows ≡ None → without name rows ≡ rows
without-none name [] none = refl
without-none name (r ∷ rows) none =
    elim (cases_Bool (is_named name r)) [
      | inl named ↦ (let h : Some r ≡ None = sym (found name r rows named) ∙ none in absurd (cc))
      | inr other ↦ (without-other name r rows other ∙ ap (λ (rs : List RowValue). r ∷ rs) (without-none name rows (sym (passed name r rows other) ∙ none)))
    ]

-- where no row is found by the name, each keeps its move
pub with_move-none : (name : List ℕ) (x : Parts) (rows : List RowValue) → row_of name rows ≡ None → with_move name x rows ≡ rows
with_move-none name x [] none = refl
with_move-none name x (r ∷ rows) none =
    elim (cases_Bool (is_named name r)) [
      | inl named ↦ (let h : Some r ≡ None = sym (found name r rows named) ∙ none in absurd (cc))
      | inr other ↦ (with_move-other name x r rows other ∙ ap (λ (rs : List RowValue). r ∷ rs) (with_move-none name x rows (sym (passed name r rows other) ∙ none)))
    ]

-- the place p of the row of a name, in a map by places whose rows have names of their own
module _ (name : List ℕ) (p : ℕ × ℕ) where
  here : (r : RowValue) (rows : List RowValue) → is_named name r ≡ true → place_in name (r ∷ rows) ≡ Some p → place_of r ≡ p
  here r rows named at = same_Some (place_of r) p (sym (ap (option_map place_of) (found name r rows named)) ∙ at)

  hit : (r : RowValue) → place_of r ≡ p → is_at (place_cmp p) (place_of r) ≡ true
  hit r is = ap (λ q. is_eq (place_cmp q (place_of r))) (sym is) ∙ same_laws.refl (place_of r)

  miss : (r : RowValue) (rows : List RowValue) → IsDistinct same_place (keys_of (map entry_of (r ∷ rows))) → place_in name rows ≡ Some p → is_at (place_cmp p) (place_of r) ≡ false
  miss r rows places at =
      same_laws.symm p (place_of r) ∙ apart-place name p (place_of r) rows (IsDistinct-head same_place (place_of r) (keys_of (map entry_of rows)) places) at

  -- the row is found there
  pub lookup-row : (rows : List RowValue) → IsDistinct same_place (keys_of (map entry_of rows)) → place_in name rows ≡ Some p
      → lookup (is_at (place_cmp p)) (map entry_of rows) ≡ row_of name rows
  lookup-row [] places at = refl
  lookup-row (r ∷ rows) places at =
      elim (cases_Bool (is_named name r)) [
        | inl named ↦ (ap (λ b. cond b (Some r) (lookup (is_at (place_cmp p)) (map entry_of rows))) (hit r (here r rows named at)) ∙ sym (found name r rows named))
        | inr other ↦ (
            let later : place_in name rows ≡ Some p = sym (ap (option_map place_of) (passed name r rows other)) ∙ at in
            ap (λ b. cond b (Some r) (lookup (is_at (place_cmp p)) (map entry_of rows))) (miss r rows places later)
            ∙ lookup-row rows (IsDistinct-tail same_place (place_of r) (keys_of (map entry_of rows)) places) later
            ∙ sym (passed name r rows other))
      ]

  -- taken out there, it is the one of the name
  pub remove_entry-row : (rows : List RowValue) → IsDistinct same_place (keys_of (map entry_of rows)) → IsDistinct bytes_eq (names_in rows) → place_in name rows ≡ Some p
      → remove_entry (is_at (place_cmp p)) (map entry_of rows) ≡ map entry_of (without name rows)
  remove_entry-row [] places apart at = refl
  remove_entry-row (r ∷ rows) places apart at =
      let rest : List ((ℕ × ℕ) × RowValue) = remove_entry (is_at (place_cmp p)) (map entry_of rows) in
      elim (cases_Bool (is_named name r)) [
        | inl named ↦ (
            ap (λ b. cond b (map entry_of rows) (entry_of r ∷ rest)) (hit r (here r rows named at))
            ∙ ap (map entry_of) (sym (without-named name r rows named ∙ without-unnamed name r.name rows named (IsDistinct-head bytes_eq r.name (names_in rows) apart))))
        | inr other ↦ (
            let later : place_in name rows ≡ Some p = sym (ap (option_map place_of) (passed name r rows other)) ∙ at in
            ap (λ b. cond b (map entry_of rows) (entry_of r ∷ rest)) (miss r rows places later)
            ∙ ap (λ es. entry_of r ∷ es)
            (remove_entry-row rows (IsDistinct-tail same_place (place_of r) (keys_of (map entry_of rows)) places) (IsDistinct-tail bytes_eq r.name (names_in rows) apart) later)
            ∙ ap (map entry_of) (sym (without-other name r rows other)))
      ]

  -- written there, the move is that of the name
  pub set_value-row : (x : Parts) (row : RowValue) (rows : List RowValue) → IsDistinct same_place (keys_of (map entry_of rows)) → IsDistinct bytes_eq (names_in rows)
      → place_in name rows ≡ Some p → row_of name rows ≡ Some row
      → set_value (is_at (place_cmp p)) (map entry_of rows) (record row { x = x }) ≡ map entry_of (with_move name x rows)
  set_value-row x row [] places apart at is = refl
  set_value-row x row (r ∷ rows) places apart at is =
      let w : RowValue = record row { x = x } in
      let rest : List ((ℕ × ℕ) × RowValue) = set_value (is_at (place_cmp p)) (map entry_of rows) w in
      elim (cases_Bool (is_named name r)) [
        | inl named ↦ (
            let same : row ≡ r = same_Some row r (sym is ∙ found name r rows named) in
            ap (λ b. cond b ((place_of r, w) ∷ map entry_of rows) (entry_of r ∷ rest)) (hit r (here r rows named at))
            ∙ ap (λ (q : RowValue). (place_of r, record q { x = x }) ∷ map entry_of rows) same
            ∙ ap (map entry_of)
            (sym (with_move-named name x r rows named
            ∙ ap (λ (rs : List RowValue). record r { x = x } ∷ rs) (with_move-unnamed name r.name x rows named (IsDistinct-head bytes_eq r.name (names_in rows) apart)))))
        | inr other ↦ (
            let later : place_in name rows ≡ Some p = sym (ap (option_map place_of) (passed name r rows other)) ∙ at in
            ap (λ b. cond b ((place_of r, w) ∷ map entry_of rows) (entry_of r ∷ rest)) (miss r rows places later)
            ∙ ap (λ es. entry_of r ∷ es)
            (set_value-row x row rows (IsDistinct-tail same_place (place_of r) (keys_of (map entry_of rows)) places) (IsDistinct-tail bytes_eq r.name (names_in rows) apart) later
            (sym (passed name r rows other) ∙ is))
            ∙ ap (map entry_of) (sym (with_move-other name x r rows other)))
      ]
