-- The two maps stay tied through each edit.
use Rattle.std.proofs.Common.{◌≡◌, ◌∙◌, ◌<◌, ℕ, refl, sym, ap, subst, List, [], Option, None, Some, cond}
use Rattle.std.specs.Prelude.{map, All, String, string_bytes}
use Rattle.std.specs.List.{IsDistinct}
use Rattle.std.specs.Map.{lookup, remove_entry, set_value, update, keys_of, values_of}
use Rattle.std.specs.HashMap.{HashMap, get_by_text}
use Rattle.std.specs.BTreeMap.{BTreeMap, values, insert_entry, is_at, IsOrdered}
use Rattle.std.specs.Option.{option_map}
use Rattle.std.specs.Str.{bytes_eq}
use Rattle.std.proofs.lemmas.Map.Keys.{IsDistinct-from_sorted}
use Rattle.definitions.specs.Moves.{Parts}
use Rattle.definitions.specs.Rows.{RowValue, with_row}
use Rattle.increments.specs.Edits.{row_of, with_move, without}
use Rattle.increments.specs.Tables.{AreTied, place_of, entry_of, place_cmp}
use Rattle.increments.proofs.Places.{same_place, place_in, names_in, values_of-entries, insert_entry-row, lookup-row, remove_entry-row, set_value-row}
use Rattle.increments.proofs.Names.{place_in-with_row, place_in-without, place_in-with_move, names_in-with_move, IsDistinct-with_row, IsDistinct-without}

-- a name without a place has no row
pub no_place : (o : Option RowValue) → option_map place_of o ≡ None → o ≡ None
no_place None none = refl
no_place (Some row) none = absurd (cc)

none_apart : IsDistinct bytes_eq []
unfolding IsDistinct
none_apart = tt

-- maps of no rows
pub tied-none : {Y S : Type 0} (rows : BTreeMap (ℕ × ℕ) RowValue) (names : HashMap (String Y) (ℕ × ℕ) S) → IsOrdered place_cmp rows → rows.entries ≡ [] → names.entries ≡ [] → AreTied rows names
tied-none rows names ordered empty nameless =
    let none : [] ≡ values rows = sym (ap values_of empty) in
    record {
      ordered = ordered;
      placed = empty ∙ ap (map entry_of) none;
      named = λ name. ap (lookup (λ k. bytes_eq name (string_bytes k))) nameless ∙ ap (place_in name) none;
      apart = subst (λ (rs : List RowValue). IsDistinct bytes_eq (names_in rs)) none none_apart;
    }

-- what the maps have after an edit
pub record Becomes {Y S : Type 0} (rows : BTreeMap (ℕ × ℕ) RowValue) (names : HashMap (String Y) (ℕ × ℕ) S) (list : List RowValue) : Type 0 where
  -- the map has these rows, in this order
  pub holds : values rows ≡ list
  -- and both maps are tied again
  pub tied : AreTied rows names

module _ {Y S : Type 0} (rows new : BTreeMap (ℕ × ℕ) RowValue) (names after : HashMap (String Y) (ℕ × ℕ) S) (tied : AreTied rows names) where
  becomes : (list : List RowValue) → IsOrdered place_cmp new → new.entries ≡ map entry_of list → ((name : List ℕ) → get_by_text after name ≡ place_in name list) → IsDistinct bytes_eq (names_in list) → Becomes new after list
  becomes list ordered entries named apart =
      let same : values new ≡ list = ap values_of entries ∙ values_of-entries list in
      record {
        holds = same;
        tied = record {
          ordered = ordered;
          placed = entries ∙ ap (map entry_of) (sym same);
          named = λ name. named name ∙ ap (place_in name) (sym same);
          apart = subst (λ (rs : List RowValue). IsDistinct bytes_eq (names_in rs)) (sym same) apart;
        };
      }

  -- a new row
  pub becomes-with_row : (row : RowValue) → row_of row.name (values rows) ≡ None → All (λ (r : RowValue). r.tick ≡ row.tick → r.birth < row.birth) (values rows) → IsOrdered place_cmp new
      → new.entries ≡ insert_entry place_cmp rows.entries (place_of row) row
      → ((name : List ℕ) → get_by_text after name ≡ update bytes_eq (get_by_text names) row.name (Some (place_of row)) name)
      → Becomes new after (with_row row (values rows))
  becomes-with_row row none young ordered entries named =
      becomes (with_row row (values rows)) ordered
      (entries ∙ ap (λ es. insert_entry place_cmp es (place_of row) row) tied.placed ∙ insert_entry-row row (values rows) young)
      (λ name. named name ∙ ap (cond (bytes_eq row.name name) (Some (place_of row))) (tied.named name) ∙ sym (place_in-with_row name row (values rows) none))
      (IsDistinct-with_row row (values rows) none tied.apart)

  places : IsDistinct same_place (keys_of (map entry_of (values rows)))
  places = subst (λ es. IsDistinct same_place (keys_of es)) tied.placed (IsDistinct-from_sorted place_cmp (keys_of rows.entries) tied.ordered)

  -- the row of a name is at its place
  pub lookup-tied : (name : List ℕ) (p : ℕ × ℕ) → place_in name (values rows) ≡ Some p → lookup (is_at (place_cmp p)) rows.entries ≡ row_of name (values rows)
  lookup-tied name p at =
      ap (lookup (is_at (place_cmp p))) tied.placed ∙ lookup-row name p (values rows) places at

  -- the row of a name is taken out
  pub becomes-without : (name : List ℕ) (p : ℕ × ℕ) → place_in name (values rows) ≡ Some p → IsOrdered place_cmp new
      → new.entries ≡ remove_entry (is_at (place_cmp p)) rows.entries
      → ((other : List ℕ) → get_by_text after other ≡ update bytes_eq (get_by_text names) name None other)
      → Becomes new after (without name (values rows))
  becomes-without name p at ordered entries named =
      becomes (without name (values rows)) ordered
      (entries ∙ ap (remove_entry (is_at (place_cmp p))) tied.placed ∙ remove_entry-row name p (values rows) places tied.apart at)
      (λ other. named other ∙ ap (cond (bytes_eq name other) None) (tied.named other) ∙ sym (place_in-without other name (values rows)))
      (IsDistinct-without name (values rows) tied.apart)

-- the row of a name has another move
pub becomes-with_move : {Y S : Type 0} (rows new : BTreeMap (ℕ × ℕ) RowValue) (names : HashMap (String Y) (ℕ × ℕ) S) (tied : AreTied rows names)
    (name : List ℕ) (p : ℕ × ℕ) (x : Parts) (row : RowValue) → place_in name (values rows) ≡ Some p → IsOrdered place_cmp new
    → lookup (is_at (place_cmp p)) rows.entries ≡ Some row → new.entries ≡ set_value (is_at (place_cmp p)) rows.entries (record row { x = x })
    → Becomes new names (with_move name x (values rows))
becomes-with_move rows new names tied name p x row at ordered is entries =
    becomes rows new names names tied (with_move name x (values rows)) ordered
    (entries ∙ ap (λ es. set_value (is_at (place_cmp p)) es (record row { x = x })) tied.placed
    ∙ set_value-row name p x row (values rows) (places rows new names names tied) tied.apart at
    (sym (lookup-tied rows new names names tied name p at) ∙ is))
    (λ other. tied.named other ∙ sym (place_in-with_move other name x (values rows)))
    (subst (IsDistinct bytes_eq) (sym (names_in-with_move name x (values rows))) tied.apart)
