-- The two maps in which rows are kept.
use Rattle.std.specs.Prelude.{◌≡◌, ℕ, List, map}
use Rattle.std.specs.Option.{option_map}
use Rattle.std.specs.List.{IsDistinct}
use Rattle.std.specs.Str.{bytes_eq}
use Rattle.std.specs.BTreeMap.{BTreeMap, values, IsOrdered}
use Rattle.std.specs.Ordering.{nat_cmp, ordering_then}
use Rattle.std.specs.declared.cmp.Ordering.{Ordering}
use Rattle.std.specs.HashMap.{HashMap, get_by_text}
use Rattle.std.specs.Prelude.{String}
use Rattle.definitions.specs.Rows.{RowValue}
use Rattle.increments.specs.Edits.{row_of}

-- where a row stands
abbrev pub place_of : RowValue → ℕ × ℕ
place_of row = (row.tick, row.birth)

-- an entry of the map by places
abbrev pub entry_of : RowValue → (ℕ × ℕ) × RowValue
entry_of row = (place_of row, row)

-- places in the order of tick and birth
abbrev pub place_cmp : ℕ × ℕ → ℕ × ℕ → Ordering
place_cmp p q = ordering_then (nat_cmp p.0 q.0) (nat_cmp p.1 q.1)

-- rows stand at their places, and the names lead to these and nowhere else
pub record AreTied {Y S : Type 0} (rows : BTreeMap (ℕ × ℕ) RowValue) (names : HashMap (String Y) (ℕ × ℕ) S) : Type 0 where
  pub ordered : IsOrdered place_cmp rows
  pub placed : rows.entries ≡ map entry_of (values rows)
  pub named : (name : List ℕ) → get_by_text names name ≡ option_map place_of (row_of name (values rows))
  pub apart : IsDistinct bytes_eq (map (λ row. row.name) (values rows))
