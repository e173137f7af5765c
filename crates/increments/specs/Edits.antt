-- What the rows are after an edit.
use Rattle.std.specs.Prelude.{◌≡◌, ℕ, ◌<◌, ◌⊎◌, Bool, not, if◌then◌else◌, List, map, filter, Option}
use Rattle.std.specs.List.{find, AllPairs}
use Rattle.std.specs.Option.{option_map}
use Rattle.std.specs.Str.{bytes_eq}
use Rattle.definitions.specs.Words.{Extent}
use Rattle.definitions.specs.Moves.{Parts}
use Rattle.definitions.specs.Rows.{RowValue}

-- rows in the order of (tick, birth), whose moves are of the extent
pub record RowsValue : Type 0 where
  pub extent : Extent
  pub rows : List RowValue

-- a row stands before another
abbrev pub IsBefore : RowValue → RowValue → Type 0
IsBefore r s = (r.tick < s.tick) ⊎ ((r.tick ≡ s.tick) × (r.birth < s.birth))

-- in the order of (tick, birth)
abbrev pub IsInOrder : List RowValue → Type 0
IsInOrder rows = AllPairs IsBefore rows

-- a row has this name
abbrev pub is_named : List ℕ → RowValue → Bool
is_named name row = bytes_eq row.name name

-- the row of this name
abbrev pub row_of : List ℕ → List RowValue → Option RowValue
row_of name rows = find (is_named name) rows

-- the tick of the row of this name
abbrev pub tick_of : List ℕ → List RowValue → Option ℕ
tick_of name rows = option_map (λ row. row.tick) (row_of name rows)

-- the rows with another move at this name
abbrev pub with_move : List ℕ → Parts → List RowValue → List RowValue
with_move name x rows = map (λ row. if is_named name row then record row { x = x } else row) rows

-- the rows without the one of this name
abbrev pub without : List ℕ → List RowValue → List RowValue
without name rows = filter (λ row. not (is_named name row)) rows
