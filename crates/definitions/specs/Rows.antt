-- Time in ticks of 2 ^ -16, and rows in time.
use Rattle.std.specs.Prelude.{ℕ, ◌-◌, ◌*◌, ◌/◌, ◌^◌, Bool, ◌&&◌, nat_lt, nat_le, if◌then◌else◌, List, [], ◌∷◌, map, filter}
use Rattle.std.specs.List.{list_any}
use Rattle.std.specs.Str.{bytes_eq}
use Rattle.definitions.specs.Moves.{Parts}

-- a named move at a tick; the birth is the version that brought it
pub record RowValue : Type 0 where
  pub name : List ℕ
  pub tick : ℕ
  pub birth : ℕ
  pub x : Parts

-- a tick in [a, b)
abbrev pub lies_in : ℕ → ℕ → ℕ → Bool
lies_in a b tick = nat_le a tick && nat_lt tick b

-- down to a multiple of 2 ^ (16 - r), which is 2 ^ -r in time
abbrev pub rounded : ℕ → ℕ → ℕ
rounded r tick = tick / 2 ^ (16 - r) * 2 ^ (16 - r)

-- the rows that lie in [a, b)
abbrev pub rows_in : ℕ → ℕ → List RowValue → List RowValue
rows_in a b rows = filter (λ row. lies_in a b row.tick) rows

-- the moves of rows, in the order of the rows
abbrev pub moves_of : List RowValue → List Parts
moves_of rows = map (λ row. row.x) rows

-- rows are in the order of (tick, birth): a new row comes before the first one of a later tick
abbrev pub with_row : RowValue → List RowValue → List RowValue
with_row row [] = row ∷ []
with_row row (r ∷ rows) = if nat_lt row.tick r.tick then row ∷ r ∷ rows else r ∷ with_row row rows

-- a row has this name
abbrev pub is_live : List ℕ → List RowValue → Bool
is_live name rows = list_any (λ row. bytes_eq row.name name) rows
