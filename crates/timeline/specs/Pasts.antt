-- The rows of each version.
use Rattle.std.specs.Prelude.{ℕ, List, [], ◌∷◌, ◌++◌, length, slice_index_or}
use Rattle.definitions.specs.Rows.{RowValue}

-- the tick that each version touched, from version 1 on, and the rows of each version, from version 0 on
pub record PastValue : Type 0 where
  pub ticks : List ℕ
  pub rows : List (List RowValue)

abbrev pub no_past : PastValue
no_past = record { ticks = []; rows = [] ∷ [] }

-- the rows of version v
abbrev pub rows_at : PastValue → ℕ → List RowValue
rows_at past v = slice_index_or past.rows v []

-- the rows of the last version
abbrev pub current_rows : PastValue → List RowValue
current_rows past = rows_at past (length past.ticks)

-- the next version touches a tick, and has these rows
abbrev pub with_version : PastValue → ℕ → List RowValue → PastValue
with_version past tick rows = record { ticks = past.ticks ++ tick ∷ []; rows = past.rows ++ rows ∷ [] }
