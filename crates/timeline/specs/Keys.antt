-- Where a row stands: at its tick, and there at its birth.
use Rattle.std.specs.Prelude.{ℕ, ◌+◌, ◌*◌, ◌/◌, ◌^◌, ◌++◌, nat_lt, List, filter}
use Rattle.definitions.specs.Rows.{RowValue, lies_in}

-- the key of a tick and a birth below 2 ^ 31
abbrev pub key_at : ℕ → ℕ → ℕ
key_at tick birth = tick * 2 ^ 31 + birth

-- the key of a row
abbrev pub key_of : RowValue → ℕ
key_of row = key_at row.tick row.birth

-- the tick of a key
abbrev pub tick_of : ℕ → ℕ
tick_of key = key / 2 ^ 31

-- the rows with keys in [a, b)
abbrev pub keyed_in : ℕ → ℕ → List RowValue → List RowValue
keyed_in a b rows = filter (λ row. lies_in a b (key_of row)) rows

-- the rows with lower keys
abbrev pub below : ℕ → List RowValue → List RowValue
below key rows = filter (λ row. nat_lt (key_of row) key) rows

-- the rows with higher keys
abbrev pub above : ℕ → List RowValue → List RowValue
above key rows = filter (λ row. nat_lt key (key_of row)) rows

-- rows in the order of their keys, with these in place of any that has this key
unfoldable pub with_at : ℕ → List RowValue → List RowValue → List RowValue
with_at key new rows = below key rows ++ (new ++ above key rows)
