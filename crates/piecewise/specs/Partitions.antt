-- Partitions of an interval of time, and the rows of their parts.
use Rattle.std.specs.Prelude.{ℕ, ◌≤◌, List, [], ◌∷◌}
use Rattle.definitions.specs.Rows.{RowValue, rows_in}

-- the times, of which a is the first, rise
abbrev pub IsRising : ℕ → List ℕ → Type 0
IsRising a [] = Unit {0}
IsRising a (b ∷ times) = (a ≤ b) × IsRising b times

-- the last of these times, a itself where there is no other
abbrev pub last_of : ℕ → List ℕ → ℕ
last_of a [] = a
last_of a (b ∷ times) = last_of b times

-- the rows in each part: from a up to the first time, from there up to the second, and so on
abbrev pub parts_of : ℕ → List ℕ → List RowValue → List (List RowValue)
parts_of a [] rows = []
parts_of a (b ∷ times) rows = rows_in a b rows ∷ parts_of b times rows
