-- How many nodes a cache keeps.
use Rattle.std.specs.Prelude.{ℕ, ◌≤◌}

-- the greatest capacity
abbrev pub most_capacity : ℕ
most_capacity = 16384

-- a capacity is from 1 to the greatest
abbrev pub IsCapacity : ℕ → Type 0
IsCapacity capacity = (1 ≤ capacity) × (capacity ≤ most_capacity)
