-- The dyadic intervals of the line of time, in ticks of 2 ^ -16.
use Rattle.std.specs.Prelude.{ℕ, ◌+◌, ◌-◌, ◌*◌, ◌/◌, ◌^◌, ◌<◌, ◌≤◌, ℤ, pos, negsuc, ◌+ℤ◌, ◌≤ℤ◌}
use Rattle.std.specs.Int.RustNames.{unsigned_abs}

-- the interval from index * 2 ^ height up to (index + 1) * 2 ^ height
pub record NodeValue : Type 0 where
  pub index : ℕ
  pub height : ℕ

-- the line of time has 2 ^ 32 ticks
pub record IsNode (node : NodeValue) : Type 0 where
  pub within_height : node.height ≤ 32
  pub within_line : node.index < 2 ^ (32 - node.height)

-- the first tick of a node
abbrev pub low_of : NodeValue → ℕ
low_of node = node.index * 2 ^ node.height

-- the tick after its last one
abbrev pub high_of : NodeValue → ℕ
high_of node = (node.index + 1) * 2 ^ node.height

-- the span lies in [a, b)
pub record LiesWithin (a b : ℕ) (node : NodeValue) : Type 0 where
  pub after : a ≤ low_of node
  pub before : high_of node ≤ b

-- the half of the earlier ticks
abbrev pub left_of : NodeValue → NodeValue
left_of node = record { index = 2 * node.index; height = node.height - 1 }

-- the half of the later ticks
abbrev pub right_of : NodeValue → NodeValue
right_of node = record { index = 2 * node.index + 1; height = node.height - 1 }

-- the node of twice as many ticks that has this one as a half
abbrev pub parent_of : NodeValue → NodeValue
parent_of node = record { index = node.index / 2; height = node.height + 1 }

-- 16 - n, for the n up to 16
abbrev pub height_of : ℤ → ℕ
height_of (pos n) = 16 - n
height_of (negsuc n) = 17 + n

-- the node (k, n)
abbrev pub node_at : ℕ → ℤ → NodeValue
node_at k n = record { index = k; height = height_of n }

-- there is a node (k, n): n is from -16 to 16, and k is below 2 ^ (16 + n)
pub record IsNodeAt (k : ℕ) (n : ℤ) : Type 0 where
  pub coarsest : negsuc 15 ≤ℤ n
  pub finest : n ≤ℤ pos 16
  pub below : k < 2 ^ unsigned_abs (pos 16 +ℤ n)
