-- The n of a node, from its height.
use Rattle.std.proofs.Common.{◌≡◌, arith}
use Rattle.std.specs.Prelude.{ℤ, pos, negsuc, ◌-ℤ◌, ◌≤ℤ◌}
use Rattle.std.proofs.lemmas.Int.{ints}
use Rattle.dyadic.specs.Nodes.{height_of}

-- the height of n tells n: a node of height h has 2 ^ h ticks and n = 16 - h
pub exponent_back : (n : ℤ) → n ≤ℤ pos 16 → pos 16 -ℤ pos (height_of n) ≡ n
exponent_back (pos n) h = omega (arith, ints)
exponent_back (negsuc n) h = omega (arith, ints)
