-- What `==` of two pairs of a node and a version reads.
use Rattle.std.proofs.Common.{◌≡◌, ℕ, arith, ap, Bool}
use Rattle.std.specs.Prelude.{nat_eq, ◌&&◌, pos, ◌-ℤ◌}
use Rattle.std.specs.Ordering.{int_eq}
use Rattle.std.proofs.lemmas.Bool.Decides.{Decides-eqb, Decides-int_eq, same_from_decides}
use Rattle.std.proofs.lemmas.Int.{ints}
use Rattle.dyadic.specs.Nodes.{NodeValue}
use Rattle.dyadic.specs.contracts.node.NodePartialEq.TheImpl as nodes
use Rattle.node_cache.specs.Entries.{Entry, is_of}

-- the test of the map's keys
abbrev pub is_pair : NodeValue → ℕ → NodeValue × ℕ → Bool
is_pair node since pair = (nodes.ghosts).eq node pair.0 && nat_eq since pair.1

-- the exponent 16 - h tells the height
heights : (a b : ℕ) → int_eq (pos 16 -ℤ pos a) (pos 16 -ℤ pos b) ≡ nat_eq a b
heights a b =
    let tells = Decides-eqb a b in
    same_from_decides (int_eq (pos 16 -ℤ pos a) (pos 16 -ℤ pos b)) (nat_eq a b) (Decides-int_eq (pos 16 -ℤ pos a) (pos 16 -ℤ pos b))
    (λ same. ap (λ n. pos 16 -ℤ pos n) (tells.0 same), λ same. tells.1 (let h : a ≡ b = omega (arith, ints) in h))

-- the map's test for a pair is that of an entry for the pair
pub is_pair-is_of : (node : NodeValue) (since : ℕ) (e : Entry) → is_pair node since (e.node, e.since) ≡ is_of node since e
is_pair-is_of node since e = ap (λ t. (nat_eq node.index e.node.index && t) && nat_eq since e.since) (heights node.height e.node.height)
