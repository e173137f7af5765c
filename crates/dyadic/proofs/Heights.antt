-- Halves and parents are nodes.
use Rattle.std.proofs.Common.{◌≡◌, ◌≢◌, ℕ, suc, ◌+◌, ◌*◌, ◌-◌, ◌<◌, ◌≤◌, ◌^◌, arith, ap, ℤ, pos, negsuc, ◌-ℤ◌, ◌+ℤ◌, sym, ◌∙◌}
use Rattle.std.specs.Prelude.{◌≤ℤ◌}
use Rattle.std.specs.Int.RustNames.{unsigned_abs}
use Rattle.std.proofs.lemmas.Int.{ints}
use Rattle.std.proofs.lemmas.Nat.{pow-add}
use Rattle.std.proofs.Math.Nat.{pow-suc, mul-le-mul_right}
use Rattle.dyadic.specs.Nodes.{NodeValue, IsNode, IsNodeAt, node_at, height_of, high_of, parent_of}

-- the exponent of the number of nodes of that length
level-of : (n : ℤ) → negsuc 15 ≤ℤ n → pos (unsigned_abs (pos 16 +ℤ n)) ≡ pos 16 +ℤ n
level-of n h = omega (arith, ints)

-- one half finer, and the power of 2 that counts the nodes is one more
level-rises : (n m : ℤ) → negsuc 15 ≤ℤ n → m ≡ n +ℤ pos 1 → unsigned_abs (pos 16 +ℤ m) ≡ suc (unsigned_abs (pos 16 +ℤ n))
level-rises n m h e = omega (arith, ints, level-of n h, level-of m (omega (arith, ints)))

-- a half is a node, where the node is not the finest
pub half-is_node : (k half : ℕ) (n m : ℤ) → IsNodeAt k n → n ≢ pos 16 → m ≡ n +ℤ pos 1 → half ≤ 2 * k + 1 → IsNodeAt half m
half-is_node k half n m node more e small =
    let rises : unsigned_abs (pos 16 +ℤ m) ≡ suc (unsigned_abs (pos 16 +ℤ n)) = level-rises n m node.coarsest e in
    record {
      coarsest = omega (arith, ints, node.coarsest);
      finest = omega (arith, ints, node.finest);
      below = rw (rises, pow-suc) (omega (arith, node.below));
    }

-- a parent is a node, where the node is not the coarsest
pub parent-is_node : (k parent : ℕ) (n m : ℤ) → IsNodeAt k n → n ≢ negsuc 15 → m ≡ n -ℤ pos 1 → 2 * parent ≤ k → IsNodeAt parent m
parent-is_node k parent n m node more e small =
    let low : negsuc 15 ≤ℤ m = omega (arith, ints, node.coarsest) in
    let rises : unsigned_abs (pos 16 +ℤ n) ≡ suc (unsigned_abs (pos 16 +ℤ m)) = level-rises m n low (omega (arith, ints)) in
    let below : k < 2 ^ unsigned_abs (pos 16 +ℤ m) * 2 = rw (← pow-suc, ← rises) node.below in
    record {
      coarsest = low;
      finest = omega (arith, ints, node.finest);
      below = omega arith;
    }

-- a node of height h is one of 2 ^ (32 - h)
level-is : (n : ℤ) → negsuc 15 ≤ℤ n → n ≤ℤ pos 16 → unsigned_abs (pos 16 +ℤ n) ≡ 32 - height_of n
level-is (pos n) low high = omega (arith, ints)
level-is (negsuc n) low high = omega (arith, ints, level-of (negsuc n) low)

height-within : (n : ℤ) → negsuc 15 ≤ℤ n → height_of n ≤ 32
height-within (pos n) low = omega (arith, ints)
height-within (negsuc n) low = omega (arith, ints)

-- the node (k, n) by its height is a node of the line
pub is_node-from_at : (k : ℕ) (n : ℤ) → IsNodeAt k n → IsNode (node_at k n)
is_node-from_at k n is =
    let level = level-is n is.coarsest is.finest in
    record {
      within_height = height-within n is.coarsest;
      within_line = rw (← level) is.below;
    }

-- the last node of each length ends with the line
pub high-within : (node : NodeValue) → IsNode node → high_of node ≤ 2 ^ 32
high-within node is =
    let nodes : ℕ = 2 ^ (32 - node.height) in
    let sum : 32 - node.height + node.height ≡ 32 = omega (arith, is.within_height) in
    let whole : nodes * 2 ^ node.height ≡ 2 ^ 32 = sym (pow-add 2 (32 - node.height) node.height) ∙ ap (λ (h : ℕ). 2 ^ h) sum in
    let last : node.index + 1 ≤ nodes = omega (arith, is.within_line) in
    omega (arith, mul-le-mul_right (2 ^ node.height) last, whole)

-- the parent of a node of less than the whole line is a node
pub is_node-parent : (node : NodeValue) → IsNode node → node.height < 32 → IsNode (parent_of node)
is_node-parent node is short =
    let e : 32 - node.height ≡ suc (32 - (node.height + 1)) = omega arith in
    let double : 2 ^ (32 - node.height) ≡ 2 ^ (32 - (node.height + 1)) * 2 = ap (λ (h : ℕ). 2 ^ h) e ∙ pow-suc 2 (32 - (node.height + 1)) in
    record {
      within_height = omega arith;
      within_line = omega (arith, is.within_line, double);
    }
