-- How the spans of nodes lie to each other.
use Rattle.std.proofs.Common.{◌≡◌, ℕ, suc, ◌+◌, ◌*◌, ◌-◌, ◌/◌, ◌<◌, ◌≤◌, ◌^◌, arith, ap, sym, ◌∙◌}
use Rattle.std.proofs.lemmas.Nat.{pow-add, pow_pos}
use Rattle.std.proofs.Math.Nat.{pow-suc, mul-le-mul_right, lt_of_mul-lt-mul_right}
use Rattle.dyadic.specs.Nodes.{NodeValue, low_of, high_of, left_of, right_of, parent_of, LiesWithin}

-- a span has a tick
pub low-lt-high : (node : NodeValue) → low_of node < high_of node
low-lt-high node = omega (arith, pow_pos node.height)

-- a span is twice a half
twice : (height : ℕ) → 0 < height → 2 ^ height ≡ 2 ^ (height - 1) * 2
twice height some =
    let e : height ≡ suc (height - 1) = omega arith in
    ap (λ (h : ℕ). 2 ^ h) e ∙ pow-suc 2 (height - 1)

-- the halves of a node share its span
pub record HalvesShare (node : NodeValue) : Type 0 where
  -- the left half begins where the node does
  pub begins : low_of (left_of node) ≡ low_of node
  -- it ends where the right half begins
  pub meets : high_of (left_of node) ≡ low_of (right_of node)
  -- which ends where the node does
  pub ends : high_of (right_of node) ≡ high_of node

-- this is so for each node of more than one tick
pub halves-share : (node : NodeValue) → 0 < node.height → HalvesShare node
halves-share node some =
    let e = twice node.height some in
    let product : node.index * 2 ^ node.height ≡ node.index * (2 ^ (node.height - 1) * 2) = ap (λ (n : ℕ). node.index * n) e in
    record {
      begins = omega (arith, product);
      meets = omega arith;
      ends = omega (arith, e, product);
    }

same-node : (i j h k : ℕ) → i ≡ j → h ≡ k → ◌≡◌ {A = NodeValue} (record { index = i; height = h }) (record { index = j; height = k })
same-node i j h k a b = ap (λ (n : ℕ). record { index = n; height = h }) a ∙ ap (λ (n : ℕ). record { index = j; height = n }) b

-- two nodes of one length that meet are the same
pub meet-same : (a b : NodeValue) (tick : ℕ) → a.height ≡ b.height → low_of a ≤ tick → tick < high_of a → low_of b ≤ tick → tick < high_of b → a ≡ b
meet-same a b tick same a_low a_high b_low b_high =
    let span : ℕ = 2 ^ a.height in
    let e : 2 ^ b.height ≡ span = ap (λ (h : ℕ). 2 ^ h) (sym same) in
    let low : b.index * 2 ^ b.height ≡ b.index * span = ap (λ (n : ℕ). b.index * n) e in
    let below : a.index < b.index + 1 = lt_of_mul-lt-mul_right span (omega (arith, low, e)) in
    let above : b.index < a.index + 1 = lt_of_mul-lt-mul_right span (omega (arith, low)) in
    same-node a.index b.index a.height b.height (omega arith) same

-- of two nodes that meet the longer one has the parent of the shorter one
pub meet-within : (a b : NodeValue) (tick : ℕ) → a.height < b.height → low_of a ≤ tick → tick < high_of a → low_of b ≤ tick → tick < high_of b → LiesWithin (low_of b) (high_of b) (parent_of a)
meet-within a b tick longer a_low a_high b_low b_high =
    let span : ℕ = 2 ^ a.height in
    let factor : ℕ = 2 ^ (b.height - (a.height + 1)) in
    let half : ℕ = a.index / 2 in
    let sum : b.height ≡ b.height - (a.height + 1) + suc a.height = omega arith in
    let double : 2 ^ (a.height + 1) ≡ span * 2 = ap (λ (h : ℕ). 2 ^ h) (omega arith) ∙ pow-suc 2 a.height in
    let long : 2 ^ b.height ≡ factor * (span * 2) = ap (λ (h : ℕ). 2 ^ h) sum ∙ pow-add 2 (b.height - (a.height + 1)) (suc a.height) ∙ ap (λ (n : ℕ). factor * n) (pow-suc 2 a.height) in
    let low : b.index * 2 ^ b.height ≡ b.index * (factor * (span * 2)) = ap (λ (n : ℕ). b.index * n) long in
    let parent_low : half * 2 ^ (a.height + 1) ≡ half * (span * 2) = ap (λ (n : ℕ). half * n) double in
    let after : b.index * factor * 2 < a.index + 1 = lt_of_mul-lt-mul_right span (omega (arith, low)) in
    let before : a.index < (b.index + 1) * factor * 2 = lt_of_mul-lt-mul_right span (omega (arith, low, long)) in
    let first : b.index * factor ≤ half = omega arith in
    let last : half + 1 ≤ (b.index + 1) * factor = omega arith in
    record {
      after = omega (arith, low, parent_low, mul-le-mul_right (span * 2) first);
      before = omega (arith, low, long, parent_low, double, mul-le-mul_right (span * 2) last);
    }

-- the span of a node lies in that of its parent
pub within-parent : (node : NodeValue) → LiesWithin (low_of (parent_of node)) (high_of (parent_of node)) node
within-parent node =
    let span : ℕ = 2 ^ node.height in
    let half : ℕ = node.index / 2 in
    let double : 2 ^ (node.height + 1) ≡ span * 2 = ap (λ (h : ℕ). 2 ^ h) (omega arith) ∙ pow-suc 2 node.height in
    let parent_low : half * 2 ^ (node.height + 1) ≡ half * (span * 2) = ap (λ (n : ℕ). half * n) double in
    let below : 2 * half ≤ node.index = omega arith in
    let above : node.index + 1 ≤ 2 * (half + 1) = omega arith in
    record {
      after = omega (arith, parent_low, mul-le-mul_right span below);
      before = omega (arith, parent_low, double, mul-le-mul_right span above);
    }
