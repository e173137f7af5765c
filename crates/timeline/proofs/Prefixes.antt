-- Keys without their last digits.
use Rattle.std.proofs.Common.{◌≡◌, ◌∙◌, ℕ, suc, ◌+◌, ◌-◌, ◌*◌, ◌/◌, ◌%◌, ◌<◌, ◌≤◌, ◌^◌, sym, ap, arith, pow-add}
use Rattle.std.proofs.Math.Nat.{pow-suc, div-div-eq-div-mul}
use Rattle.std.proofs.lemmas.Nat.{mul-le}
use Rattle.std.proofs.Common.{pow_pos}

-- a key without its last g + 1 digits is half of it without the last g ones, rounded down
pub prefix-suc : (k g : ℕ) → k / 2 ^ suc g ≡ k / 2 ^ g / 2
prefix-suc k g = ap (λ (n : ℕ). k / n) (pow-suc 2 g) ∙ sym (div-div-eq-div-mul k (2 ^ g) 2)

-- a key without its last g + d digits is what is left of it without the last g ones, without the last d of that
pub prefix-add : (k g d : ℕ) → k / 2 ^ (g + d) ≡ k / 2 ^ g / 2 ^ d
prefix-add k g d = ap (λ (n : ℕ). k / n) (pow-add 2 g d) ∙ sym (div-div-eq-div-mul k (2 ^ g) (2 ^ d))

-- keys that agree do so without more digits
pub agree-shorter : (a b g h : ℕ) → g ≤ h → a / 2 ^ g ≡ b / 2 ^ g → a / 2 ^ h ≡ b / 2 ^ h
agree-shorter a b g h order same =
    let e : h ≡ g + (h - g) = omega arith in
    ap (λ (n : ℕ). a / 2 ^ n) e ∙ prefix-add a g (h - g) ∙ ap (λ (n : ℕ). n / 2 ^ (h - g)) same ∙ sym (prefix-add b g (h - g)) ∙ sym (ap (λ (n : ℕ). b / 2 ^ n) e)

-- a power of 2 is above 0
pub power_pos : (g : ℕ) → 0 < 2 ^ g
power_pos g = pow_pos g

module _ (k w : ℕ) (some : 0 < w) where
  -- the least number with the prefix of k is at most k
  pub prefix-from : k / w * w ≤ k
  prefix-from = omega arith

  -- k is less than w above it
  pub prefix-before : k < k / w * w + w
  prefix-before = omega arith

-- keys in the order of their prefixes
pub prefix-order : (a b w : ℕ) → 0 < w → a / w < b / w → a < b
prefix-order a b w some h =
    let up : (a / w + 1) * w ≤ b / w * w = mul-le (a / w + 1) w (b / w) w (omega arith) (omega arith) in
    let next : (a / w + 1) * w ≡ a / w * w + w = omega arith in
    omega (arith, prefix-before a w some, prefix-from b w some, up, next)

-- the digit before the last ones
pub lower-half : (m p : ℕ) → p ≡ m / 2 → m % 2 ≡ 0 → m ≡ 2 * p
lower-half m p e h = omega arith

-- a number whose last digit isn't 0 is twice its half, rounded down, and 1
pub higher-half : (m p : ℕ) → p ≡ m / 2 → (m % 2 ≡ 0 → ⊥) → m ≡ 2 * p + 1
higher-half m p e h = omega arith
