-- The weight of sizes, size by size.
use Rattle.std.proofs.Common.{◌≡◌, inl, inr, ℕ, suc, ◌+◌, ◌*◌, ◌-◌, ◌≤◌, ◌<◌, ◌^◌, ap, ◌∙◌, arith, List, length, drop, get_or}
use Rattle.std.proofs.Math.Nat.{pow-le-pow_left, pow-le-pow_right, mul-le-mul}
use Rattle.std.proofs.Math.Seq.{drop-cons}
use Rattle.std.proofs.lemmas.Bool.{cases_lt}
use Rattle.definitions.specs.Moves.{root, weight_from}
use Rattle.definitions.proofs.Roots.{root-least, self-le-pow}

-- no root is above its number
pub root-self : (j n : ℕ) → 1 ≤ j → root j n ≤ n
root-self j n some =
    elim (cases_lt n (root j n)) [
      | inl more ↦ absurd (omega (arith, root-least j n n more, self-le-pow n j some))
      | inr most ↦ most
    ]

-- the scale of a bound has at most 21 bits
pub scale-bound : (d k : ℕ) → d ≤ 8 → k ≤ 7 → d ^ k ≤ 2 ^ 21
scale-bound d k hd hk =
    let left : d ^ k ≤ 8 ^ k = pow-le-pow_left hd k in
    let right : 8 ^ k ≤ 8 ^ 7 = pow-le-pow_right (let some : 0 < 8 = omega arith in some) hk in
    omega (arith, left, right)

-- a scaled bound has at most 123 bits
pub scaled-bound : (d k p : ℕ) → d ≤ 8 → k ≤ 7 → p ≤ 2 ^ 102 → d ^ k * p ≤ 2 ^ 123
scaled-bound d k p hd hk hp = let both : d ^ k * p ≤ 2 ^ 21 * 2 ^ 102 = mul-le-mul (scale-bound d k hd hk) hp in omega (arith, both)

-- the weight of the bounds from degree k + 1 on is the root of the first of them, scaled, and the weight of the others
pub weight-next : (depth k : ℕ) (sizes : List ℕ) → k < length sizes
    → weight_from depth (suc k) (drop k sizes) ≡ root (suc k) (depth ^ k * get_or sizes k 0) + weight_from depth (suc (suc k)) (drop (suc k) sizes)
weight-next depth k sizes h =
    let e : suc k - 1 ≡ k = omega arith in
    ap (weight_from depth (suc k)) (drop-cons sizes k 0 h)
    ∙ ap (λ (i : ℕ). root (suc k) (depth ^ i * get_or sizes k 0) + weight_from depth (suc (suc k)) (drop (suc k) sizes)) e
