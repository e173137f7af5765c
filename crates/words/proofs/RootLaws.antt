-- Roots by halving, and powers by repeated division.
use Rattle.std.proofs.Common.{◌≡◌, ◌↔◌, inl, inr, ℕ, suc, ◌+◌, ◌*◌, ◌/◌, ◌%◌, ◌≤◌, ◌<◌, ◌^◌, min, sym, subst, arith}
use Rattle.std.proofs.Math.Nat.{pow-suc, pow-le-pow_left, mul-le-mul_right, le_trans}
use Rattle.std.proofs.lemmas.Bool.{cases_lt}
use Rattle.std.proofs.lemmas.Grind.{div_ceil_times}
use Rattle.definitions.specs.Moves.{root}
use Rattle.definitions.proofs.Roots.{root-above, root-least}

-- a quotient that is rounded up is at most x exactly where the dividend is at most x times the divisor
pub ceil-le : (a r x : ℕ) → 1 ≤ r → (a / r + min 1 (a % r) ≤ x) ↔ (a ≤ x * r)
ceil-le a r x some =
    let q : ℕ = a / r + min 1 (a % r) in
    let times : (a ≤ q * r) × (q * r < a + r) = div_ceil_times a r some in (
      λ h. le_trans times.0 (mul-le-mul_right r h),
      λ h. elim (cases_lt x q) [
        | inl more ↦
            let least : suc x * r ≤ q * r = mul-le-mul_right r more in
            let next : suc x * r ≡ x * r + r = omega arith in
            absurd (omega (arith, times.1, least, next, h))
        | inr most ↦ most
      ],
    )

-- one division more
pub divided-once : (n j r left e : ℕ) → 1 ≤ r → (left ≤ r ^ suc e) ↔ (n ≤ r ^ j) → (left / r + min 1 (left % r) ≤ r ^ e) ↔ (n ≤ r ^ j)
divided-once n j r left e some before =
    let step : (left / r + min 1 (left % r) ≤ r ^ e) ↔ (left ≤ r ^ e * r) = ceil-le left r (r ^ e) some in
    let power : r ^ suc e ≡ r ^ e * r = pow-suc r e in (
      λ h. before.0 (subst (λ (m : ℕ). left ≤ m) (sym power) (step.0 h)),
      λ h. step.1 (subst (λ (m : ℕ). left ≤ m) power (before.1 h)),
    )

-- between two neighbours
pub root-between : (j n low high : ℕ) → 1 ≤ j → low ^ j < n → n ≤ high ^ j → high ≤ low + 1 → root j n ≡ high
root-between j n low high some below above near =
    elim (cases_lt high (root j n)) [
      | inl more ↦ absurd (omega (arith, root-least j n high more, above))
      | inr most ↦ elim (cases_lt low (root j n)) [
        | inl up ↦ omega arith
        | inr down ↦ absurd (omega (arith, root-above j n some, pow-le-pow_left down j, below))
      ]
    ]
