-- Roots, rounded up.
use Rattle.std.proofs.Common.{◌≡◌, inl, inr, ℕ, zero, suc, ◌+◌, ◌*◌, ◌≤◌, ◌<◌, ◌^◌, refl, sym, ap, ◌∙◌, subst, arith, Bool}
use Rattle.std.specs.Prelude.{nat_le, if◌then◌else◌}
use Rattle.std.proofs.Math.Nat.{pow-suc, pow-zero, pow-le-pow_right}
use Rattle.std.proofs.lemmas.Bool.{cases_Bool, leb-true, leb-false, cases_lt}
use Rattle.definitions.specs.Moves.{root, root_from}

-- the number that is tried where it will do, and else what is found later
abbrev tried : Bool → ℕ → ℕ → ℕ
tried b r rest = if b then r else rest

-- with enough tries the power of what is found is at least n
root_from-above : (j n r tries : ℕ) → n ≤ (r + tries) ^ j → n ≤ root_from j n r tries ^ j
root_from-above j n r zero h = (let e : r + 0 ≡ r = omega arith in subst (λ (x : ℕ). n ≤ x ^ j) e h)
root_from-above j n r (suc tries) h =
    elim (cases_Bool (nat_le n (r ^ j))) [
      | inl yes' ↦ subst (λ (b : Bool). n ≤ tried b r (root_from j n (suc r) tries) ^ j) (sym yes') (leb-true n (r ^ j) yes')
      | inr no' ↦
          subst (λ (b : Bool). n ≤ tried b r (root_from j n (suc r) tries) ^ j) (sym no')
          (root_from-above j n (suc r) tries (let e : r + suc tries ≡ suc r + tries = omega arith in subst (λ (x : ℕ). n ≤ x ^ j) e h))
    ]

-- no smaller number's power is
root_from-least : (j n r tries : ℕ) → ((s : ℕ) → s < r → s ^ j < n) → (s : ℕ) → s < root_from j n r tries → s ^ j < n
root_from-least j n r zero before s h = before s h
root_from-least j n r (suc tries) before s h =
    elim (cases_Bool (nat_le n (r ^ j))) [
      | inl yes' ↦ before s (subst (λ (b : Bool). s < tried b r (root_from j n (suc r) tries)) yes' h)
      | inr no' ↦
          root_from-least j n (suc r) tries
          (λ t l. elim (cases_lt t r) [
            | inl less ↦ before t less
            | inr same ↦ (let e : r ≡ t = omega arith in subst (λ (x : ℕ). x ^ j < n) e (leb-false n (r ^ j) no'))
          ])
          s (subst (λ (b : Bool). s < tried b r (root_from j n (suc r) tries)) no' h)
    ]

-- the first power of a number is the number
pub pow-one : (x : ℕ) → x ^ 1 ≡ x
pow-one x = pow-suc x 0 ∙ ap (λ (n : ℕ). n * x) (pow-zero x) ∙ omega arith

-- a number is at most its powers
pub self-le-pow : (n j : ℕ) → 1 ≤ j → n ≤ n ^ j
self-le-pow zero j h = omega arith
self-le-pow (suc n) j h =
    omega (arith, pow-one (suc n), pow-le-pow_right {n = suc n} (let some : 0 < suc n = omega arith in some) h)

-- the j-th power of the root is at least n
pub root-above : (j n : ℕ) → 1 ≤ j → n ≤ root j n ^ j
unfolding root
root-above j n h = root_from-above j n 0 n (let e : 0 + n ≡ n = omega arith in subst (λ (x : ℕ). n ≤ x ^ j) (sym e) (self-le-pow n j h))

-- no smaller number's power is so large
pub root-least : (j n s : ℕ) → s < root j n → s ^ j < n
unfolding root
root-least j n s h = root_from-least j n 0 n (λ t l. absurd (omega arith)) s h

-- every root of 0 is 0
pub root-zero : (j : ℕ) → root j 0 ≡ 0
unfolding root
root-zero j = refl

-- the first root of a number is the number
pub root-one : (n : ℕ) → root 1 n ≡ n
root-one n =
    elim (cases_lt n (root 1 n)) [
      | inl more ↦ absurd (omega (arith, root-least 1 n n more, pow-one n))
      | inr most ↦ omega (arith, root-above 1 n (omega arith), pow-one (root 1 n))
    ]
