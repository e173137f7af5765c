-- The numbers in the logarithm's sum and in its bound.
use Rattle.std.proofs.Common.{◌≡◌, ℕ, zero, suc, ◌+◌, ◌*◌, ◌-◌, ◌/◌, ◌%◌, ◌≤◌, ◌<◌, ◌^◌, refl, sym, ap, ◌∙◌, ap₂, arith, add-one, ℤ, pos, ◌*ℤ◌, neg_ℤ, ◌-ℤ◌, ◌≢◌, List, [], ◌∷◌, ◌++◌, length, length-set, get_or, get_or-set_same, take, set, All, map, inl, inr}
use Rattle.std.proofs.Math.Nat.{eq-or-lt_of_le}
use Rattle.std.proofs.Math.Seq.{get_or-append_seam}
use Rattle.std.proofs.lemmas.Int.{ints}
use Rattle.std.proofs.lemmas.List.{map-append, get_or_append_left, length-append, take_more, take-set}
use Rattle.std.proofs.lemmas.List.Elements.{All-set}
use Rattle.definitions.specs.Words.{up_to}
use Rattle.definitions.specs.Sums.{count_below}
use Rattle.definitions.specs.Signature.{limit}
use Rattle.definitions.specs.Logarithm.{lcm_to, sign, log_bound}
use Rattle.definitions.proofs.Integers.{one-mul_ℤ}
use Rattle.exp_log.specs.Powers.{log_factor}
use Rattle.exp_log.specs.Faults.{LogFits}

-- the sign of (-1) ^ m by the parity of m
sign-parity : (m : ℕ) → (m % 2 ≡ 0 → sign m ≡ pos 1) × (m % 2 ≡ 1 → sign m ≡ neg_ℤ (pos 1))
sign-parity zero = (λ e. refl, λ e. absurd (omega arith))
sign-parity (suc m) = (λ e. ap neg_ℤ ((sign-parity m).1 (omega arith)), λ e. ap neg_ℤ ((sign-parity m).0 (omega arith)))

-- the factor of an odd power, and that of an even one
pub factor-odd : (m k n : ℕ) → 1 ≤ m → m % 2 ≡ 1 → n ≡ lcm_to k → pos (n / m) ≡ log_factor m k
factor-odd m k n some odd e =
    let plus : sign (m - 1) ≡ pos 1 = (sign-parity (m - 1)).0 (omega arith) in
    sym (one-mul_ℤ (pos (n / m))) ∙ ap₂ (λ (z : ℤ) (j : ℕ). z *ℤ pos (j / m)) (sym plus) e

-- the factor of an even power is the least common multiple divided by m, with the sign changed
pub factor-even : (m k n : ℕ) → 1 ≤ m → m % 2 ≢ 1 → n ≡ lcm_to k → pos 0 -ℤ pos (n / m) ≡ log_factor m k
factor-even m k n some even e =
    let minus : sign (m - 1) ≡ neg_ℤ (pos 1) = (sign-parity (m - 1)).1 (omega arith) in
    omega (arith, ints, ap₂ (λ (z : ℤ) (j : ℕ). z *ℤ pos (j / m)) minus (sym e))

-- the bound of a logarithm is at least 1 at 1 to 8 letters
pub log_bound-some : (k : ℕ) → k < 8 → 1 ≤ log_bound (k + 1)
unfolding log_bound count_below
log_bound-some zero h = omega arith
log_bound-some (suc zero) h = omega arith
log_bound-some (suc (suc zero)) h = omega arith
log_bound-some (suc (suc (suc zero))) h = omega arith
log_bound-some (suc (suc (suc (suc zero)))) h = omega arith
log_bound-some (suc (suc (suc (suc (suc zero))))) h = omega arith
log_bound-some (suc (suc (suc (suc (suc (suc zero)))))) h = omega arith
log_bound-some (suc (suc (suc (suc (suc (suc (suc zero))))))) h = omega arith
log_bound-some (suc (suc (suc (suc (suc (suc (suc (suc k)))))))) h = absurd (omega arith)

-- the bounds of the lengths 1 .. n
abbrev pub bounds_to : ℕ → List ℕ
bounds_to n = map log_bound (up_to n)

-- one length more has its bound at the end
pub bounds_to-next : (n : ℕ) → bounds_to (suc n) ≡ bounds_to n ++ log_bound (suc n) ∷ []
bounds_to-next n = map-append log_bound (up_to n) (suc n ∷ [])

length-bounds_to : (n : ℕ) → length (bounds_to n) ≡ n
length-bounds_to zero = refl
length-bounds_to (suc n) = ap length (bounds_to-next n) ∙ omega (arith, length-append (bounds_to n) (log_bound (suc n) ∷ []), length-bounds_to n)

bounds_to-at : (n i : ℕ) → i < n → get_or (bounds_to n) i 0 ≡ log_bound (suc i)
bounds_to-at zero i h = absurd (omega arith)
bounds_to-at (suc n) i h =
    ap (λ (xs : List ℕ). get_or xs i 0) (bounds_to-next n)
    ∙ elim (eq-or-lt_of_le h) [
      | inl e ↦ let same : i ≡ length (bounds_to n) = omega (arith, length-bounds_to n) in rw same (get_or-append_seam (bounds_to n) (log_bound (suc n)) [] 0 ∙ ap (λ (k : ℕ). log_bound (suc k)) (sym (length-bounds_to n)))
      | inr l ↦ get_or_append_left (bounds_to n) (log_bound (suc n) ∷ []) 0 i (omega (arith, length-bounds_to n)) ∙ bounds_to-at n i (omega arith)
    ]

-- where a weight fits, it bounds the logarithm at each length
pub fits-at : (v depth k : ℕ) → LogFits v depth → k ≤ depth → v ^ k * log_bound k ≤ limit
unfolding log_bound count_below
fits-at v depth zero fits h = omega arith
fits-at v depth (suc k) fits h =
    omega (arith, fits k (omega (arith, length-bounds_to depth)), ap₂ (λ (m n : ℕ). v ^ m * n) (add-one k) (bounds_to-at depth k h))

-- one bound more is written
pub bounds_to-step : (factors : List ℕ) (k n : ℕ) → k < length factors → k < 8 → take k factors ≡ bounds_to k → All (λ f. 1 ≤ f) factors → n ≡ log_bound (k + 1)
    → (take (k + 1) (set factors k n) ≡ bounds_to (k + 1)) × All (λ f. 1 ≤ f) (set factors k n)
bounds_to-step factors k n here small front some en = (
  take_more (set factors k n) k 0 (omega (arith, length-set {A = ℕ}))
      ∙ ap₂ (λ (xs : List ℕ) (m : ℕ). xs ++ m ∷ []) (take-set factors k n ∙ front) (get_or-set_same factors k n 0 here ∙ en ∙ ap log_bound (add-one k))
      ∙ sym (ap bounds_to (add-one k) ∙ bounds_to-next k),
  All-set (λ f. 1 ≤ f) factors k n (omega (arith, en, log_bound-some k small)) some,
)
