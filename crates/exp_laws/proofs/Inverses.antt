-- The exponentials of a series and of its negative are inverse to each other.
use Rattle.std.proofs.Common.{◌≡◌, ℕ, zero, suc, ◌≤◌, sym, ap, ap₂, ◌∙◌, arith, ℤ, pos, ◌+ℤ◌, ◌*ℤ◌, neg_ℤ, List, [], length, take, drop}
use Rattle.std.proofs.Math.IntN.{*ℤ_comm, *ℤ-zero}
use Rattle.std.proofs.lemmas.Int.{ints}
use Rattle.definitions.specs.Products.{unit, scaled_product}
use Rattle.definitions.specs.Exponentials.{plain_power, exponential}
use Rattle.definitions.specs.Logarithm.{sign}
use Rattle.definitions.proofs.Integers.{mul_assoc_ℤ, zero-mul_ℤ, one-mul_ℤ}
use Rattle.definitions.proofs.SumLaws.{sum_below-same, sum_below-zero}
use Rattle.definitions.proofs.ProductLaws.{scaled_product-same}
use Rattle.shuffle.proofs.ShuffleSums.{cut-same, cut-mul}
use Rattle.shuffle.proofs.DualLaws.{neg-mul}
use Rattle.lie_steps.proofs.Concatenations.{unit-longer}
use Rattle.lie_steps.proofs.Exponentials.{power-next, quotient, fork, fork-binom}
use Rattle.exp_laws.proofs.PowerSums.{power_term, power_sum, blended, power_sum-product}

-- ---- the exponential is a sum of powers
abbrev pub ones : ℕ → ℤ
ones j = pos 1

-- the exponential is the sum of all powers with the number 1
pub exponential-sum : (z : List ℕ → ℤ) (w : List ℕ) → exponential z w ≡ power_sum z ones w
unfolding exponential
exponential-sum z w =
    sum_below-same (suc (length w)) (λ j. quotient (length w) j *ℤ plain_power z j w) (power_term z ones w (length w))
    (λ j h. ap (λ (x : ℤ). quotient (length w) j *ℤ x) (sym (one-mul_ℤ (plain_power z j w))))

-- the series with each coefficient negated
abbrev pub negated : (List ℕ → ℤ) → List ℕ → ℤ
negated z w = neg_ℤ (z w)

negated-cell : (x s y : ℤ) → neg_ℤ x *ℤ (s *ℤ y) ≡ neg_ℤ s *ℤ (x *ℤ y)
negated-cell x s y =
    neg-mul x (s *ℤ y)
    ∙ ap neg_ℤ (sym (mul_assoc_ℤ x s y) ∙ ap (λ (u : ℤ). u *ℤ y) (*ℤ_comm x s) ∙ mul_assoc_ℤ s x y)
    ∙ sym (neg-mul s (x *ℤ y))

-- the m-th power of the negated series is that of the series, with the sign of m
pub negated-power : (z : List ℕ → ℤ) (m : ℕ) (w : List ℕ) → plain_power (negated z) m w ≡ sign m *ℤ plain_power z m w
negated-power z zero w = sym (one-mul_ℤ (unit w))
negated-power z (suc m) w =
    power-next (negated z) m w
    ∙ cut-same (λ p q. neg_ℤ (z p) *ℤ plain_power (negated z) m q) (λ p q. sign (suc m) *ℤ (z p *ℤ plain_power z m q)) w
    (λ p q. ap (λ (x : ℤ). neg_ℤ (z p) *ℤ x) (negated-power z m q) ∙ negated-cell (z p) (sign m) (plain_power z m q))
    ∙ cut-mul (sign (suc m)) (λ p q. z p *ℤ plain_power z m q) w
    ∙ ap (λ (x : ℤ). sign (suc m) *ℤ x) (sym (power-next z m w))

-- the exponential of the negated series is the sum of the powers with alternating signs
pub exponential-negated : (z : List ℕ → ℤ) (w : List ℕ) → exponential (negated z) w ≡ power_sum z sign w
unfolding exponential
exponential-negated z w =
    sum_below-same (suc (length w)) (λ j. quotient (length w) j *ℤ plain_power (negated z) j w) (power_term z sign w (length w))
    (λ j h. ap (λ (x : ℤ). quotient (length w) j *ℤ x) (negated-power z j w))

-- ---- alternating sums
fork-none : (m : ℕ) (f : ℕ → ℕ → ℤ) → ((a b : ℕ) → f a b ≡ pos 0) → fork m f ≡ pos 0
fork-none zero f none = none 0 0
fork-none (suc m) f none = fork-none m (λ a b. f (suc a) b +ℤ f a (suc b)) (λ a b. ap₂ ◌+ℤ◌ (none (suc a) b) (none a (suc b)))

-- (1 - 1) ^ j for j from 1
pub alternating-none : (j : ℕ) → blended ones sign (suc j) ≡ pos 0
alternating-none j =
    sym (fork-binom (suc j) (λ a b. ones a *ℤ sign b))
    ∙ fork-none j (λ a b. (pos 1 *ℤ sign b) +ℤ (pos 1 *ℤ neg_ℤ (sign b))) (λ a b. omega (arith, ints, one-mul_ℤ (sign b), one-mul_ℤ (neg_ℤ (sign b))))

none-term : (z : List ℕ → ℤ) (w : List ℕ) (k : ℕ) → 1 ≤ length w → (j : ℕ) → power_term z (blended ones sign) w k j ≡ pos 0
none-term z w k some zero =
    ap (λ (x : ℤ). quotient k zero *ℤ (blended ones sign zero *ℤ x)) (unit-longer w some)
    ∙ ap (λ (x : ℤ). quotient k zero *ℤ x) (*ℤ-zero (blended ones sign zero)) ∙ *ℤ-zero (quotient k zero)
none-term z w k some (suc j) =
    ap (λ (x : ℤ). quotient k (suc j) *ℤ (x *ℤ plain_power z (suc j) w)) (alternating-none j)
    ∙ ap (λ (x : ℤ). quotient k (suc j) *ℤ x) (zero-mul_ℤ (plain_power z (suc j) w)) ∙ *ℤ-zero (quotient k (suc j))

-- the product of the two is 0 at each nonempty word
pub exponential-inverse : (z : List ℕ → ℤ) → z [] ≡ pos 0 → (w : List ℕ) → 1 ≤ length w → scaled_product (exponential z) (exponential (negated z)) w ≡ pos 0
exponential-inverse z empty w some =
    scaled_product-same (exponential z) (power_sum z ones) (exponential (negated z)) (power_sum z sign) w
    (λ i h. exponential-sum z (take i w)) (λ i h. exponential-negated z (drop i w))
    ∙ power_sum-product z empty ones sign w
    ∙ sum_below-zero (suc (length w)) (power_term z (blended ones sign) w (length w)) (λ j h. none-term z w (length w) some j)
