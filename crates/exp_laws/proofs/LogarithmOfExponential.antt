-- The logarithm of an exponential is the series itself, at words of at most 8 letters.
use Rattle.std.proofs.Common.{◌≡◌, ℕ, zero, suc, ◌*◌, ◌-◌, ◌/◌, ◌≤◌, refl, sym, ap, ap₂, ◌∙◌, arith, ℤ, pos, ◌+ℤ◌, ◌-ℤ◌, ◌*ℤ◌, List, [], ◌∷◌, length, take, drop, Bool, true}
use Rattle.std.specs.Prelude.{nat_le}
use Rattle.std.proofs.Math.IntN.{*ℤ_comm, *ℤ-zero}
use Rattle.std.proofs.lemmas.Int.{ints}
use Rattle.std.proofs.lemmas.Bool.{le-leb}
use Rattle.definitions.specs.Words.{binom, factorial}
use Rattle.definitions.specs.Sums.{sum_below, count_below}
use Rattle.definitions.specs.Products.{unit}
use Rattle.definitions.specs.Exponentials.{plain_power, exponential}
use Rattle.definitions.specs.Logarithm.{lcm_to, reduced, power, logarithm, surjections}
use Rattle.definitions.proofs.Integers.{mul_assoc_ℤ, zero-mul_ℤ, one-mul_ℤ}
use Rattle.definitions.proofs.SumLaws.{sum_below-pos, sum_below-mul, sum_below-mul_right, sum_below-same, sum_below-first, sum_below-zero}
use Rattle.definitions.proofs.ProductLaws.{scaled_product-same}
use Rattle.shuffle.proofs.ShuffleSums.{exchange}
use Rattle.lie_steps.proofs.Concatenations.{plain_product-cut, joined-unit_right}
use Rattle.lie_steps.proofs.Exponentials.{quotient, chosen}
use Rattle.exp_log.proofs.LogarithmsOnShuffles.{coefficient_of, is_zero, is_zero-true, guarded, all_below, all_below-at}
use Rattle.exp_laws.proofs.PowerSums.{power_term, power_sum, blended, power_sum-product, power_sum-same}
use Rattle.exp_laws.proofs.Inverses.{ones, exponential-sum}

-- ---- the powers of an exponential
-- the numbers of the exponential less its coefficient at the empty word
abbrev pub later : ℕ → ℤ
later zero = pos 0
later (suc j) = pos 1

-- how many maps of j things onto m things there are
abbrev pub onto : ℕ → ℕ → ℤ
onto m j = pos (surjections m j)

later-term : (z : List ℕ → ℤ) (a : ℕ) (w : List ℕ) (k j : ℕ) → power_term z ones (a ∷ w) k j ≡ power_term z later (a ∷ w) k j
later-term z a w k zero = refl
later-term z a w k (suc j) = refl

reduced-sum : (z : List ℕ → ℤ) (w : List ℕ) → reduced (exponential z) w ≡ power_sum z later w
unfolding sum_below
reduced-sum z [] = refl
reduced-sum z (a ∷ w) =
    exponential-sum z (a ∷ w)
    ∙ sum_below-same (suc (suc (length w))) (power_term z ones (a ∷ w) (suc (length w))) (power_term z later (a ∷ w) (suc (length w))) (λ j h. later-term z a w (suc (length w)) j)

unit-term : (z : List ℕ → ℤ) (a : ℕ) (w : List ℕ) (k j : ℕ) → power_term z (onto 0) (a ∷ w) k j ≡ pos 0
unit-term z a w k zero = *ℤ-zero (quotient k zero)
unit-term z a w k (suc j) = ap (λ (x : ℤ). quotient k (suc j) *ℤ x) (zero-mul_ℤ (plain_power z (suc j) (a ∷ w))) ∙ *ℤ-zero (quotient k (suc j))

unit-sum : (z : List ℕ → ℤ) (w : List ℕ) → unit w ≡ power_sum z (onto 0) w
unfolding sum_below
unit-sum z [] = refl
unit-sum z (a ∷ w) =
    sym (sum_below-zero (suc (suc (length w))) (power_term z (onto 0) (a ∷ w) (suc (length w))) (λ j h. unit-term z a w (suc (length w)) j))

-- one part more
onto-next : (m j : ℕ) → blended later (onto m) j ≡ onto (suc m) j
onto-next m j =
    let f : ℕ → ℤ = chosen j (λ a b. later a *ℤ onto m b) in
    let first : f zero ≡ pos 0 = ap (λ (x : ℤ). pos 1 *ℤ x) (zero-mul_ℤ (onto m (j - zero))) in
    sum_below-first j f
    ∙ ap (λ (x : ℤ). x +ℤ sum_below j (λ i. f (suc i))) first
    ∙ (let e : pos 0 +ℤ sum_below j (λ i. f (suc i)) ≡ sum_below j (λ i. f (suc i)) = omega (arith, ints) in e)
    ∙ sum_below-same j (λ i. f (suc i)) (λ i. pos (binom j (suc i) * surjections m (j - suc i))) (λ i h. ap (λ (x : ℤ). pos (binom j (suc i)) *ℤ x) (one-mul_ℤ (onto m (j - suc i))))
    ∙ sum_below-pos j (λ i. binom j (suc i) * surjections m (j - suc i))

-- the m-th power of the exponential, less its coefficient at the empty word
pub power-sum : (z : List ℕ → ℤ) → z [] ≡ pos 0 → (m : ℕ) (w : List ℕ) → power (exponential z) m w ≡ power_sum z (onto m) w
power-sum z empty zero w = unit-sum z w
power-sum z empty (suc m) w =
    scaled_product-same (reduced (exponential z)) (power_sum z later) (power (exponential z) m) (power_sum z (onto m)) w
    (λ i h. reduced-sum z (take i w)) (λ i h. power-sum z empty m (drop i w))
    ∙ power_sum-product z empty later (onto m) w
    ∙ power_sum-same z (blended later (onto m)) (onto (suc m)) w (λ j h. onto-next m j)

-- ---- the sums over the powers
abbrev pub log_number : ℕ → ℕ → ℤ
log_number k j = sum_below k (λ m. coefficient_of k m *ℤ onto (suc m) j)

moved : (c q s x : ℤ) → c *ℤ (q *ℤ (s *ℤ x)) ≡ q *ℤ ((c *ℤ s) *ℤ x)
moved c q s x = sym (mul_assoc_ℤ c q (s *ℤ x)) ∙ ap (λ (u : ℤ). u *ℤ (s *ℤ x)) (*ℤ_comm c q) ∙ mul_assoc_ℤ q c (s *ℤ x) ∙ ap (λ (u : ℤ). q *ℤ u) (sym (mul_assoc_ℤ c s x))

-- the logarithm of an exponential is a sum of powers, with the numbers of the length of the word
pub logarithm-sum : (z : List ℕ → ℤ) → z [] ≡ pos 0 → (w : List ℕ) → logarithm (exponential z) w ≡ power_sum z (log_number (length w)) w
unfolding logarithm
logarithm-sum z empty w =
    let k : ℕ = length w in
    let c : ℕ → ℤ = coefficient_of k in
    let f : ℕ → ℕ → ℤ = λ m j. c m *ℤ power_term z (onto (suc m)) w k j in
    sum_below-same k (λ m. c m *ℤ power (exponential z) (suc m) w) (λ m. sum_below (suc k) (f m))
    (λ m h. ap (λ (x : ℤ). c m *ℤ x) (power-sum z empty (suc m) w) ∙ sym (sum_below-mul (suc k) (c m) (power_term z (onto (suc m)) w k)))
    ∙ exchange k (suc k) f
    ∙ sum_below-same (suc k) (λ j. sum_below k (λ m. f m j)) (power_term z (log_number k) w k)
    (λ j h. sum_below-same k (λ m. f m j) (λ m. quotient k j *ℤ ((c m *ℤ onto (suc m) j) *ℤ plain_power z j w)) (λ m l. moved (c m) (quotient k j) (onto (suc m) j) (plain_power z j w))
    ∙ sum_below-mul k (quotient k j) (λ m. (c m *ℤ onto (suc m) j) *ℤ plain_power z j w)
    ∙ ap (λ (x : ℤ). quotient k j *ℤ x) (sym (sum_below-mul_right k (λ m. c m *ℤ onto (suc m) j) (plain_power z j w))))

-- ---- the table
-- the series alone is left
abbrev pub single : ℕ → ℕ → ℤ
single k zero = pos 0
single k (suc zero) = pos (lcm_to k)
single k (suc (suc j)) = pos 0

-- whether the number of the j-th power at k letters is that of the first power alone
abbrev pub is_single : ℕ → ℕ → Bool
is_single k j = is_zero (log_number k j -ℤ single k j)

-- whether this is so of all powers at k letters
abbrev pub row_of : ℕ → Bool
row_of k = all_below 9 (λ j. guarded (nat_le j k) (λ x. is_single k j))

-- the 45 sums
table : all_below 9 row_of ≡ true
unfolding sum_below count_below
table = refl

table-at : (k j : ℕ) → k ≤ 8 → j ≤ k → log_number k j ≡ single k j
table-at k j small within =
    let row : row_of k ≡ true = all_below-at 9 row_of k table (omega arith) in
    let entry : guarded (nat_le j k) (λ x. is_single k j) ≡ true = all_below-at 9 (λ i. guarded (nat_le i k) (λ x. is_single k i)) j row (omega arith) in
    let none : log_number k j -ℤ single k j ≡ pos 0 =
    is_zero-true (log_number k j -ℤ single k j) (sym (ap (λ (b : Bool). guarded b (λ x. is_single k j)) (le-leb j k within)) ∙ entry) in
    omega (arith, ints, none)

-- ---- the logarithm of the exponential
first-power : (z : List ℕ → ℤ) (w : List ℕ) → plain_power z 1 w ≡ z w
first-power z w = plain_product-cut z unit w ∙ joined-unit_right z w

single-none : (q x : ℤ) → q *ℤ (pos 0 *ℤ x) ≡ pos 0
single-none q x = ap (λ (u : ℤ). q *ℤ u) (zero-mul_ℤ x) ∙ *ℤ-zero q

single-sum : (z : List ℕ → ℤ) (a : ℕ) (w : List ℕ) (k : ℕ) → sum_below (suc (suc (length w))) (power_term z (single k) (a ∷ w) k) ≡ pos (factorial k * lcm_to k) *ℤ z (a ∷ w)
single-sum z a w k =
    let n : ℕ = length w in
    let f : ℕ → ℤ = power_term z (single k) (a ∷ w) k in
    let none : f zero ≡ pos 0 = single-none (quotient k zero) (unit (a ∷ w)) in
    let rest : sum_below n (λ i. f (suc (suc i))) ≡ pos 0 = sum_below-zero n (λ i. f (suc (suc i))) (λ i h. single-none (quotient k (suc (suc i))) (plain_power z (suc (suc i)) (a ∷ w))) in
    let whole : factorial k / 1 ≡ factorial k = omega arith in
    let one : f 1 ≡ pos (factorial k * lcm_to k) *ℤ z (a ∷ w) =
    ap₂ (λ (m : ℕ) (x : ℤ). pos m *ℤ (pos (lcm_to k) *ℤ x)) whole (first-power z (a ∷ w)) ∙ sym (mul_assoc_ℤ (pos (factorial k)) (pos (lcm_to k)) (z (a ∷ w))) in
    sum_below-first (suc n) f
    ∙ ap₂ ◌+ℤ◌ none (sum_below-first n (λ i. f (suc i)) ∙ ap₂ ◌+ℤ◌ one rest)
    ∙ omega (arith, ints)

-- at a word of k letters, k from 1 to 8, it is k! lcm_to k times the series
pub logarithm-exponential : (z : List ℕ → ℤ) → z [] ≡ pos 0 → (w : List ℕ) → 1 ≤ length w → length w ≤ 8
    → logarithm (exponential z) w ≡ pos (factorial (length w) * lcm_to (length w)) *ℤ z w
logarithm-exponential z empty [] some small = absurd (omega arith)
logarithm-exponential z empty (a ∷ w) some small =
    logarithm-sum z empty (a ∷ w)
    ∙ power_sum-same z (log_number (length (a ∷ w))) (single (length (a ∷ w))) (a ∷ w) (λ j h. table-at (length (a ∷ w)) j small h)
    ∙ single-sum z a w (length (a ∷ w))
