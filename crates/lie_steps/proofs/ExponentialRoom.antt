-- Exponentials of series that agree on the parts of a word, and the bounds of each sum on the way to a power.
use Rattle.std.proofs.Common.{◌≡◌, ℕ, zero, suc, ◌*◌, ◌-◌, ◌/◌, ◌≤◌, ◌^◌, refl, ap, ap₂, subst, arith, ℤ, pos, ◌*ℤ◌, unsigned_abs, List, ◌∷◌, length, take, drop, length-take, length-drop}
use Rattle.std.proofs.Math.Nat.{pow-suc, one-le-pow, mul-le-mul, mul-le-mul_left}
use Rattle.definitions.specs.Words.{factorial}
use Rattle.definitions.specs.Sums.{count_below}
use Rattle.definitions.proofs.SumLaws.{count_below-mul, count_below-le, sum_below-same, term-le-count_below}
use Rattle.definitions.specs.Exponentials.{plain_product, plain_power, exponential}
use Rattle.lie_steps.proofs.ExponentialBounds.{IsClosed, IsSized, powers_sum, powers-bound, size-le, front-bound}

-- ---- series that agree
-- series that agree at the words of a closed P have the same powers there
pub power-same : (P : List ℕ → Type 0) → IsClosed P → (s t : List ℕ → ℤ) → ((w : List ℕ) → P w → s w ≡ t w) → (m : ℕ) (w : List ℕ) → P w → plain_power s m w ≡ plain_power t m w
unfolding plain_product
power-same P closed s t same zero w is = refl
power-same P closed s t same (suc m) w is =
    sum_below-same (suc (length w)) (λ i. s (take i w) *ℤ plain_power s m (drop i w)) (λ i. t (take i w) *ℤ plain_power t m (drop i w))
    (λ i h. ap₂ ◌*ℤ◌ (same (take i w) (closed.front i w is)) (power-same P closed s t same m (drop i w) (closed.back i w is)))

-- and the same exponential
pub exponential-same : (P : List ℕ → Type 0) → IsClosed P → (s t : List ℕ → ℤ) → ((w : List ℕ) → P w → s w ≡ t w) → (w : List ℕ) → P w → exponential s w ≡ exponential t w
unfolding exponential
exponential-same P closed s t same w is =
    sum_below-same (suc (length w)) (λ m. pos (factorial (length w) / factorial m) *ℤ plain_power s m w) (λ m. pos (factorial (length w) / factorial m) *ℤ plain_power t m w)
    (λ m h. ap (λ (x : ℤ). pos (factorial (length w) / factorial m) *ℤ x) (power-same P closed s t same m w is))

-- ---- room for each sum
-- the absolute value of a power is at most the power of the weight, where some part is allowed
pub power-bound : (P : List ℕ → Type 0) (depth : ℕ) (size : ℕ → ℕ) (r : ℕ) (z : List ℕ → ℤ) → IsSized P depth size r z → 1 ≤ depth → (m : ℕ) (w : List ℕ) → P w → unsigned_abs (plain_power z m w) ≤ r ^ length w
unfolding powers_sum
power-bound P depth size r z ok some m w is =
    let k : ℕ = length w in
    let one : 1 ≤ depth ^ (k - m) = one-le-pow (k - m) depth some in
    let term : depth ^ (k - m) * unsigned_abs (plain_power z m w) ≤ powers_sum depth z (suc m) w = term-le-count_below (suc m) m (λ i. depth ^ (k - i) * unsigned_abs (plain_power z i w)) (omega arith) in
    let more : 1 * unsigned_abs (plain_power z m w) ≤ depth ^ (k - m) * unsigned_abs (plain_power z m w) = mul-le-mul one (let same : unsigned_abs (plain_power z m w) ≤ unsigned_abs (plain_power z m w) = omega arith in same) in
    omega (arith, term, more, powers-bound P depth size r z ok (suc m) w is)

-- each sum on the way to a power of one part more, by its first part
pub cuts-bound : (P : List ℕ → Type 0) (depth : ℕ) (size : ℕ → ℕ) (r : ℕ) (z : List ℕ → ℤ) → IsSized P depth size r z → 1 ≤ depth → (m x : ℕ) (w : List ℕ) → P (x ∷ w)
    → count_below (suc (length w)) (λ j. unsigned_abs (z (x ∷ take j w)) * unsigned_abs (plain_power z m (drop j w))) ≤ r ^ suc (length w)
cuts-bound P depth size r z ok some m x w is =
    let k : ℕ = length w in
    let a : ℕ → ℕ = λ j. unsigned_abs (z (x ∷ take j w)) in
    let b : ℕ → ℕ = λ j. unsigned_abs (plain_power z m (drop j w)) in
    let each : count_below (suc k) (λ j. a j * b j) ≤ count_below (suc k) (λ j. r ^ k * size j) =
    count_below-le (suc k) (λ j. a j * b j) (λ j. r ^ k * size j)
    (λ j h.
    let len : length (drop j w) ≡ k - j = length-drop j w in
    let one : 1 ≤ depth ^ j = one-le-pow j depth some in
    let more : 1 * a j ≤ depth ^ j * a j = mul-le-mul one (let same : a j ≤ a j = omega arith in same) in
    let front : a j ≤ size j ^ suc j = omega (arith, more, ok.sized j (x ∷ take j w) (ok.closed.front (suc j) (x ∷ w) is) (omega (arith, length-take j w))) in
    let back : b j ≤ r ^ (k - j) = subst (λ (i : ℕ). b j ≤ r ^ i) len (power-bound P depth size r z ok some m (drop j w) (ok.closed.back (suc j) (x ∷ w) is)) in
    let both : a j * b j ≤ size j ^ suc j * r ^ (k - j) = mul-le-mul front back in
    omega (arith, both, front-bound (size j) r k j (omega arith) (size-le size r ok.summed j))) in
    let total : count_below (suc k) (λ j. r ^ k * size j) ≡ r ^ k * count_below (suc k) size = count_below-mul (suc k) (r ^ k) size in
    omega (arith, each, total, mul-le-mul_left (r ^ k) (ok.summed (suc k)), pow-suc r k)
