-- Where the coefficients of k letters of two series are at most v ^ k and m ^ k, those of the product are at most (v + m) ^ k.
use Rattle.std.proofs.Common.{◌≡◌, ℕ, suc, ◌+◌, ◌*◌, ◌-◌, ◌≤◌, ◌^◌, ap, arith, ℤ, pos, ◌*ℤ◌, unsigned_abs, List, length, take, drop}
use Rattle.std.proofs.Math.Nat.{mul-le-mul, mul-le-mul_left}
use Rattle.std.proofs.lemmas.Int.{unsigned_abs-mul}
use Rattle.definitions.specs.Words.{binom}
use Rattle.definitions.specs.Sums.{sum_below, count_below}
use Rattle.definitions.specs.Products.{product_term, scaled_product}
use Rattle.definitions.proofs.SumLaws.{count_below-le, count_below-part, term-le-count_below, abs-sum_below}
use Rattle.definitions.proofs.Binomials.{binomial, binomial_term}

-- two factors for each i from 0 to k, bounded as the terms of the binomial theorem are
pub record AreFactors (v m k : ℕ) (p q : ℕ → ℤ) : Type 0 where
  -- the left factor at the first i letters is at most v ^ i
  pub left : (i : ℕ) → i ≤ k → unsigned_abs (p i) ≤ v ^ i
  -- the right factor at the other k - i letters is at most m ^ (k - i)
  pub right : (i : ℕ) → i ≤ k → unsigned_abs (q i) ≤ m ^ (k - i)

-- the size of a product of three
pub abs-triple : (n : ℕ) (a b : ℤ) → unsigned_abs (pos n *ℤ (a *ℤ b)) ≡ n * (unsigned_abs a * unsigned_abs b)
abs-triple n a b = omega (arith, unsigned_abs-mul (pos n) (a *ℤ b), ap (λ (m : ℕ). n * m) (unsigned_abs-mul a b))

-- one term of a product is at most that of the binomial theorem
pub factors-bound : (v m k i : ℕ) (p q : ℕ → ℤ) → AreFactors v m k p q → i ≤ k → unsigned_abs (pos (binom k i) *ℤ (p i *ℤ q i)) ≤ binomial_term m v k i
factors-bound v m k i p q bounds h =
    let product : unsigned_abs (q i) * unsigned_abs (p i) ≤ m ^ (k - i) * v ^ i = mul-le-mul (bounds.right i h) (bounds.left i h) in
    omega (arith, abs-triple (binom k i) (p i) (q i), mul-le-mul_left (binom k i) product)

-- the sum of both bounds, in either order
swapped : (v m k : ℕ) → (m + v) ^ k ≡ (v + m) ^ k
swapped v m k = let e : m + v ≡ v + m = omega arith in ap (λ (s : ℕ). s ^ k) e

-- each term of the product is at most (v + m) ^ k
pub term-bound : (v m k i : ℕ) (p q : ℕ → ℤ) → AreFactors v m k p q → i ≤ k → unsigned_abs (pos (binom k i) *ℤ (p i *ℤ q i)) ≤ (v + m) ^ k
term-bound v m k i p q bounds h =
    omega (arith, factors-bound v m k i p q bounds h, term-le-count_below (suc k) i (binomial_term m v k) (omega arith), binomial m v k, swapped v m k)

-- so is each sum of its first terms: nothing on the way is greater than the bound of the whole
pub sum-bound : (v m k n : ℕ) (p q : ℕ → ℤ) → AreFactors v m k p q → n ≤ suc k → unsigned_abs (sum_below n (λ i. pos (binom k i) *ℤ (p i *ℤ q i))) ≤ (v + m) ^ k
sum-bound v m k n p q bounds h =
    let each : count_below n (λ i. unsigned_abs (pos (binom k i) *ℤ (p i *ℤ q i))) ≤ count_below n (binomial_term m v k) =
    count_below-le n _ _ (λ i l. factors-bound v m k i p q bounds (omega arith)) in
    omega (
      arith,
      abs-sum_below n (λ i. pos (binom k i) *ℤ (p i *ℤ q i)),
      each,
      count_below-part (suc k) n (binomial_term m v k) h,
      binomial m v k,
      swapped v m k,
    )

-- each sum on the way to a coefficient of the product
pub partial-bound : (a b : List ℕ → ℤ) (v m : ℕ) (word : List ℕ) (n : ℕ) → AreFactors v m (length word) (λ i. a (take i word)) (λ i. b (drop i word)) → n ≤ suc (length word)
    → unsigned_abs (sum_below n (product_term a b word)) ≤ (v + m) ^ length word
unfolding product_term
partial-bound a b v m word n bounds h = sum-bound v m (length word) n (λ i. a (take i word)) (λ i. b (drop i word)) bounds h

-- the product at a word of k letters is at most (v + m) ^ k, where its factors are bounded at the cuts of this word
pub product-bound : (a b : List ℕ → ℤ) (v m : ℕ) (word : List ℕ) → AreFactors v m (length word) (λ i. a (take i word)) (λ i. b (drop i word))
    → unsigned_abs (scaled_product a b word) ≤ (v + m) ^ length word
unfolding scaled_product
product-bound a b v m word bounds = partial-bound a b v m word (suc (length word)) bounds (omega arith)
