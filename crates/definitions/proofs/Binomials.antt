-- Binomials by factorials, and the binomial theorem.
use Rattle.std.proofs.Common.{◌≡◌, ℕ, zero, suc, ◌+◌, ◌*◌, ◌-◌, ◌≤◌, ◌<◌, ◌^◌, refl, ap, ◌∙◌, arith}
use Rattle.std.proofs.Math.Nat.{pow-suc, pow-zero, sub-zero, eq_of_mul-eq-mul_left, mul-pos}
use Rattle.definitions.specs.Words.{binom, factorial}
use Rattle.definitions.specs.Sums.{count_below}
use Rattle.definitions.proofs.SumLaws.{count_below-add, count_below-mul, count_below-same, count_below-first}

-- no more than n of n things can be picked
pub binom_above : (n k : ℕ) → n < k → binom n k ≡ 0
binom_above n zero h = absurd (omega arith)
binom_above zero (suc k) h = refl
binom_above (suc n) (suc k) h = omega (arith, binom_above n k (omega arith), binom_above n (suc k) (omega arith))

-- a term of the binomial theorem
abbrev pub binomial_term : (a b k i : ℕ) → ℕ
binomial_term a b k i = binom k i * (a ^ (k - i) * b ^ i)

-- a later term of the next power: b times the one before, and what the next lemma says of the rest
term_step : (a b k i : ℕ) → binomial_term a b (suc k) (suc i) ≡ b * binomial_term a b k i + binom k (suc i) * (a ^ (k - i) * b ^ suc i)
term_step a b k i =
    let e : suc k - suc i ≡ k - i = omega arith in
    rw e (omega (arith, ap (λ (n : ℕ). binom k i * (a ^ (k - i) * n)) (pow-suc b i), ap (λ (n : ℕ). binom k (suc i) * (a ^ (k - i) * n)) (pow-suc b i)))

-- the rest is a times the next term of the power
low_step : (a b k i : ℕ) → i < k → a * binomial_term a b k (suc i) ≡ binom k (suc i) * (a ^ (k - i) * b ^ suc i)
low_step a b k i h =
    let e : k - i ≡ suc (k - suc i) = omega arith in
    rw e (omega (arith, ap (λ (n : ℕ). binom k (suc i) * (n * b ^ suc i)) (pow-suc a (k - suc i))))

-- the first term of the next power is a times the first one
zero_step : (a b k : ℕ) → binomial_term a b (suc k) zero ≡ a * binomial_term a b k zero
zero_step a b k = simp (pow-zero, sub-zero, pow-suc) (omega arith)

-- the binomial theorem
pub binomial : (a b k : ℕ) → count_below (suc k) (binomial_term a b k) ≡ (a + b) ^ k
unfolding count_below
binomial a b zero = simp (pow-zero, sub-zero) (omega arith)
binomial a b (suc k) =
    let low : ℕ → ℕ = λ i. binom k (suc i) * (a ^ (k - i) * b ^ suc i) in
    let first : count_below (suc (suc k)) (binomial_term a b (suc k)) ≡ binomial_term a b (suc k) zero + count_below (suc k) (λ i. binomial_term a b (suc k) (suc i)) = count_below-first (suc k) (binomial_term a b (suc k)) in
    let steps : count_below (suc k) (λ i. binomial_term a b (suc k) (suc i)) ≡ count_below (suc k) (λ i. b * binomial_term a b k i + low i) = count_below-same (suc k) _ _ (λ i h. term_step a b k i) in
    let cut : count_below (suc k) (λ i. b * binomial_term a b k i + low i) ≡ count_below (suc k) (λ i. b * binomial_term a b k i) + count_below (suc k) low = count_below-add (suc k) _ _ in
    let right : count_below (suc k) (λ i. b * binomial_term a b k i) ≡ b * count_below (suc k) (binomial_term a b k) = count_below-mul (suc k) b _ in
    let left : count_below (suc k) (λ i. a * binomial_term a b k i) ≡ a * count_below (suc k) (binomial_term a b k) = count_below-mul (suc k) a _ in
    let left_first : count_below (suc k) (λ i. a * binomial_term a b k i) ≡ a * binomial_term a b k zero + count_below k (λ i. a * binomial_term a b k (suc i)) = count_below-first k (λ i. a * binomial_term a b k i) in
    let left_rest : count_below k (λ i. a * binomial_term a b k (suc i)) ≡ count_below k low = count_below-same k _ _ (λ i h. low_step a b k i h) in
    let last : low k ≡ 0 = omega (arith, ap (λ (n : ℕ). n * (a ^ (k - k) * b ^ suc k)) (binom_above k (suc k) (omega arith))) in
    let start : binomial_term a b (suc k) zero ≡ a * binomial_term a b k zero = zero_step a b k in
    let whole : (a + b) ^ suc k ≡ (a + b) ^ k * (a + b) = pow-suc (a + b) k in
    let before : count_below (suc k) (binomial_term a b k) ≡ (a + b) ^ k = binomial a b k in
    omega (arith, ap (λ (n : ℕ). a * n) before, ap (λ (n : ℕ). b * n) before)

-- a factorial is at least 1
pub factorial-pos : (n : ℕ) → 1 ≤ factorial n
factorial-pos zero = omega arith
factorial-pos (suc n) = omega (arith, factorial-pos n)

-- there is one way to pick all
pub binom-all : (n : ℕ) → binom n n ≡ 1
binom-all zero = refl
binom-all (suc n) = omega (arith, binom-all n, binom_above n (suc n) (omega arith))

-- binomials by factorials
pub binom-factorial : (n a b : ℕ) → a + b ≡ n → binom n a * (factorial a * factorial b) ≡ factorial n
binom-factorial zero zero zero e = omega arith
binom-factorial zero zero (suc b) e = absurd (omega arith)
binom-factorial zero (suc a) b e = absurd (omega arith)
binom-factorial (suc n) zero b e = omega (arith, ap factorial (let f : b ≡ suc n = omega arith in f))
binom-factorial (suc n) (suc a) zero e =
    let same : a ≡ n = omega arith in
    let one : binom n a ≡ 1 = ap (binom n) same ∙ binom-all n in
    let none : binom n (suc a) ≡ 0 = binom_above n (suc a) (omega arith) in
    omega (arith, ap (λ (m : ℕ). m * (suc a * factorial a)) one, ap (λ (m : ℕ). m * (suc a * factorial a)) none, ap (λ (m : ℕ). suc m * factorial m) same)
binom-factorial (suc n) (suc a) (suc b) e =
    let parts : suc n ≡ suc a + suc b = omega arith in
    omega (
      arith,
      ap (λ (m : ℕ). suc a * m) (binom-factorial n a (suc b) (omega arith)),
      ap (λ (m : ℕ). suc b * m) (binom-factorial n (suc a) b (omega arith)),
      ap (λ (m : ℕ). m * factorial n) parts,
    )

-- three parts of i + l + m things, taken in two orders
pub trinomial : (i l m : ℕ) → binom (i + l + m) (i + l) * binom (i + l) i ≡ binom (i + l + m) i * binom (l + m) l
trinomial i l m =
    let f : ℕ = factorial i * factorial l * factorial m in
    let pos_f : 0 < f = mul-pos (mul-pos (factorial-pos i) (factorial-pos l)) (factorial-pos m) in
    let outer : binom (i + l + m) (i + l) * (factorial (i + l) * factorial m) ≡ factorial (i + l + m) = binom-factorial (i + l + m) (i + l) m refl in
    let inner : binom (i + l) i * (factorial i * factorial l) ≡ factorial (i + l) = binom-factorial (i + l) i l refl in
    let outer' : binom (i + l + m) i * (factorial i * factorial (l + m)) ≡ factorial (i + l + m) = binom-factorial (i + l + m) i (l + m) (omega arith) in
    let inner' : binom (l + m) l * (factorial l * factorial m) ≡ factorial (l + m) = binom-factorial (l + m) l m refl in
    eq_of_mul-eq-mul_left f pos_f _ _
    (omega (
      arith,
      outer,
      outer',
      ap (λ (n : ℕ). binom (i + l + m) (i + l) * (n * factorial m)) inner,
      ap (λ (n : ℕ). binom (i + l + m) i * (factorial i * n)) inner',
    ))
