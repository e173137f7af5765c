-- Quotients of factorials.
use Rattle.std.proofs.Common.{◌≡◌, ℕ, zero, suc, ◌+◌, ◌*◌, ◌-◌, ◌/◌, ◌≤◌, ◌<◌, ◌^◌, refl, sym, ap, ◌∙◌, arith}
use Rattle.std.proofs.Math.Nat.{pow-suc, pow-zero, mul-pos, mul-le-mul, eq_of_mul-eq-mul_left, mul-div_left}
use Rattle.definitions.specs.Words.{binom, factorial}
use Rattle.definitions.proofs.Binomials.{binom-factorial, factorial-pos}

-- (m + 1) .. (m + d)
abbrev pub rising : ℕ → ℕ → ℕ
rising m zero = 1
rising m (suc d) = suc (m + d) * rising m d

rising-factorial : (m d : ℕ) → rising m d * factorial m ≡ factorial (m + d)
rising-factorial m zero = (let e : m ≡ m + 0 = omega arith in omega (arith, ap factorial e))
rising-factorial m (suc d) =
    let e : suc (m + d) ≡ m + suc d = omega arith in
    omega (arith, ap (λ (n : ℕ). suc (m + d) * n) (rising-factorial m d), ap factorial e)

-- the quotient of two factorials is the product of the numbers between them
pub quotient-rising : (m d : ℕ) → factorial (m + d) / factorial m ≡ rising m d
quotient-rising m d = ap (λ (n : ℕ). n / factorial m) (sym (rising-factorial m d)) ∙ mul-div_left (rising m d) (factorial-pos m)

-- the quotient is whole
pub quotient-whole : (k m : ℕ) → m ≤ k → (factorial k / factorial m) * factorial m ≡ factorial k
quotient-whole k m h =
    let e : k ≡ m + (k - m) = omega arith in
    ap (λ (n : ℕ). (factorial n / factorial m) * factorial m) e
    ∙ ap (λ (n : ℕ). n * factorial m) (quotient-rising m (k - m)) ∙ rising-factorial m (k - m) ∙ sym (ap factorial e)

rising-bound : (n m d : ℕ) → m + d ≤ n → rising m d ≤ n ^ d
rising-bound n m zero h = omega (arith, pow-zero n)
rising-bound n m (suc d) h =
    let power : n ^ suc d ≡ n ^ d * n = pow-suc n d in
    omega (arith, power, mul-le-mul (let le : suc (m + d) ≤ n = omega arith in le) (rising-bound n m d (omega arith)))

-- it has k - m factors of at most k
pub quotient-bound : (n k m : ℕ) → m ≤ k → k ≤ n → factorial k / factorial m ≤ n ^ (k - m)
quotient-bound n k m h le =
    let e : k ≡ m + (k - m) = omega arith in
    omega (arith, ap (λ (i : ℕ). factorial i / factorial m) e, quotient-rising m (k - m), rising-bound n m (k - m) (omega arith))

-- the numbers of the terms of the exponential on shuffles
pub quotient-binom : (a b i l : ℕ) → i ≤ a → l ≤ b
    → (factorial (a + b) / factorial (i + l)) * binom (i + l) i ≡ binom (a + b) a * ((factorial a / factorial i) * (factorial b / factorial l))
quotient-binom a b i l hi hl =
    let whole : ℕ = factorial (a + b) / factorial (i + l) in
    let left : ℕ = factorial a / factorial i in
    let right : ℕ = factorial b / factorial l in
    let inner : binom (i + l) i * (factorial i * factorial l) ≡ factorial (i + l) = binom-factorial (i + l) i l refl in
    let outer : binom (a + b) a * (factorial a * factorial b) ≡ factorial (a + b) = binom-factorial (a + b) a b refl in
    let all : whole * factorial (i + l) ≡ factorial (a + b) = quotient-whole (a + b) (i + l) (omega arith) in
    let one : left * factorial i ≡ factorial a = quotient-whole a i hi in
    let other : right * factorial l ≡ factorial b = quotient-whole b l hl in
    let f : ℕ = factorial i * factorial l in
    let some : 0 < f = mul-pos (factorial-pos i) (factorial-pos l) in
    let lhs : f * (whole * binom (i + l) i) ≡ factorial (a + b) = (let x : f * (whole * binom (i + l) i) ≡ whole * (binom (i + l) i * (factorial i * factorial l)) = omega arith in x) ∙ ap (λ (n : ℕ). whole * n) inner ∙ all in
    let rhs : f * (binom (a + b) a * (left * right)) ≡ factorial (a + b) =
    (let x : f * (binom (a + b) a * (left * right)) ≡ binom (a + b) a * ((left * factorial i) * (right * factorial l)) = omega arith in x)
    ∙ ap (λ (n : ℕ). binom (a + b) a * (n * (right * factorial l))) one ∙ ap (λ (n : ℕ). binom (a + b) a * (factorial a * n)) other ∙ outer in
    eq_of_mul-eq-mul_left f some _ _ (lhs ∙ sym rhs)
