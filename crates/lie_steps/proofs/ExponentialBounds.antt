-- A bound of the exponential, and of each sum on the way to it.
use Rattle.std.proofs.Common.{◌≡◌, inl, inr, ℕ, zero, suc, ◌+◌, ◌*◌, ◌-◌, ◌/◌, ◌≤◌, ◌<◌, ◌^◌, refl, sym, ap, ◌∙◌, subst, arith, ℤ, pos, ◌*ℤ◌, unsigned_abs, List, [], ◌∷◌, length, take, drop, length-take, length-drop}
use Rattle.std.proofs.Math.Nat.{pow-suc, pow-zero, mul-le-mul, mul-le-mul_left, pow-le-pow_left}
use Rattle.std.proofs.lemmas.Nat.{pow-add}
use Rattle.std.proofs.lemmas.Int.{unsigned_abs-mul}
use Rattle.std.proofs.lemmas.Bool.{cases_lt}
use Rattle.definitions.specs.Words.{factorial}
use Rattle.definitions.specs.Sums.{sum_below, count_below}
use Rattle.definitions.proofs.SumLaws.{count_below-add, count_below-mul, count_below-same, count_below-le, count_below-first, abs-sum_below}
use Rattle.definitions.specs.Exponentials.{plain_product, plain_power, exponential}
use Rattle.lie_steps.proofs.Exponentials.{power-none}
use Rattle.lie_steps.proofs.Quotients.{quotient-bound}

-- the fronts and rests of a word that meets P meet it too
pub record IsClosed (P : List ℕ → Type 0) : Type 0 where
  -- each front
  pub front : (n : ℕ) (w : List ℕ) → P w → P (take n w)
  -- each rest
  pub back : (n : ℕ) (w : List ℕ) → P w → P (drop n w)

-- all words are closed
pub all-IsClosed : IsClosed (λ w. Unit {0})
all-IsClosed = record { front = λ n w is. is; back = λ n w is. is }

-- at words of k + 1 letters depth ^ k times the coefficient is at most the (k + 1)-th power of the size of degree k + 1, and the sizes add up to at most r
pub record IsSized (P : List ℕ → Type 0) (depth : ℕ) (size : ℕ → ℕ) (r : ℕ) (z : List ℕ → ℤ) : Type 0 where
  -- the bounds are asked at words that meet P alone
  pub closed : IsClosed P
  -- the series is 0 at the empty word, so its powers have no cut with an empty part
  pub empty : z [] ≡ pos 0
  -- the bound at k + 1 letters
  pub sized : (k : ℕ) (w : List ℕ) → P w → length w ≡ suc k → depth ^ k * unsigned_abs (z w) ≤ size k ^ suc k
  -- however many sizes are added
  pub summed : (n : ℕ) → count_below n size ≤ r

-- two sums, in either order
pub count-exchange : (k n : ℕ) (g : ℕ → ℕ → ℕ) → count_below k (λ m. count_below n (λ a. g m a)) ≡ count_below n (λ a. count_below k (λ m. g m a))
unfolding count_below
count-exchange zero n g = omega (arith, count_below-same n (λ a. 0) (λ a. 0 * 0) (λ a h. refl), count_below-mul n 0 (λ a. 0))
count-exchange (suc k) n g =
    omega (arith, count-exchange k n g, count_below-add n (λ a. count_below k (λ m. g m a)) (λ a. g k a))

-- the sum of the absolute values of the first n powers
unfoldable pub powers_sum : ℕ → (List ℕ → ℤ) → ℕ → List ℕ → ℕ
powers_sum depth z n w = count_below n (λ m. depth ^ (length w - m) * unsigned_abs (plain_power z m w))

-- each size is at most the sum
pub size-le : (size : ℕ → ℕ) (r : ℕ) → ((n : ℕ) → count_below n size ≤ r) → (k : ℕ) → size k ≤ r
unfolding count_below
size-le size r summed k = omega (arith, summed (suc k))

-- a power of one part more, by its first part
pub power-first : (z : List ℕ → ℤ) → z [] ≡ pos 0 → (m x : ℕ) (w : List ℕ)
    → unsigned_abs (plain_power z (suc m) (x ∷ w)) ≤ count_below (suc (length w)) (λ j. unsigned_abs (z (x ∷ take j w)) * unsigned_abs (plain_power z m (drop j w)))
unfolding plain_product
power-first z empty m x w =
    let f : ℕ → ℤ = λ i. z (take i (x ∷ w)) *ℤ plain_power z m (drop i (x ∷ w)) in
    let g : ℕ → ℕ = λ i. unsigned_abs (f i) in
    let all : unsigned_abs (sum_below (suc (suc (length w))) f) ≤ count_below (suc (suc (length w))) g = abs-sum_below (suc (suc (length w))) f in
    let first : count_below (suc (suc (length w))) g ≡ g zero + count_below (suc (length w)) (λ j. g (suc j)) = count_below-first (suc (length w)) g in
    let none : g zero ≡ 0 = unsigned_abs-mul (z []) (plain_power z m (x ∷ w)) ∙ ap (λ (y : ℤ). unsigned_abs y * unsigned_abs (plain_power z m (x ∷ w))) empty ∙ (let e : 0 * unsigned_abs (plain_power z m (x ∷ w)) ≡ 0 = omega arith in e) in
    let each : count_below (suc (length w)) (λ j. g (suc j)) ≡ count_below (suc (length w)) (λ j. unsigned_abs (z (x ∷ take j w)) * unsigned_abs (plain_power z m (drop j w))) =
    count_below-same (suc (length w)) (λ j. g (suc j)) (λ j. unsigned_abs (z (x ∷ take j w)) * unsigned_abs (plain_power z m (drop j w)))
    (λ j h. unsigned_abs-mul (z (x ∷ take j w)) (plain_power z m (drop j w))) in
    omega (arith, all, first, none, each)

-- the powers of depth go with the parts
spread-term : (depth k j m a b : ℕ) → j ≤ k → (k - j < m → b ≡ 0) → depth ^ (k - m) * (a * b) ≤ (depth ^ j * a) * (depth ^ ((k - j) - m) * b)
spread-term depth k j m a b h none =
    elim (cases_lt (k - j) m) [
      | inl late ↦ omega (arith, ap (λ (n : ℕ). depth ^ (k - m) * (a * n)) (none late))
      | inr on_time ↦
          let e : k - m ≡ j + ((k - j) - m) = omega arith in
          let split : depth ^ (k - m) ≡ depth ^ j * depth ^ ((k - j) - m) = ap (λ (n : ℕ). depth ^ n) e ∙ pow-add depth j ((k - j) - m) in
          omega (arith, ap (λ (n : ℕ). n * (a * b)) split)
    ]

-- the term of the parts with j + 1 letters in front
pub front-bound : (size r k j : ℕ) → j ≤ k → size ≤ r → size ^ suc j * r ^ (k - j) ≤ size * r ^ k
front-bound size r k j h le =
    let power : size ^ suc j ≡ size ^ j * size = pow-suc size j in
    let below : size ^ j ≤ r ^ j = pow-le-pow_left le j in
    let split : r ^ k ≡ r ^ j * r ^ (k - j) = (let e : k ≡ j + (k - j) = omega arith in ap (λ (n : ℕ). r ^ n) e ∙ pow-add r j (k - j)) in
    let product : size * (size ^ j * r ^ (k - j)) ≤ size * (r ^ j * r ^ (k - j)) = mul-le-mul_left size (mul-le-mul below (let same : r ^ (k - j) ≤ r ^ (k - j) = omega arith in same)) in
    omega (arith, ap (λ (n : ℕ). n * r ^ (k - j)) power, ap (λ (n : ℕ). size * n) split, product)

powers-empty : (depth : ℕ) (z : List ℕ → ℤ) → z [] ≡ pos 0 → (n : ℕ) → powers_sum depth z (suc n) [] ≤ 1
unfolding powers_sum
powers-empty depth z empty n =
    let f : ℕ → ℕ = λ m. depth ^ (0 - m) * unsigned_abs (plain_power z m []) in
    let later : count_below n (λ m. f (suc m)) ≡ count_below n (λ m. 0 * 0) =
    count_below-same n (λ m. f (suc m)) (λ m. 0 * 0)
    (λ m h. ap (λ (x : ℤ). depth ^ (0 - suc m) * unsigned_abs x) (power-none z empty (suc m) [] (omega arith)) ∙ omega arith) in
    omega (arith, count_below-first n f, later, count_below-mul n 0 (λ m. 0), pow-zero depth)

-- the powers together are at most r ^ k at words of k letters
pub powers-bound : (P : List ℕ → Type 0) (depth : ℕ) (size : ℕ → ℕ) (r : ℕ) (z : List ℕ → ℤ) → IsSized P depth size r z → (n : ℕ) (w : List ℕ) → P w → powers_sum depth z n w ≤ r ^ length w
unfolding powers_sum count_below
powers-bound P depth size r z ok zero w is = omega arith
powers-bound P depth size r z ok (suc n) [] is = omega (arith, powers-empty depth z ok.empty n, pow-zero r)
powers-bound P depth size r z ok (suc n) (x ∷ w) is =
    let k : ℕ = length w in
    let a : ℕ → ℕ = λ j. unsigned_abs (z (x ∷ take j w)) in
    let b : ℕ → ℕ → ℕ = λ m j. unsigned_abs (plain_power z m (drop j w)) in
    let f : ℕ → ℕ = λ m. depth ^ (suc k - m) * unsigned_abs (plain_power z m (x ∷ w)) in
    let cell : ℕ → ℕ → ℕ = λ m j. (depth ^ j * a j) * (depth ^ (length (drop j w) - m) * b m j) in
    let first : count_below (suc n) f ≡ f zero + count_below n (λ m. f (suc m)) = count_below-first n f in
    let none : f zero ≡ 0 = omega arith in
    let each : (m : ℕ) → f (suc m) ≤ count_below (suc k) (cell m) =
    λ m.
    (let e : suc k - suc m ≡ k - m = omega arith in
    let parts : unsigned_abs (plain_power z (suc m) (x ∷ w)) ≤ count_below (suc k) (λ j. a j * b m j) = power-first z ok.empty m x w in
    let scaled : depth ^ (k - m) * count_below (suc k) (λ j. a j * b m j) ≡ count_below (suc k) (λ j. depth ^ (k - m) * (a j * b m j)) = sym (count_below-mul (suc k) (depth ^ (k - m)) (λ j. a j * b m j)) in
    let spread : count_below (suc k) (λ j. depth ^ (k - m) * (a j * b m j)) ≤ count_below (suc k) (cell m) =
    count_below-le (suc k) (λ j. depth ^ (k - m) * (a j * b m j)) (cell m)
    (λ j h.
    let len : length (drop j w) ≡ k - j = length-drop j w in
    subst (λ (i : ℕ). depth ^ (k - m) * (a j * b m j) ≤ (depth ^ j * a j) * (depth ^ (i - m) * b m j)) (sym len)
    (spread-term depth k j m (a j) (b m j) (omega arith) (λ late. ap unsigned_abs (power-none z ok.empty m (drop j w) (omega arith))))) in
    omega (arith, ap (λ (i : ℕ). depth ^ i * unsigned_abs (plain_power z (suc m) (x ∷ w))) e, mul-le-mul_left (depth ^ (k - m)) parts, scaled, spread)) in
    let rows : count_below n (λ m. f (suc m)) ≤ count_below n (λ m. count_below (suc k) (cell m)) = count_below-le n (λ m. f (suc m)) (λ m. count_below (suc k) (cell m)) (λ m h. each m) in
    let turned : count_below n (λ m. count_below (suc k) (cell m)) ≡ count_below (suc k) (λ j. count_below n (λ m. cell m j)) = count-exchange n (suc k) cell in
    let columns : count_below (suc k) (λ j. count_below n (λ m. cell m j)) ≤ count_below (suc k) (λ j. r ^ k * size j) =
    count_below-le (suc k) (λ j. count_below n (λ m. cell m j)) (λ j. r ^ k * size j)
    (λ j h.
    let out : count_below n (λ m. cell m j) ≡ (depth ^ j * a j) * powers_sum depth z n (drop j w) = count_below-mul n (depth ^ j * a j) (λ m. depth ^ (length (drop j w) - m) * b m j) in
    let len : length (drop j w) ≡ k - j = length-drop j w in
    let front : depth ^ j * a j ≤ size j ^ suc j = ok.sized j (x ∷ take j w) (ok.closed.front (suc j) (x ∷ w) is) (omega (arith, length-take j w)) in
    let back : powers_sum depth z n (drop j w) ≤ r ^ (k - j) = subst (λ (i : ℕ). powers_sum depth z n (drop j w) ≤ r ^ i) len (powers-bound P depth size r z ok n (drop j w) (ok.closed.back (suc j) (x ∷ w) is)) in
    let both : (depth ^ j * a j) * powers_sum depth z n (drop j w) ≤ size j ^ suc j * r ^ (k - j) = mul-le-mul front back in
    omega (arith, out, both, front-bound (size j) r k j (omega arith) (size-le size r ok.summed j))) in
    let total : count_below (suc k) (λ j. r ^ k * size j) ≡ r ^ k * count_below (suc k) size = count_below-mul (suc k) (r ^ k) size in
    omega (arith, first, none, rows, turned, columns, total, mul-le-mul_left (r ^ k) (ok.summed (suc k)), pow-suc r k)

-- each sum of absolute values on the way to the exponential, at words of at most as many letters as the depth
pub terms-bound : (P : List ℕ → Type 0) (depth : ℕ) (size : ℕ → ℕ) (r : ℕ) (z : List ℕ → ℤ) → IsSized P depth size r z → (w : List ℕ) → P w → length w ≤ depth → (n : ℕ) → n ≤ suc (length w)
    → count_below n (λ m. unsigned_abs (pos (factorial (length w) / factorial m) *ℤ plain_power z m w)) ≤ r ^ length w
unfolding powers_sum
terms-bound P depth size r z ok w is short n h =
    let k : ℕ = length w in
    omega (
      arith,
      powers-bound P depth size r z ok n w is,
      count_below-le n (λ m. unsigned_abs (pos (factorial k / factorial m) *ℤ plain_power z m w)) (λ m. depth ^ (k - m) * unsigned_abs (plain_power z m w))
          (λ m l. omega (arith, unsigned_abs-mul (pos (factorial k / factorial m)) (plain_power z m w), mul-le-mul (quotient-bound depth k m (omega arith) short) (let same : unsigned_abs (plain_power z m w) ≤ unsigned_abs (plain_power z m w) = omega arith in same))),
    )

-- the exponential is at most r ^ k at words of k letters, for k up to the depth
pub exponential-bound : (P : List ℕ → Type 0) (depth : ℕ) (size : ℕ → ℕ) (r : ℕ) (z : List ℕ → ℤ) → IsSized P depth size r z → (w : List ℕ) → P w → length w ≤ depth → unsigned_abs (exponential z w) ≤ r ^ length w
unfolding exponential
exponential-bound P depth size r z ok w is short =
    omega (
      arith,
      abs-sum_below (suc (length w)) (λ m. pos (factorial (length w) / factorial m) *ℤ plain_power z m w),
      terms-bound P depth size r z ok w is short (suc (length w)) (omega arith),
    )
