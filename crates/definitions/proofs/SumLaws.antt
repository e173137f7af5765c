-- Laws of finite sums.
use Rattle.std.proofs.Common.{◌≡◌, ℕ, zero, suc, ◌+◌, ◌*◌, ◌-◌, ◌≤◌, ◌<◌, refl, sym, ap, ◌∙◌, arith, ℤ, pos, ◌+ℤ◌, ◌*ℤ◌, unsigned_abs, inl, inr}
use Rattle.std.proofs.Math.Nat.{eq-or-lt_of_le}
use Rattle.std.proofs.Math.IntN.{*ℤ_comm}
use Rattle.std.proofs.lemmas.Int.{ints}
use Rattle.definitions.specs.Sums.{sum_below, count_below}
use Rattle.definitions.proofs.Integers.{mul-add_ℤ, abs-add}

-- a sum of naturals, as integers
pub sum_below-pos : (n : ℕ) (g : ℕ → ℕ) → sum_below n (λ i. pos (g i)) ≡ pos (count_below n g)
unfolding sum_below count_below
sum_below-pos zero g = refl
sum_below-pos (suc n) g = ap (λ (z : ℤ). z +ℤ pos (g n)) (sum_below-pos n g)

-- the sum of sums, of naturals
pub count_below-add : (n : ℕ) (f g : ℕ → ℕ) → count_below n (λ i. f i + g i) ≡ count_below n f + count_below n g
unfolding count_below
count_below-add zero f g = refl
count_below-add (suc n) f g = omega (arith, count_below-add n f g)

-- a factor comes out of a sum of naturals
pub count_below-mul : (n c : ℕ) (f : ℕ → ℕ) → count_below n (λ i. c * f i) ≡ c * count_below n f
unfolding count_below
count_below-mul zero c f = omega arith
count_below-mul (suc n) c f = omega (arith, count_below-mul n c f)

-- sums whose terms agree are the same, of naturals
pub count_below-same : (n : ℕ) (f g : ℕ → ℕ) → ((i : ℕ) → i < n → f i ≡ g i) → count_below n f ≡ count_below n g
unfolding count_below
count_below-same zero f g same = refl
count_below-same (suc n) f g same = omega (arith, count_below-same n f g (λ i h. same i (omega arith)), same n (omega arith))

-- a sum of greater terms is no less, of naturals
pub count_below-le : (n : ℕ) (f g : ℕ → ℕ) → ((i : ℕ) → i < n → f i ≤ g i) → count_below n f ≤ count_below n g
unfolding count_below
count_below-le zero f g below = omega arith
count_below-le (suc n) f g below = omega (arith, count_below-le n f g (λ i h. below i (omega arith)), below n (omega arith))

-- the first term apart
pub count_below-first : (n : ℕ) (f : ℕ → ℕ) → count_below (suc n) f ≡ f zero + count_below n (λ i. f (suc i))
unfolding count_below
count_below-first zero f = omega arith
count_below-first (suc n) f = omega (arith, count_below-first n f)

-- a part of a sum of naturals is at most the whole
pub count_below-part : (n k : ℕ) (f : ℕ → ℕ) → k ≤ n → count_below k f ≤ count_below n f
unfolding count_below
count_below-part zero k f h = let e : k ≡ zero = omega arith in rw e (omega arith)
count_below-part (suc n) k f h =
    elim (eq-or-lt_of_le h) [
      | inl e ↦ rw e (omega arith)
      | inr l ↦ omega (arith, count_below-part n k f (omega arith))
    ]

-- a term is at most the sum of naturals that has it
pub term-le-count_below : (n i : ℕ) (f : ℕ → ℕ) → i < n → f i ≤ count_below n f
unfolding count_below
term-le-count_below n i f h = omega (arith, count_below-part n (suc i) f h)

-- the sum of sums
pub sum_below-add : (n : ℕ) (f g : ℕ → ℤ) → sum_below n (λ i. f i +ℤ g i) ≡ sum_below n f +ℤ sum_below n g
unfolding sum_below
sum_below-add zero f g = refl
sum_below-add (suc n) f g = omega (arith, ints, sum_below-add n f g)

-- a factor on the left comes out of a sum
pub sum_below-mul : (n : ℕ) (c : ℤ) (f : ℕ → ℤ) → sum_below n (λ i. c *ℤ f i) ≡ c *ℤ sum_below n f
unfolding sum_below
sum_below-mul zero c f = omega (arith, ints)
sum_below-mul (suc n) c f = omega (arith, ints, sum_below-mul n c f, mul-add_ℤ c (sum_below n f) (f n))

-- sums whose terms agree are the same
pub sum_below-same : (n : ℕ) (f g : ℕ → ℤ) → ((i : ℕ) → i < n → f i ≡ g i) → sum_below n f ≡ sum_below n g
unfolding sum_below
sum_below-same zero f g same = refl
sum_below-same (suc n) f g same = omega (arith, ints, sum_below-same n f g (λ i h. same i (omega arith)), same n (omega arith))

-- the absolute value of a sum is at most the sum of the absolute values
pub abs-sum_below : (n : ℕ) (f : ℕ → ℤ) → unsigned_abs (sum_below n f) ≤ count_below n (λ i. unsigned_abs (f i))
unfolding sum_below count_below
abs-sum_below zero f = omega arith
abs-sum_below (suc n) f = omega (arith, abs-sum_below n f, abs-add (sum_below n f) (f n))

-- a factor on the right goes into a sum
pub sum_below-mul_right : (n : ℕ) (f : ℕ → ℤ) (c : ℤ) → sum_below n f *ℤ c ≡ sum_below n (λ i. f i *ℤ c)
sum_below-mul_right n f c =
    *ℤ_comm (sum_below n f) c ∙ sym (sum_below-mul n c f) ∙ sum_below-same n (λ i. c *ℤ f i) (λ i. f i *ℤ c) (λ i h. *ℤ_comm c (f i))

-- the first term of a sum, and the others
pub sum_below-first : (n : ℕ) (f : ℕ → ℤ) → sum_below (suc n) f ≡ f zero +ℤ sum_below n (λ i. f (suc i))
unfolding sum_below
sum_below-first zero f = omega (arith, ints)
sum_below-first (suc n) f = omega (arith, ints, sum_below-first n f)

-- a sum of zeros is 0
pub sum_below-zero : (n : ℕ) (f : ℕ → ℤ) → ((i : ℕ) → i < n → f i ≡ pos 0) → sum_below n f ≡ pos 0
unfolding sum_below
sum_below-zero zero f h = refl
sum_below-zero (suc n) f h = omega (arith, ints, sum_below-zero n f (λ i l. h i (omega arith)), h n (omega arith))

-- the last term of a sum, and the others
pub sum_below-next : (n : ℕ) (f : ℕ → ℤ) → sum_below (suc n) f ≡ sum_below n f +ℤ f n
unfolding sum_below
sum_below-next n f = refl

sum_below-one : (f : ℕ → ℤ) → sum_below 1 f ≡ f 0
unfolding sum_below
sum_below-one f = omega (arith, ints)

-- a line of the triangle
abbrev pub line_of : (ℕ → ℕ → ℤ) → ℕ → ℕ → ℤ
line_of g k i = sum_below (suc (k - i)) (λ l. g i (i + l))

-- in a triangle of one row more each line has one term more
line-longer : (g : ℕ → ℕ → ℤ) (k i : ℕ) → i < suc k → line_of g (suc k) i ≡ line_of g k i +ℤ g i (suc k)
line-longer g k i h =
    let longer : suc k - i ≡ suc (k - i) = omega arith in
    let end : i + suc (k - i) ≡ suc k = omega arith in
    ap (λ (n : ℕ). sum_below (suc n) (λ l. g i (i + l))) longer ∙ sum_below-next (suc (k - i)) (λ l. g i (i + l)) ∙ ap (λ (n : ℕ). sum_below (suc (k - i)) (λ l. g i (i + l)) +ℤ g i n) end

-- the last line has one term
line-last : (g : ℕ → ℕ → ℤ) (k : ℕ) → line_of g k k ≡ g k k
line-last g k =
    let none : k - k ≡ 0 = omega arith in
    let end : k + 0 ≡ k = omega arith in
    ap (λ (n : ℕ). sum_below (suc n) (λ l. g k (k + l))) none ∙ sum_below-one (λ l. g k (k + l)) ∙ ap (g k) end

-- the first of two sums over a triangle is by columns, the second by lines
pub triangle : (k : ℕ) (g : ℕ → ℕ → ℤ) → sum_below (suc k) (λ j. sum_below (suc j) (λ i. g i j)) ≡ sum_below (suc k) (line_of g k)
triangle zero g = sum_below-one (λ j. sum_below (suc j) (λ i. g i j)) ∙ sum_below-one (λ i. g i 0) ∙ sym (line-last g 0) ∙ sym (sum_below-one (line_of g 0))
triangle (suc k) g =
    let column : ℤ = sum_below (suc k) (λ i. g i (suc k)) in
    let lines : sum_below (suc k) (line_of g (suc k)) ≡ sum_below (suc k) (line_of g k) +ℤ column =
    sum_below-same (suc k) (line_of g (suc k)) (λ i. line_of g k i +ℤ g i (suc k)) (λ i h. line-longer g k i h) ∙ sum_below-add (suc k) (line_of g k) (λ i. g i (suc k)) in
    let left : sum_below (suc (suc k)) (λ j. sum_below (suc j) (λ i. g i j)) ≡ sum_below (suc k) (λ j. sum_below (suc j) (λ i. g i j)) +ℤ sum_below (suc (suc k)) (λ i. g i (suc k)) = sum_below-next (suc k) (λ j. sum_below (suc j) (λ i. g i j)) in
    let last : sum_below (suc (suc k)) (λ i. g i (suc k)) ≡ column +ℤ g (suc k) (suc k) = sum_below-next (suc k) (λ i. g i (suc k)) in
    let right : sum_below (suc (suc k)) (line_of g (suc k)) ≡ sum_below (suc k) (line_of g (suc k)) +ℤ line_of g (suc k) (suc k) = sum_below-next (suc k) (line_of g (suc k)) in
    omega (arith, ints, triangle k g, left, last, right, lines, line-last g (suc k))
