-- The exponential of a series that vanishes on the shuffles of nonempty words obeys the shuffle relations.
use Rattle.std.proofs.Common.{◌≡◌, inl, inr, ℕ, zero, suc, ◌+◌, ◌*◌, ◌-◌, ◌/◌, ◌≤◌, ◌<◌, refl, sym, ap, ap₂, ◌∙◌, arith, ℤ, pos, ◌+ℤ◌, ◌*ℤ◌, List, [], ◌∷◌, length}
use Rattle.std.proofs.Math.IntN.{*ℤ-zero}
use Rattle.std.proofs.lemmas.Int.{ints}
use Rattle.std.proofs.lemmas.Bool.{cases_lt}
use Rattle.definitions.specs.Words.{binom, factorial}
use Rattle.definitions.specs.Sums.{sum_below}
use Rattle.definitions.specs.Products.{unit}
use Rattle.definitions.specs.Shuffles.{shuffles, sum_over}
use Rattle.definitions.proofs.Integers.{mul-add_ℤ, mul_assoc_ℤ, zero-mul_ℤ, one-mul_ℤ}
use Rattle.definitions.proofs.SumLaws.{sum_below-add, sum_below-mul, sum_below-mul_right, sum_below-same, sum_below-first, sum_below-next, sum_below-zero, line_of, triangle}
use Rattle.definitions.proofs.Binomials.{binom_above}
use Rattle.shuffle.proofs.ShuffleSums.{add-mul_ℤ, over, over-same, sum_over-same, sum_over-mul, cut-same-length}
use Rattle.shuffle.proofs.DualLaws.{cut-none}
use Rattle.definitions.specs.Exponentials.{plain_power, exponential}
use Rattle.lie_steps.proofs.Concatenations.{joined, plain_product-cut, joined-unit_left, SplitsInto, paired, joined-splits, paired-products, paired-add_left, paired-add_right, unit-splits, swapped}
use Rattle.lie_steps.proofs.Primitives.{IsPrimitive, beside, primitive-empty}
use Rattle.lie_steps.proofs.Quotients.{quotient-binom}

-- ---- powers on shuffles
-- m steps, each to the left or to the right
abbrev pub fork : ℕ → (ℕ → ℕ → ℤ) → ℤ
fork zero f = f 0 0
fork (suc m) f = fork m (λ a b. f (suc a) b +ℤ f a (suc b))

fork-same : (m : ℕ) (f g : ℕ → ℕ → ℤ) → ((a b : ℕ) → f a b ≡ g a b) → fork m f ≡ fork m g
fork-same zero f g same = same 0 0
fork-same (suc m) f g same =
    fork-same m (λ a b. f (suc a) b +ℤ f a (suc b)) (λ a b. g (suc a) b +ℤ g a (suc b)) (λ a b. ap₂ ◌+ℤ◌ (same (suc a) b) (same a (suc b)))

paired-fork : (m : ℕ) (f : List ℕ → List ℕ → ℤ) (g : ℕ → ℕ → List ℕ → List ℕ → ℤ) (u v : List ℕ) → paired f (λ q z. fork m (λ a b. g a b q z)) u v ≡ fork m (λ a b. paired f (g a b) u v)
paired-fork zero f g u v = refl
paired-fork (suc m) f g u v =
    paired-fork m f (λ a b q z. g (suc a) b q z +ℤ g a (suc b) q z) u v
    ∙ fork-same m (λ a b. paired f (λ q z. g (suc a) b q z +ℤ g a (suc b) q z) u v) (λ a b. paired f (g (suc a) b) u v +ℤ paired f (g a (suc b)) u v)
    (λ a b. paired-add_right f (g (suc a) b) (g a (suc b)) u v)

-- a power by cuts
pub power-next : (z : List ℕ → ℤ) (m : ℕ) (w : List ℕ) → plain_power z (suc m) w ≡ joined z (plain_power z m) w
power-next z m w = plain_product-cut z (plain_power z m) w

-- one factor more goes to the one word or to the other
power-step : (z : List ℕ → ℤ) (a b : ℕ) (u v : List ℕ)
    → paired (beside z) (λ p q. plain_power z a p *ℤ plain_power z b q) u v
    ≡ (plain_power z (suc a) u *ℤ plain_power z b v) +ℤ (plain_power z a u *ℤ plain_power z (suc b) v)
power-step z a b u v =
    let g : List ℕ → List ℕ → ℤ = λ p q. plain_power z a p *ℤ plain_power z b q in
    paired-add_left (λ p r. z p *ℤ unit r) (λ p r. unit p *ℤ z r) g u v
    ∙ ap₂ ◌+ℤ◌
    (paired-products z unit (plain_power z a) (plain_power z b) u v ∙ ap₂ ◌*ℤ◌ (sym (power-next z a u)) (joined-unit_left (plain_power z b) v))
    (paired-products unit z (plain_power z a) (plain_power z b) u v ∙ ap₂ ◌*ℤ◌ (joined-unit_left (plain_power z a) u) (sym (power-next z b v)))

-- on shuffles the m-th power is a sum over all ways to give each of the m factors to the one word or to the other
pub power-splits : (z : List ℕ → ℤ) → IsPrimitive z → (m : ℕ) → SplitsInto (plain_power z m) (λ u v. fork m (λ a b. plain_power z a u *ℤ plain_power z b v))
power-splits z ok zero u v = unit-splits u v
power-splits z ok (suc m) u v =
    sum_over-same (plain_power z (suc m)) (joined z (plain_power z m)) (shuffles u v) (power-next z m)
    ∙ joined-splits z (plain_power z m) (beside z) (λ p q. fork m (λ a b. plain_power z a p *ℤ plain_power z b q)) ok.splits (power-splits z ok m) u v
    ∙ paired-fork m (beside z) (λ a b p q. plain_power z a p *ℤ plain_power z b q) u v
    ∙ fork-same m (λ a b. paired (beside z) (λ p q. plain_power z a p *ℤ plain_power z b q) u v)
    (λ a b. (plain_power z (suc a) u *ℤ plain_power z b v) +ℤ (plain_power z a u *ℤ plain_power z (suc b) v)) (λ a b. power-step z a b u v)

-- ---- steps, counted
-- of m factors a go to the left word, in as many ways as they can be picked, and the others to the right one
abbrev pub chosen : ℕ → (ℕ → ℕ → ℤ) → ℕ → ℤ
chosen m f a = pos (binom m a) *ℤ f a (m - a)

chosen-next : (m : ℕ) (f : ℕ → ℕ → ℤ) (a : ℕ) → a < m → chosen (suc m) f (suc a) ≡ (pos (binom m a) *ℤ f (suc a) (m - a)) +ℤ (pos (binom m (suc a)) *ℤ f (suc a) (suc (m - suc a)))
chosen-next m f a h =
    let e : suc m - suc a ≡ m - a = omega arith in
    let e' : m - a ≡ suc (m - suc a) = omega arith in
    ap (λ (n : ℕ). pos (binom m a + binom m (suc a)) *ℤ f (suc a) n) e
    ∙ add-mul_ℤ (pos (binom m a)) (pos (binom m (suc a))) (f (suc a) (m - a))
    ∙ ap (λ (n : ℕ). (pos (binom m a) *ℤ f (suc a) (m - a)) +ℤ (pos (binom m (suc a)) *ℤ f (suc a) n)) e'

-- the sum over all ways to give m factors to two words, by how many the left one gets
pub fork-binom : (m : ℕ) (f : ℕ → ℕ → ℤ) → fork m f ≡ sum_below (suc m) (chosen m f)
unfolding sum_below
fork-binom zero f = omega (arith, ints, one-mul_ℤ (f 0 0))
fork-binom (suc m) f =
    let left : ℕ → ℤ = λ a. pos (binom m a) *ℤ f (suc a) (m - a) in
    let right : ℕ → ℤ = λ a. pos (binom m a) *ℤ f a (suc (m - a)) in
    let split : fork (suc m) f ≡ sum_below (suc m) left +ℤ sum_below (suc m) right =
    fork-binom m (λ a b. f (suc a) b +ℤ f a (suc b))
    ∙ sum_below-same (suc m) (chosen m (λ a b. f (suc a) b +ℤ f a (suc b))) (λ a. left a +ℤ right a) (λ a h. mul-add_ℤ (pos (binom m a)) (f (suc a) (m - a)) (f a (suc (m - a))))
    ∙ sum_below-add (suc m) left right in
    let whole : sum_below (suc (suc m)) (chosen (suc m) f) ≡ chosen (suc m) f zero +ℤ sum_below (suc m) (λ a. chosen (suc m) f (suc a)) = sum_below-first (suc m) (chosen (suc m) f) in
    let later : sum_below (suc m) (λ a. chosen (suc m) f (suc a)) ≡ sum_below m (λ a. chosen (suc m) f (suc a)) +ℤ chosen (suc m) f (suc m) = sum_below-next m (λ a. chosen (suc m) f (suc a)) in
    let inner : sum_below m (λ a. chosen (suc m) f (suc a)) ≡ sum_below m left +ℤ sum_below m (λ a. right (suc a)) =
    sum_below-same m (λ a. chosen (suc m) f (suc a)) (λ a. left a +ℤ right (suc a)) (λ a h. chosen-next m f a h) ∙ sum_below-add m left (λ a. right (suc a)) in
    let firsts : sum_below (suc m) right ≡ right zero +ℤ sum_below m (λ a. right (suc a)) = sum_below-first m right in
    let lasts : sum_below (suc m) left ≡ sum_below m left +ℤ left m = sum_below-next m left in
    let start : chosen (suc m) f zero ≡ right zero = (let e : suc m - 0 ≡ suc (m - 0) = omega arith in ap (λ (n : ℕ). pos 1 *ℤ f 0 n) e) in
    let end : chosen (suc m) f (suc m) ≡ left m =
    (let e : suc m - suc m ≡ m - m = omega arith in
    let none : binom m m + binom m (suc m) ≡ binom m m = omega (arith, binom_above m (suc m) (omega arith)) in
    ap₂ (λ (n k : ℕ). pos n *ℤ f (suc m) k) none e) in
    omega (arith, ints, split, whole, later, inner, firsts, lasts, start, end)

-- ---- powers of more factors than letters
none-cell : (z f : List ℕ → ℤ) (n : ℕ) → z [] ≡ pos 0 → ((q : List ℕ) → length q < n → f q ≡ pos 0) → (p q : List ℕ) → length p + length q ≤ n → z p *ℤ f q ≡ pos 0
none-cell z f n empty none [] q h = ap (λ (x : ℤ). x *ℤ f q) empty ∙ zero-mul_ℤ (f q)
none-cell z f n empty none (x ∷ p) q h = ap (λ (y : ℤ). z (x ∷ p) *ℤ y) (none q (omega arith)) ∙ *ℤ-zero (z (x ∷ p))

-- the m-th power is 0 at words of fewer than m letters, where the series is 0 at the empty word
pub power-none : (z : List ℕ → ℤ) → z [] ≡ pos 0 → (m : ℕ) (w : List ℕ) → length w < m → plain_power z m w ≡ pos 0
power-none z empty zero w h = absurd (omega arith)
power-none z empty (suc m) w h =
    power-next z m w
    ∙ cut-same-length (λ p q. z p *ℤ plain_power z m q) (λ p q. pos 0) w
    (λ p q e. none-cell z (plain_power z m) m empty (power-none z empty m) p q (omega arith))
    ∙ cut-none (λ p q. pos 0) w (λ p q. refl)

-- ---- the exponential
-- a sum whose later terms are 0
pub sum_below-short : (n k : ℕ) (f : ℕ → ℤ) → n ≤ k → ((i : ℕ) → n ≤ i → i < k → f i ≡ pos 0) → sum_below k f ≡ sum_below n f
unfolding sum_below
sum_below-short n zero f le none = (let e : zero ≡ n = omega arith in ap (λ (i : ℕ). sum_below i f) e)
sum_below-short n (suc k) f le none =
    elim (cases_lt k n) [
      | inl all ↦ (let e : suc k ≡ n = omega arith in ap (λ (i : ℕ). sum_below i f) e)
      | inr some ↦ omega (arith, ints, sum_below-short n k f some (λ i l h. none i l (omega arith)), none k some (omega arith))
    ]

-- k! over m!, which is whole for m up to k
abbrev pub quotient : ℕ → ℕ → ℤ
quotient k m = pos (factorial k / factorial m)

-- the exponential begins with 1
pub exponential-empty : (z : List ℕ → ℤ) → exponential z [] ≡ pos 1
unfolding exponential sum_below
exponential-empty z = refl

-- a sum over words of sums is the sum of the sums over words
pub sum_over-sum_below : (n : ℕ) (f : ℕ → List ℕ → ℤ) (ws : List (List ℕ)) → sum_over (λ w. sum_below n (λ m. f m w)) ws ≡ sum_below n (λ m. sum_over (f m) ws)
sum_over-sum_below n f [] = sym (sum_below-zero n (λ m. pos 0) (λ m h. refl))
sum_over-sum_below n f (w ∷ ws) =
    ap (λ (z : ℤ). sum_below n (λ m. f m w) +ℤ z) (sum_over-sum_below n f ws) ∙ sym (sum_below-add n (λ m. f m w) (λ m. sum_over (f m) ws))

-- the term of the i-th power at one word and the l-th at the other
abbrev pub pair_term : (List ℕ → ℤ) → List ℕ → List ℕ → ℕ → ℕ → ℤ
pair_term z u v i l = plain_power z i u *ℤ plain_power z l v

-- what the i-th and the (j - i)-th power add to the exponential on shuffles, over the factorial of both lengths together
abbrev pub weighted_pair : (List ℕ → ℤ) → List ℕ → List ℕ → ℕ → ℕ → ℤ
weighted_pair z u v i j = quotient (length u + length v) j *ℤ (pos (binom j i) *ℤ pair_term z u v i (j - i))

-- the exponential on shuffles, as a sum over all powers and ways
over-powers : (z : List ℕ → ℤ) → IsPrimitive z → (u v : List ℕ)
    → over (exponential z) u v ≡ sum_below (suc (length u + length v)) (λ m. sum_below (suc m) (λ i. weighted_pair z u v i m))
unfolding exponential
over-powers z ok u v =
    let k : ℕ = length u + length v in
    over-same u v (exponential z) (λ w. sum_below (suc k) (λ m. quotient k m *ℤ plain_power z m w))
    (λ w h. ap (λ (n : ℕ). sum_below (suc n) (λ m. quotient n m *ℤ plain_power z m w)) h)
    ∙ sum_over-sum_below (suc k) (λ m w. quotient k m *ℤ plain_power z m w) (shuffles u v)
    ∙ sum_below-same (suc k) (λ m. sum_over (λ w. quotient k m *ℤ plain_power z m w) (shuffles u v)) (λ m. sum_below (suc m) (λ i. weighted_pair z u v i m))
    (λ m h. sum_over-mul (quotient k m) (plain_power z m) (shuffles u v)
    ∙ ap (λ (x : ℤ). quotient k m *ℤ x) (power-splits z ok m u v ∙ fork-binom m (pair_term z u v))
    ∙ sym (sum_below-mul (suc m) (quotient k m) (chosen m (pair_term z u v))))

-- the terms of one line
line-term : (z : List ℕ → ℤ) → z [] ≡ pos 0 → (u v : List ℕ) (i : ℕ) → i ≤ length u
    → line_of (weighted_pair z u v) (length u + length v) i
    ≡ sum_below (suc (length v)) (λ l. quotient (length u + length v) (i + l) *ℤ (pos (binom (i + l) i) *ℤ pair_term z u v i l))
line-term z empty u v i h =
    let k : ℕ = length u + length v in
    sum_below-short (suc (length v)) (suc (k - i)) (λ l. weighted_pair z u v i (i + l)) (omega arith)
    (λ l late lt.
    let none : plain_power z (i + l - i) v ≡ pos 0 = power-none z empty (i + l - i) v (omega arith) in
    ap (λ (x : ℤ). quotient k (i + l) *ℤ (pos (binom (i + l) i) *ℤ (plain_power z i u *ℤ x))) none
    ∙ ap (λ (x : ℤ). quotient k (i + l) *ℤ (pos (binom (i + l) i) *ℤ x)) (*ℤ-zero (plain_power z i u))
    ∙ ap (λ (x : ℤ). quotient k (i + l) *ℤ x) (*ℤ-zero (pos (binom (i + l) i))) ∙ *ℤ-zero (quotient k (i + l)))
    ∙ sum_below-same (suc (length v)) (λ l. weighted_pair z u v i (i + l)) (λ l. quotient k (i + l) *ℤ (pos (binom (i + l) i) *ℤ pair_term z u v i l))
    (λ l lt. let e : i + l - i ≡ l = omega arith in ap (λ (n : ℕ). quotient k (i + l) *ℤ (pos (binom (i + l) i) *ℤ pair_term z u v i n)) e)

-- past the length of the first word its powers are 0
line-none : (z : List ℕ → ℤ) → z [] ≡ pos 0 → (u v : List ℕ) (i : ℕ) → length u < i → line_of (weighted_pair z u v) (length u + length v) i ≡ pos 0
line-none z empty u v i h =
    let k : ℕ = length u + length v in
    sum_below-zero (suc (k - i)) (λ l. weighted_pair z u v i (i + l))
    (λ l lt.
    let other : ℤ = plain_power z (i + l - i) v in
    ap (λ (x : ℤ). quotient k (i + l) *ℤ (pos (binom (i + l) i) *ℤ (x *ℤ other))) (power-none z empty i u h)
    ∙ ap (λ (x : ℤ). quotient k (i + l) *ℤ (pos (binom (i + l) i) *ℤ x)) (zero-mul_ℤ other)
    ∙ ap (λ (x : ℤ). quotient k (i + l) *ℤ x) (*ℤ-zero (pos (binom (i + l) i))) ∙ *ℤ-zero (quotient k (i + l)))

-- the term of an i-th power at the one word and an l-th at the other, over their own factorials
product-term : (z : List ℕ → ℤ) (u v : List ℕ) (i l : ℕ) → i ≤ length u → l ≤ length v
    → quotient (length u + length v) (i + l) *ℤ (pos (binom (i + l) i) *ℤ pair_term z u v i l)
    ≡ pos (binom (length u + length v) (length u)) *ℤ ((quotient (length u) i *ℤ plain_power z i u) *ℤ (quotient (length v) l *ℤ plain_power z l v))
product-term z u v i l hi hl =
    let a : ℕ = length u in
    let b : ℕ = length v in
    let q : ℕ = factorial (a + b) / factorial (i + l) in
    let x : ℤ = plain_power z i u in
    let y : ℤ = plain_power z l v in
    let ql : ℕ = factorial a / factorial i in
    let qr : ℕ = factorial b / factorial l in
    sym (mul_assoc_ℤ (pos q) (pos (binom (i + l) i)) (x *ℤ y))
    ∙ ap (λ (n : ℕ). pos n *ℤ (x *ℤ y)) (quotient-binom a b i l hi hl)
    ∙ mul_assoc_ℤ (pos (binom (a + b) a)) (pos (ql * qr)) (x *ℤ y)
    ∙ ap (λ (n : ℤ). pos (binom (a + b) a) *ℤ n) (swapped (pos ql) (pos qr) x y)

-- the shuffle relations: the exponential adds up to the product of its values at the two words, times a binomial
pub exponential-obeys : (z : List ℕ → ℤ) → IsPrimitive z → (u v : List ℕ)
    → over (exponential z) u v ≡ pos (binom (length u + length v) (length u)) *ℤ (exponential z u *ℤ exponential z v)
unfolding exponential
exponential-obeys z ok u v =
    let a : ℕ = length u in
    let b : ℕ = length v in
    let k : ℕ = a + b in
    let n : ℤ = pos (binom k a) in
    let f : ℕ → ℤ = λ i. quotient a i *ℤ plain_power z i u in
    let g : ℕ → ℤ = λ l. quotient b l *ℤ plain_power z l v in
    let empty : z [] ≡ pos 0 = primitive-empty z ok in
    over-powers z ok u v
    ∙ triangle k (weighted_pair z u v)
    ∙ sum_below-short (suc a) (suc k) (line_of (weighted_pair z u v) k) (omega arith) (λ i late lt. line-none z empty u v i late)
    ∙ sum_below-same (suc a) (line_of (weighted_pair z u v) k) (λ i. n *ℤ (f i *ℤ exponential z v))
    (λ i h. line-term z empty u v i (omega arith)
    ∙ sum_below-same (suc b) (λ l. quotient k (i + l) *ℤ (pos (binom (i + l) i) *ℤ pair_term z u v i l)) (λ l. n *ℤ (f i *ℤ g l)) (λ l lt. product-term z u v i l (omega arith) (omega arith))
    ∙ sum_below-mul (suc b) n (λ l. f i *ℤ g l) ∙ ap (λ (x : ℤ). n *ℤ x) (sum_below-mul (suc b) (f i) g))
    ∙ sum_below-mul (suc a) n (λ i. f i *ℤ exponential z v)
    ∙ ap (λ (x : ℤ). n *ℤ x) (sym (sum_below-mul_right (suc a) f (exponential z v)))
