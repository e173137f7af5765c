-- Series that are sums of powers of one series, and their scaled products.
use Rattle.std.proofs.Common.{◌≡◌, inl, inr, ℕ, zero, suc, ◌+◌, ◌*◌, ◌-◌, ◌/◌, ◌≤◌, ◌<◌, refl, sym, ap, ap₂, ◌∙◌, arith, ℤ, pos, ◌+ℤ◌, ◌*ℤ◌, List, [], length}
use Rattle.std.proofs.Math.IntN.{*ℤ-zero}
use Rattle.std.proofs.lemmas.Bool.{cases_lt}
use Rattle.definitions.specs.Words.{binom, factorial}
use Rattle.definitions.specs.Sums.{sum_below}
use Rattle.definitions.specs.Products.{scaled_product}
use Rattle.definitions.specs.Exponentials.{plain_power}
use Rattle.definitions.proofs.Integers.{mul_assoc_ℤ, zero-mul_ℤ}
use Rattle.definitions.proofs.SumLaws.{sum_below-mul, sum_below-mul_right, sum_below-same, line_of, triangle}
use Rattle.shuffle.proofs.ShuffleSums.{cut, cut-same, cut-same-length, cut-add, cut-mul}
use Rattle.shuffle.proofs.DualLaws.{cut-none}
use Rattle.lie_steps.proofs.Concatenations.{joined, joined-unit_left, swapped}
use Rattle.lie_steps.proofs.Exponentials.{power-next, power-none, sum_below-short, quotient, chosen}
use Rattle.lie_steps.proofs.Quotients.{quotient-binom}
use Rattle.lie_bracket.proofs.CommutatorLaws.{joined-assoc}
use Rattle.exp_log.proofs.ShuffleRelations.{weighted, scaled_product-cut}

-- ---- powers, joined
-- z ^ a and z ^ b, joined, are z ^ (a + b)
pub powers-joined : (z : List ℕ → ℤ) (a b : ℕ) (w : List ℕ) → joined (plain_power z a) (plain_power z b) w ≡ plain_power z (a + b) w
powers-joined z zero b w = joined-unit_left (plain_power z b) w ∙ (let e : b ≡ zero + b = omega arith in ap (λ (n : ℕ). plain_power z n w) e)
powers-joined z (suc a) b w =
    let e : suc (a + b) ≡ suc a + b = omega arith in
    cut-same (λ p q. plain_power z (suc a) p *ℤ plain_power z b q) (λ p q. joined z (plain_power z a) p *ℤ plain_power z b q) w
    (λ p q. ap (λ (x : ℤ). x *ℤ plain_power z b q) (power-next z a p))
    ∙ joined-assoc z (plain_power z a) (plain_power z b) w
    ∙ cut-same (λ p q. z p *ℤ joined (plain_power z a) (plain_power z b) q) (λ p q. z p *ℤ plain_power z (a + b) q) w (λ p q. ap (λ (x : ℤ). z p *ℤ x) (powers-joined z a b q))
    ∙ sym (power-next z (a + b) w)
    ∙ ap (λ (n : ℕ). plain_power z n w) e

-- ---- sums of powers
-- the numerator over k! of the sum of c j / j! times the j-th power
abbrev pub power_term : (List ℕ → ℤ) → (ℕ → ℤ) → List ℕ → ℕ → ℕ → ℤ
power_term z c w k j = quotient k j *ℤ (c j *ℤ plain_power z j w)

-- the sum of the powers up to the length of the word, each with its number
abbrev pub power_sum : (List ℕ → ℤ) → (ℕ → ℤ) → List ℕ → ℤ
power_sum z c w = sum_below (suc (length w)) (power_term z c w (length w))

-- the numbers of a product
abbrev pub blended : (ℕ → ℤ) → (ℕ → ℤ) → ℕ → ℤ
blended c d j = sum_below (suc j) (chosen j (λ a b. c a *ℤ d b))

-- powers of more factors than letters count for nothing
power_term-none : (z : List ℕ → ℤ) → z [] ≡ pos 0 → (c : ℕ → ℤ) (w : List ℕ) (k j : ℕ) → length w < j → power_term z c w k j ≡ pos 0
power_term-none z empty c w k j h =
    ap (λ (x : ℤ). quotient k j *ℤ (c j *ℤ x)) (power-none z empty j w h) ∙ ap (λ (x : ℤ). quotient k j *ℤ x) (*ℤ-zero (c j)) ∙ *ℤ-zero (quotient k j)

-- powers past the length of the word add nothing
pub power_sum-longer : (z : List ℕ → ℤ) → z [] ≡ pos 0 → (c : ℕ → ℤ) (w : List ℕ) (n : ℕ) → length w < n → sum_below n (power_term z c w (length w)) ≡ power_sum z c w
power_sum-longer z empty c w n h =
    sum_below-short (suc (length w)) n (power_term z c w (length w)) (omega arith) (λ i l lt. power_term-none z empty c w (length w) i (omega arith))

-- the sum depends on the numbers up to the length of the word alone
pub power_sum-same : (z : List ℕ → ℤ) (c d : ℕ → ℤ) (w : List ℕ) → ((j : ℕ) → j ≤ length w → c j ≡ d j) → power_sum z c w ≡ power_sum z d w
power_sum-same z c d w same =
    sum_below-same (suc (length w)) (power_term z c w (length w)) (power_term z d w (length w))
    (λ j h. ap (λ (x : ℤ). quotient (length w) j *ℤ (x *ℤ plain_power z j w)) (same j (omega arith)))

cut-sum_below : (n : ℕ) (f : ℕ → List ℕ → List ℕ → ℤ) (w : List ℕ) → cut (λ p q. sum_below n (λ a. f a p q)) w ≡ sum_below n (λ a. cut (f a) w)
unfolding sum_below
cut-sum_below zero f w = cut-none (λ p q. pos 0) w (λ p q. refl)
cut-sum_below (suc n) f w = cut-add (λ p q. sum_below n (λ a. f a p q)) (f n) w ∙ ap (λ (x : ℤ). x +ℤ cut (f n) w) (cut-sum_below n f w)

-- the product of two sums
sums-product : (n : ℕ) (f g : ℕ → ℤ) → sum_below n f *ℤ sum_below n g ≡ sum_below n (λ a. sum_below n (λ b. f a *ℤ g b))
sums-product n f g =
    sum_below-mul_right n f (sum_below n g)
    ∙ sum_below-same n (λ a. f a *ℤ sum_below n g) (λ a. sum_below n (λ b. f a *ℤ g b)) (λ a h. sym (sum_below-mul n (f a) g))

-- the number of z ^ a times z ^ b
abbrev pub pair_number : (ℕ → ℤ) → (ℕ → ℤ) → ℕ → ℕ → ℕ → ℤ
pair_number c d k a b = quotient k (a + b) *ℤ (pos (binom (a + b) a) *ℤ (c a *ℤ d b))

regroup : (m q r : ℕ) (c d x y : ℤ) → pos m *ℤ ((pos q *ℤ (c *ℤ x)) *ℤ (pos r *ℤ (d *ℤ y))) ≡ (pos (m * (q * r)) *ℤ (c *ℤ d)) *ℤ (x *ℤ y)
regroup m q r c d x y =
    ap (λ (u : ℤ). pos m *ℤ u) (swapped (pos q) (c *ℤ x) (pos r) (d *ℤ y) ∙ ap (λ (u : ℤ). pos (q * r) *ℤ u) (swapped c x d y))
    ∙ sym (mul_assoc_ℤ (pos m) (pos (q * r)) ((c *ℤ d) *ℤ (x *ℤ y)))
    ∙ sym (mul_assoc_ℤ (pos (m * (q * r))) (c *ℤ d) (x *ℤ y))

-- one pair of powers at one cut
pair-cell : (z : List ℕ → ℤ) → z [] ≡ pos 0 → (c d : ℕ → ℤ) (k : ℕ) (p q : List ℕ) → length p + length q ≡ k → (a b : ℕ)
    → pos (binom (length p + length q) (length p)) *ℤ (power_term z c p (length p) a *ℤ power_term z d q (length q) b)
    ≡ pair_number c d k a b *ℤ (plain_power z a p *ℤ plain_power z b q)
pair-cell z empty c d k p q e a b =
    let i : ℕ = length p in
    let l : ℕ = length q in
    let x : ℤ = plain_power z a p in
    let y : ℤ = plain_power z b q in
    let n : ℤ = pos (binom (i + l) i) in
    elim (cases_lt i a) [
      | inl many ↦
          ap (λ (u : ℤ). n *ℤ (u *ℤ power_term z d q l b)) (power_term-none z empty c p i a many)
          ∙ ap (λ (u : ℤ). n *ℤ u) (zero-mul_ℤ (power_term z d q l b)) ∙ *ℤ-zero n
          ∙ sym (ap (λ (u : ℤ). pair_number c d k a b *ℤ (u *ℤ y)) (power-none z empty a p many) ∙ ap (λ (u : ℤ). pair_number c d k a b *ℤ u) (zero-mul_ℤ y) ∙ *ℤ-zero (pair_number c d k a b))
      | inr few ↦ elim (cases_lt l b) [
        | inl many ↦
            ap (λ (u : ℤ). n *ℤ (power_term z c p i a *ℤ u)) (power_term-none z empty d q l b many)
            ∙ ap (λ (u : ℤ). n *ℤ u) (*ℤ-zero (power_term z c p i a)) ∙ *ℤ-zero n
            ∙ sym (ap (λ (u : ℤ). pair_number c d k a b *ℤ (x *ℤ u)) (power-none z empty b q many) ∙ ap (λ (u : ℤ). pair_number c d k a b *ℤ u) (*ℤ-zero x) ∙ *ℤ-zero (pair_number c d k a b))
        | inr few' ↦
            regroup (binom (i + l) i) (factorial i / factorial a) (factorial l / factorial b) (c a) (d b) x y
            ∙ ap (λ (m : ℕ). (pos m *ℤ (c a *ℤ d b)) *ℤ (x *ℤ y)) (sym (quotient-binom i l a b few few'))
            ∙ ap (λ (u : ℤ). u *ℤ (x *ℤ y)) (mul_assoc_ℤ (pos (factorial (i + l) / factorial (a + b))) (pos (binom (a + b) a)) (c a *ℤ d b))
            ∙ ap (λ (m : ℕ). pair_number c d m a b *ℤ (x *ℤ y)) e
      ]
    ]

-- one cut
cut-cell : (z : List ℕ → ℤ) → z [] ≡ pos 0 → (c d : ℕ → ℤ) (k : ℕ) (p q : List ℕ) → length p + length q ≡ k
    → weighted (power_sum z c) (power_sum z d) p q
    ≡ sum_below (suc k) (λ a. sum_below (suc k) (λ b. pair_number c d k a b *ℤ (plain_power z a p *ℤ plain_power z b q)))
cut-cell z empty c d k p q e =
    let i : ℕ = length p in
    let l : ℕ = length q in
    let n : ℤ = pos (binom (i + l) i) in
    let f : ℕ → ℤ = power_term z c p i in
    let g : ℕ → ℤ = power_term z d q l in
    ap (λ (u : ℤ). n *ℤ u)
    (ap₂ ◌*ℤ◌ (sym (power_sum-longer z empty c p (suc k) (omega arith))) (sym (power_sum-longer z empty d q (suc k) (omega arith)))
    ∙ sums-product (suc k) f g)
    ∙ sym (sum_below-mul (suc k) n (λ a. sum_below (suc k) (λ b. f a *ℤ g b)))
    ∙ sum_below-same (suc k) (λ a. n *ℤ sum_below (suc k) (λ b. f a *ℤ g b)) (λ a. sum_below (suc k) (λ b. pair_number c d k a b *ℤ (plain_power z a p *ℤ plain_power z b q)))
    (λ a h. sym (sum_below-mul (suc k) n (λ b. f a *ℤ g b))
    ∙ sum_below-same (suc k) (λ b. n *ℤ (f a *ℤ g b)) (λ b. pair_number c d k a b *ℤ (plain_power z a p *ℤ plain_power z b q)) (λ b l'. pair-cell z empty c d k p q e a b))

-- all cuts
cuts-sum : (z : List ℕ → ℤ) → z [] ≡ pos 0 → (c d : ℕ → ℤ) (w : List ℕ)
    → scaled_product (power_sum z c) (power_sum z d) w
    ≡ sum_below (suc (length w)) (λ a. sum_below (suc (length w)) (λ b. pair_number c d (length w) a b *ℤ plain_power z (a + b) w))
cuts-sum z empty c d w =
    let k : ℕ = length w in
    let f : ℕ → ℕ → List ℕ → List ℕ → ℤ = λ a b p q. pair_number c d k a b *ℤ (plain_power z a p *ℤ plain_power z b q) in
    scaled_product-cut (power_sum z c) (power_sum z d) w
    ∙ cut-same-length (weighted (power_sum z c) (power_sum z d)) (λ p q. sum_below (suc k) (λ a. sum_below (suc k) (λ b. f a b p q))) w
    (λ p q e. cut-cell z empty c d k p q e)
    ∙ cut-sum_below (suc k) (λ a p q. sum_below (suc k) (λ b. f a b p q)) w
    ∙ sum_below-same (suc k) (λ a. cut (λ p q. sum_below (suc k) (λ b. f a b p q)) w) (λ a. sum_below (suc k) (λ b. pair_number c d k a b *ℤ plain_power z (a + b) w))
    (λ a h. cut-sum_below (suc k) (f a) w
    ∙ sum_below-same (suc k) (λ b. cut (f a b) w) (λ b. pair_number c d k a b *ℤ plain_power z (a + b) w)
    (λ b l. cut-mul (pair_number c d k a b) (λ p q. plain_power z a p *ℤ plain_power z b q) w ∙ ap (λ (x : ℤ). pair_number c d k a b *ℤ x) (powers-joined z a b w)))

-- the same, by the number of factors
abbrev pub by_factors : (List ℕ → ℤ) → (ℕ → ℤ) → (ℕ → ℤ) → List ℕ → ℕ → ℕ → ℤ
by_factors z c d w i j = quotient (length w) j *ℤ (chosen j (λ a b. c a *ℤ d b) i *ℤ plain_power z j w)

line-cell : (z : List ℕ → ℤ) (c d : ℕ → ℤ) (w : List ℕ) (a b : ℕ) → pair_number c d (length w) a b *ℤ plain_power z (a + b) w ≡ by_factors z c d w a (a + b)
line-cell z c d w a b =
    let e : b ≡ a + b - a = omega arith in
    mul_assoc_ℤ (quotient (length w) (a + b)) (pos (binom (a + b) a) *ℤ (c a *ℤ d b)) (plain_power z (a + b) w)
    ∙ ap (λ (n : ℕ). quotient (length w) (a + b) *ℤ ((pos (binom (a + b) a) *ℤ (c a *ℤ d n)) *ℤ plain_power z (a + b) w)) e

line-sum : (z : List ℕ → ℤ) → z [] ≡ pos 0 → (c d : ℕ → ℤ) (w : List ℕ) (a : ℕ) → a ≤ length w
    → sum_below (suc (length w)) (λ b. pair_number c d (length w) a b *ℤ plain_power z (a + b) w) ≡ line_of (by_factors z c d w) (length w) a
line-sum z empty c d w a h =
    let k : ℕ = length w in
    let f : ℕ → ℤ = λ b. pair_number c d k a b *ℤ plain_power z (a + b) w in
    sum_below-short (suc (k - a)) (suc k) f (omega arith)
    (λ b late l. ap (λ (x : ℤ). pair_number c d k a b *ℤ x) (power-none z empty (a + b) w (omega arith)) ∙ *ℤ-zero (pair_number c d k a b))
    ∙ sum_below-same (suc (k - a)) f (λ b. by_factors z c d w a (a + b)) (λ b l. line-cell z c d w a b)

factor-sum : (z : List ℕ → ℤ) (c d : ℕ → ℤ) (w : List ℕ) (j : ℕ) → sum_below (suc j) (λ i. by_factors z c d w i j) ≡ power_term z (blended c d) w (length w) j
factor-sum z c d w j =
    let q : ℤ = quotient (length w) j in
    let f : ℕ → ℤ = chosen j (λ a b. c a *ℤ d b) in
    sum_below-mul (suc j) q (λ i. f i *ℤ plain_power z j w) ∙ ap (λ (x : ℤ). q *ℤ x) (sym (sum_below-mul_right (suc j) f (plain_power z j w)))

-- the product of two sums of powers is one
pub power_sum-product : (z : List ℕ → ℤ) → z [] ≡ pos 0 → (c d : ℕ → ℤ) (w : List ℕ) → scaled_product (power_sum z c) (power_sum z d) w ≡ power_sum z (blended c d) w
power_sum-product z empty c d w =
    let k : ℕ = length w in
    cuts-sum z empty c d w
    ∙ sum_below-same (suc k) (λ a. sum_below (suc k) (λ b. pair_number c d k a b *ℤ plain_power z (a + b) w)) (line_of (by_factors z c d w) k) (λ a h. line-sum z empty c d w a (omega arith))
    ∙ sym (triangle k (by_factors z c d w))
    ∙ sum_below-same (suc k) (λ j. sum_below (suc j) (λ i. by_factors z c d w i j)) (power_term z (blended c d) w k) (λ j h. factor-sum z c d w j)
