-- The scaled product is associative, and the unit is one on both sides.
use Rattle.std.proofs.Common.{◌≡◌, ℕ, suc, ◌+◌, ◌*◌, ◌-◌, ◌≤◌, ◌<◌, refl, sym, ap, ap₂, ◌∙◌, arith, ℤ, pos, ◌+ℤ◌, ◌*ℤ◌, List, [], ◌∷◌, length, take, drop, length-take, length-drop, take-take, drop-drop, take_all}
use Rattle.std.proofs.Math.IntN.{*ℤ_comm, *ℤ-zero}
use Rattle.std.proofs.lemmas.Int.{ints}
use Rattle.std.proofs.lemmas.List.{drop_all, drop-take}
use Rattle.definitions.specs.Words.{binom}
use Rattle.definitions.specs.Sums.{sum_below}
use Rattle.definitions.specs.Products.{unit, product_term, scaled_product}
use Rattle.definitions.proofs.Integers.{mul_assoc_ℤ, zero-mul_ℤ}
use Rattle.definitions.proofs.Binomials.{binom-all, trinomial}
use Rattle.definitions.proofs.SumLaws.{sum_below-mul, sum_below-mul_right, sum_below-same, sum_below-first, sum_below-zero, sum_below-next, line_of, triangle}

-- both binomials come to the front, where the first two factors are together
regroup-left : (m n : ℕ) (p q r : ℤ) → pos m *ℤ ((pos n *ℤ (p *ℤ q)) *ℤ r) ≡ pos (m * n) *ℤ (p *ℤ (q *ℤ r))
regroup-left m n p q r =
    ap (λ (z : ℤ). pos m *ℤ z) (mul_assoc_ℤ (pos n) (p *ℤ q) r ∙ ap (λ (z : ℤ). pos n *ℤ z) (mul_assoc_ℤ p q r))
    ∙ sym (mul_assoc_ℤ (pos m) (pos n) (p *ℤ (q *ℤ r)))

-- the same where the inner product is a sum of its own
regroup-right : (m n : ℕ) (p s : ℤ) → pos m *ℤ (p *ℤ (pos n *ℤ s)) ≡ pos (m * n) *ℤ (p *ℤ s)
regroup-right m n p s =
    ap (λ (z : ℤ). pos m *ℤ z) (sym (mul_assoc_ℤ p (pos n) s) ∙ ap (λ (z : ℤ). z *ℤ s) (*ℤ_comm p (pos n)) ∙ mul_assoc_ℤ (pos n) p s)
    ∙ sym (mul_assoc_ℤ (pos m) (pos n) (p *ℤ s))

-- the word cut after i and after j letters
abbrev pub twice : (a b c : List ℕ → ℤ) → List ℕ → ℕ → ℕ → ℤ
twice a b c word i j =
    pos (binom (length word) j * binom j i) *ℤ (a (take i word) *ℤ (b (take (j - i) (drop i word)) *ℤ c (drop j word)))

-- the letters between two cuts
cut_between : (i j : ℕ) (word : List ℕ) → i ≤ j → drop i (take j word) ≡ take (j - i) (drop i word)
cut_between i j word h =
    let e : j ≡ i + (j - i) = omega arith in
    ap (λ (n : ℕ). drop i (take n word)) e ∙ drop-take i (j - i) word

-- a cut after i letters and one after l more, by both places
right-cell : (a b c : List ℕ → ℤ) (word : List ℕ) (i l : ℕ) → i + l ≤ length word
    → pos (binom (length word) i) *ℤ (a (take i word) *ℤ (pos (binom (length word - i) l) *ℤ (b (take l (drop i word)) *ℤ c (drop l (drop i word))))) ≡ twice a b c word i (i + l)
right-cell a b c word i l h =
    let m : ℕ = length word - (i + l) in
    let k : length word ≡ i + l + m = omega arith in
    let rest : length word - i ≡ l + m = omega arith in
    let number : binom (length word) i * binom (length word - i) l ≡ binom (length word) (i + l) * binom (i + l) i =
    ap₂ (λ (x y : ℕ). binom x i * binom y l) k rest ∙ sym (trinomial i l m) ∙ ap (λ (x : ℕ). binom x (i + l) * binom (i + l) i) (sym k) in
    let between : i + l - i ≡ l = omega arith in
    regroup-right (binom (length word) i) (binom (length word - i) l) (a (take i word)) (b (take l (drop i word)) *ℤ c (drop l (drop i word)))
    ∙ ap (λ (n : ℕ). pos n *ℤ (a (take i word) *ℤ (b (take l (drop i word)) *ℤ c (drop l (drop i word))))) number
    ∙ ap₂ (λ (n : ℕ) (z : ℤ). pos (binom (length word) (i + l) * binom (i + l) i) *ℤ (a (take i word) *ℤ (b (take n (drop i word)) *ℤ z)))
    (sym between) (ap c (drop-drop l i word))

-- the product of three from the left: for each second cut all first ones before it
left-term : (a b c : List ℕ → ℤ) (word : List ℕ) (j : ℕ) → j < suc (length word) → product_term (scaled_product a b) c word j ≡ sum_below (suc j) (λ i. twice a b c word i j)
unfolding product_term scaled_product
left-term a b c word j h =
    let k : ℕ = length word in
    let len : length (take j word) ≡ j = omega (arith, length-take j word) in
    let f : ℕ → ℤ = λ i. pos (binom j i) *ℤ (a (take i (take j word)) *ℤ b (drop i (take j word))) in
    let inner : sum_below (suc (length (take j word))) (λ i. pos (binom (length (take j word)) i) *ℤ (a (take i (take j word)) *ℤ b (drop i (take j word)))) ≡ sum_below (suc j) f =
    ap (λ (n : ℕ). sum_below (suc n) (λ i. pos (binom n i) *ℤ (a (take i (take j word)) *ℤ b (drop i (take j word))))) len in
    ap (λ (z : ℤ). pos (binom k j) *ℤ (z *ℤ c (drop j word))) inner
    ∙ ap (λ (z : ℤ). pos (binom k j) *ℤ z) (sum_below-mul_right (suc j) f (c (drop j word)))
    ∙ sym (sum_below-mul (suc j) (pos (binom k j)) (λ i. f i *ℤ c (drop j word)))
    ∙ sum_below-same (suc j) (λ i. pos (binom k j) *ℤ (f i *ℤ c (drop j word))) (λ i. twice a b c word i j)
    (λ i l. regroup-left (binom k j) (binom j i) (a (take i (take j word))) (b (drop i (take j word))) (c (drop j word))
    ∙ ap₂ (λ (x y : ℤ). pos (binom k j * binom j i) *ℤ (x *ℤ (y *ℤ c (drop j word))))
    (ap a (take-take i j word (omega arith)))
    (ap b (cut_between i j word (omega arith))))

-- the product of three from the right: for each first cut all second ones after it
right-term : (a b c : List ℕ → ℤ) (word : List ℕ) (i : ℕ) → i < suc (length word) → product_term a (scaled_product b c) word i ≡ line_of (twice a b c word) (length word) i
unfolding product_term scaled_product
right-term a b c word i h =
    let k : ℕ = length word in
    let len : length (drop i word) ≡ k - i = length-drop i word in
    let f : ℕ → ℤ = λ l. pos (binom (k - i) l) *ℤ (b (take l (drop i word)) *ℤ c (drop l (drop i word))) in
    let inner : sum_below (suc (length (drop i word))) (λ l. pos (binom (length (drop i word)) l) *ℤ (b (take l (drop i word)) *ℤ c (drop l (drop i word)))) ≡ sum_below (suc (k - i)) f =
    ap (λ (n : ℕ). sum_below (suc n) (λ l. pos (binom n l) *ℤ (b (take l (drop i word)) *ℤ c (drop l (drop i word))))) len in
    ap (λ (z : ℤ). pos (binom k i) *ℤ (a (take i word) *ℤ z)) inner
    ∙ ap (λ (z : ℤ). pos (binom k i) *ℤ z) (sym (sum_below-mul (suc (k - i)) (a (take i word)) f))
    ∙ sym (sum_below-mul (suc (k - i)) (pos (binom k i)) (λ l. a (take i word) *ℤ f l))
    ∙ sum_below-same (suc (k - i)) (λ l. pos (binom k i) *ℤ (a (take i word) *ℤ f l)) (λ l. twice a b c word i (i + l))
    (λ l below. right-cell a b c word i l (omega arith))

-- the scaled product of series is associative
pub scaled_product-assoc : (a b c : List ℕ → ℤ) (word : List ℕ) → scaled_product (scaled_product a b) c word ≡ scaled_product a (scaled_product b c) word
unfolding scaled_product
scaled_product-assoc a b c word =
    let k : ℕ = length word in
    sum_below-same (suc k) (product_term (scaled_product a b) c word) (λ j. sum_below (suc j) (λ i. twice a b c word i j)) (λ j h. left-term a b c word j h)
    ∙ triangle k (twice a b c word)
    ∙ sum_below-same (suc k) (line_of (twice a b c word) k) (product_term a (scaled_product b c) word) (λ i h. sym (right-term a b c word i h))

unit-longer : (word : List ℕ) → 1 ≤ length word → unit word ≡ pos 0
unit-longer [] h = absurd (omega arith)
unit-longer (a ∷ word) h = refl

zero-inside : (n : ℕ) (z : ℤ) → pos n *ℤ (pos 0 *ℤ z) ≡ pos 0
zero-inside n z = ap (λ (y : ℤ). pos n *ℤ y) (zero-mul_ℤ z) ∙ *ℤ-zero (pos n)

zero-inside_right : (n : ℕ) (z : ℤ) → pos n *ℤ (z *ℤ pos 0) ≡ pos 0
zero-inside_right n z = ap (λ (y : ℤ). pos n *ℤ y) (*ℤ-zero z) ∙ *ℤ-zero (pos n)

-- the unit is neutral on the left
pub scaled_product-unit_left : (b : List ℕ → ℤ) (word : List ℕ) → scaled_product unit b word ≡ b word
unfolding scaled_product product_term
scaled_product-unit_left b word =
    let k : ℕ = length word in
    sum_below-first k (λ i. pos (binom k i) *ℤ (unit (take i word) *ℤ b (drop i word)))
    ∙ ap (λ (z : ℤ). (pos 1 *ℤ (pos 1 *ℤ b word)) +ℤ z)
    (sum_below-zero k (λ i. pos (binom k (suc i)) *ℤ (unit (take (suc i) word) *ℤ b (drop (suc i) word)))
    (λ i h. ap (λ (z : ℤ). pos (binom k (suc i)) *ℤ (z *ℤ b (drop (suc i) word))) (unit-longer (take (suc i) word) (omega (arith, length-take (suc i) word)))
    ∙ zero-inside (binom k (suc i)) (b (drop (suc i) word))))
    ∙ omega (arith, ints)

-- the unit is neutral on the right
pub scaled_product-unit_right : (a : List ℕ → ℤ) (word : List ℕ) → scaled_product a unit word ≡ a word
unfolding scaled_product product_term
scaled_product-unit_right a word =
    let k : ℕ = length word in
    let f : ℕ → ℤ = λ i. pos (binom k i) *ℤ (a (take i word) *ℤ unit (drop i word)) in
    let none : sum_below k f ≡ pos 0 = sum_below-zero k f
    (λ i h. ap (λ (z : ℤ). pos (binom k i) *ℤ (a (take i word) *ℤ z)) (unit-longer (drop i word) (omega (arith, length-drop i word))) ∙ zero-inside_right (binom k i) (a (take i word))) in
    let one : f k ≡ pos 1 *ℤ (a word *ℤ pos 1) =
    ap₂ (λ (n : ℕ) (z : ℤ). pos n *ℤ z) (binom-all k) (ap₂ (λ (u v : List ℕ). a u *ℤ unit v) (take_all k word (omega arith)) (drop_all k word (omega arith))) in
    sum_below-next k f ∙ omega (arith, ints, none, one)

-- only prefixes of the word are read in the first factor, and only suffixes in the second
pub scaled_product-same : (a a' b b' : List ℕ → ℤ) (word : List ℕ)
    → ((i : ℕ) → i ≤ length word → a (take i word) ≡ a' (take i word)) → ((i : ℕ) → i ≤ length word → b (drop i word) ≡ b' (drop i word))
    → scaled_product a b word ≡ scaled_product a' b' word
unfolding scaled_product product_term
scaled_product-same a a' b b' word left right =
    sum_below-same (suc (length word)) (product_term a b word) (product_term a' b' word)
    (λ i h. ap₂ (λ (x y : ℤ). pos (binom (length word) i) *ℤ (x *ℤ y)) (left i (omega arith)) (right i (omega arith)))
