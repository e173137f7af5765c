-- The signature obeys the shuffle relations.
use Rattle.std.proofs.Common.{◌≡◌, ℕ, zero, suc, ◌+◌, ◌*◌, ◌≤◌, refl, sym, ap, ap₂, ◌∙◌, arith, ℤ, pos, ◌*ℤ◌, List, [], ◌∷◌, length, take, drop, length-take, length-drop}
use Rattle.std.specs.Prelude.{fold}
use Rattle.std.proofs.Math.IntN.{*ℤ_comm, *ℤ-zero}
use Rattle.definitions.specs.Words.{binom}
use Rattle.definitions.specs.Moves.{Parts, step}
use Rattle.definitions.specs.Signature.{signature}
use Rattle.definitions.specs.Products.{unit, product_term, scaled_product}
use Rattle.definitions.specs.Shuffles.{shuffles, sum_over}
use Rattle.definitions.proofs.Integers.{mul_assoc_ℤ, zero-mul_ℤ, one-mul_ℤ}
use Rattle.definitions.proofs.SumLaws.{sum_below-same}
use Rattle.definitions.proofs.Binomials.{binom-all, trinomial}
use Rattle.lie_steps.proofs.StepLaws.{step-obeys}
use Rattle.shuffle.proofs.ShuffleSums.{over, over-none_left, over-same, sum_over-same, sum_over-mul, cut, cut-same, cut-same-length, cut-mul, cut-sum, cuts, pair_over}
use Rattle.lie_steps.proofs.Concatenations.{swapped, sum_over-mul_right}

-- the terms of the scaled product
abbrev pub weighted : (s t : List ℕ → ℤ) → List ℕ → List ℕ → ℤ
weighted s t p q = pos (binom (length p + length q) (length p)) *ℤ (s p *ℤ t q)

-- the scaled product at a word is the sum of these terms over its cuts
pub scaled_product-cut : (s t : List ℕ → ℤ) (w : List ℕ) → scaled_product s t w ≡ cut (weighted s t) w
unfolding scaled_product product_term
scaled_product-cut s t w =
    sum_below-same (suc (length w)) (product_term s t w) (λ i. weighted s t (take i w) (drop i w))
    (λ i h.
    let front : length (take i w) ≡ i = omega (arith, length-take i w) in
    let whole : length (take i w) + length (drop i w) ≡ length w = omega (arith, length-take i w, length-drop i w) in
    sym (ap₂ (λ (n k : ℕ). pos (binom n k) *ℤ (s (take i w) *ℤ t (drop i w))) whole front))
    ∙ cut-sum (weighted s t) w

-- ---- the shuffle relation
-- over the shuffles of u and v the series adds up to the binomial of their lengths times its values at u and at v
abbrev pub ObeysShuffles : (List ℕ → ℤ) → Type 0
ObeysShuffles s = (u v : List ℕ) → over s u v ≡ pos (binom (length u + length v) (length u)) *ℤ (s u *ℤ s v)

binom-symmetric : (a b : ℕ) → binom (a + b) a ≡ binom (b + a) b
binom-symmetric zero b = (let e : b + 0 ≡ b = omega arith in sym (ap (λ (n : ℕ). binom n b) e ∙ binom-all b))
binom-symmetric (suc a) zero = (let e : suc a + 0 ≡ suc a = omega arith in ap (λ (n : ℕ). binom n (suc a)) e ∙ binom-all (suc a))
binom-symmetric (suc a) (suc b) =
    let left : binom (suc a + suc b) (suc a) ≡ binom (a + suc b) a + binom (suc a + b) (suc a) =
    (let e : suc a + suc b ≡ suc (a + suc b) = omega arith in ap (λ (n : ℕ). binom n (suc a)) e)
    ∙ (let e : a + suc b ≡ suc a + b = omega arith in ap (λ (n : ℕ). binom (a + suc b) a + binom n (suc a)) e) in
    let right : binom (suc b + suc a) (suc b) ≡ binom (b + suc a) b + binom (suc b + a) (suc b) =
    (let e : suc b + suc a ≡ suc (b + suc a) = omega arith in ap (λ (n : ℕ). binom n (suc b)) e)
    ∙ (let e : b + suc a ≡ suc b + a = omega arith in ap (λ (n : ℕ). binom (b + suc a) b + binom n (suc b)) e) in
    omega (arith, left, right, binom-symmetric a (suc b), binom-symmetric (suc a) b)

-- a, b and the rest c + d of four parts
by_first : (a b c d : ℕ) → binom (a + b + (c + d)) (a + b) * (binom (a + b) a * binom (c + d) c) ≡ binom (a + b + (c + d)) a * (binom (b + c + d) (b + c) * binom (b + c) b)
by_first a b c d =
    let whole : b + c + d ≡ b + (c + d) = omega arith in
    let outer : binom (a + b + (c + d)) (a + b) * binom (a + b) a ≡ binom (a + b + (c + d)) a * binom (b + (c + d)) b = trinomial a b (c + d) in
    let inner : binom (b + c + d) (b + c) * binom (b + c) b ≡ binom (b + (c + d)) b * binom (c + d) c = trinomial b c d ∙ ap (λ (n : ℕ). binom n b * binom (c + d) c) whole in
    omega (arith, ap (λ (n : ℕ). n * binom (c + d) c) outer, ap (λ (n : ℕ). binom (a + b + (c + d)) a * n) inner)

-- four parts, taken in two orders
pub four : (a b c d : ℕ) → binom (a + b + (c + d)) (a + b) * (binom (a + b) a * binom (c + d) c) ≡ binom (a + c + (b + d)) (a + c) * (binom (a + c) a * binom (b + d) b)
four a b c d =
    let whole : a + c + (b + d) ≡ a + b + (c + d) = omega arith in
    let exchanged : c + b ≡ b + c = omega arith in
    by_first a b c d
    ∙ ap (λ (n : ℕ). binom (a + b + (c + d)) a * (binom (b + c + d) (b + c) * n)) (binom-symmetric b c)
    ∙ sym (by_first a c b d ∙ ap₂ (λ (n m : ℕ). binom n a * (binom (m + d) m * binom (c + b) c)) whole exchanged)

-- the factors m, n and k of a product, taken together in front of x and y
pub products : (m n k : ℕ) (x y : ℤ) → pos m *ℤ ((pos n *ℤ x) *ℤ (pos k *ℤ y)) ≡ pos (m * (n * k)) *ℤ (x *ℤ y)
products m n k x y =
    ap (λ (z : ℤ). pos m *ℤ z)
    (mul_assoc_ℤ (pos n) x (pos k *ℤ y)
    ∙ ap (λ (z : ℤ). pos n *ℤ z) (sym (mul_assoc_ℤ x (pos k) y) ∙ ap (λ (z : ℤ). z *ℤ y) (*ℤ_comm x (pos k)) ∙ mul_assoc_ℤ (pos k) x y)
    ∙ sym (mul_assoc_ℤ (pos n) (pos k) (x *ℤ y)))
    ∙ sym (mul_assoc_ℤ (pos m) (pos (n * k)) (x *ℤ y))

inner-cell : (s t : List ℕ → ℤ) (x q z : List ℕ) → over (weighted s t x) q z ≡ pos (binom (length x + (length q + length z)) (length x)) *ℤ (s x *ℤ over t q z)
inner-cell s t x q z =
    over-same q z (weighted s t x) (λ y. pos (binom (length x + (length q + length z)) (length x)) *ℤ (s x *ℤ t y))
    (λ y h. ap (λ (n : ℕ). pos (binom (length x + n) (length x)) *ℤ (s x *ℤ t y)) h)
    ∙ sum_over-mul (pos (binom (length x + (length q + length z)) (length x))) (λ y. s x *ℤ t y) (shuffles q z)
    ∙ ap (λ (n : ℤ). pos (binom (length x + (length q + length z)) (length x)) *ℤ n) (sum_over-mul (s x) t (shuffles q z))

-- over shuffles of two fronts and of two rests, the terms add up to the binomial times the product of both sums
pub outer-cell : (s t : List ℕ → ℤ) (p q r z : List ℕ)
    → pair_over (weighted s t) p q r z ≡ pos (binom (length p + length r + (length q + length z)) (length p + length r)) *ℤ (over s p r *ℤ over t q z)
outer-cell s t p q r z =
    let m : ℕ = length q + length z in
    over-same p r (λ x. over (weighted s t x) q z) (λ x. pos (binom (length p + length r + m) (length p + length r)) *ℤ (s x *ℤ over t q z))
    (λ x h. inner-cell s t x q z ∙ ap (λ (n : ℕ). pos (binom (n + m) n) *ℤ (s x *ℤ over t q z)) h)
    ∙ sum_over-mul (pos (binom (length p + length r + m) (length p + length r))) (λ x. s x *ℤ over t q z) (shuffles p r)
    ∙ ap (λ (n : ℤ). pos (binom (length p + length r + m) (length p + length r)) *ℤ n) (sum_over-mul_right (over t q z) s (shuffles p r))

cell : (s t : List ℕ → ℤ) → ObeysShuffles s → ObeysShuffles t → (u v p q r z : List ℕ) → length p + length q ≡ length u → length r + length z ≡ length v
    → pair_over (weighted s t) p q r z ≡ pos (binom (length u + length v) (length u)) *ℤ (weighted s t p q *ℤ weighted s t r z)
cell s t hs ht u v p q r z hu hv =
    let a : ℕ = length p in
    let b : ℕ = length r in
    let c : ℕ = length q in
    let d : ℕ = length z in
    outer-cell s t p q r z
    ∙ ap₂ (λ (x y : ℤ). pos (binom (a + b + (c + d)) (a + b)) *ℤ (x *ℤ y)) (hs p r) (ht q z)
    ∙ products (binom (a + b + (c + d)) (a + b)) (binom (a + b) a) (binom (c + d) c) (s p *ℤ s r) (t q *ℤ t z)
    ∙ ap₂ (λ (n : ℕ) (x : ℤ). pos n *ℤ x) (four a b c d) (swapped (s p) (s r) (t q) (t z))
    ∙ sym (products (binom (a + c + (b + d)) (a + c)) (binom (a + c) a) (binom (b + d) b) (s p *ℤ t q) (s r *ℤ t z))
    ∙ ap₂ (λ (n m : ℕ). pos (binom (n + m) n) *ℤ (weighted s t p q *ℤ weighted s t r z)) hu hv

-- the scaled product of two series that obey the shuffle relations obeys them, too
pub product-obeys : (s t : List ℕ → ℤ) → ObeysShuffles s → ObeysShuffles t → ObeysShuffles (scaled_product s t)
product-obeys s t hs ht u v =
    let g : List ℕ → List ℕ → ℤ = weighted s t in
    let n : ℤ = pos (binom (length u + length v) (length u)) in
    sum_over-same (scaled_product s t) (cut g) (shuffles u v) (scaled_product-cut s t)
    ∙ cuts u v g
    ∙ cut-same-length (λ p q. cut (λ r z. pair_over g p q r z) v) (λ p q. n *ℤ (g p q *ℤ cut g v)) u
    (λ p q hu. cut-same-length (λ r z. pair_over g p q r z) (λ r z. n *ℤ (g p q *ℤ g r z)) v (λ r z hv. cell s t hs ht u v p q r z hu hv)
    ∙ cut-mul n (λ r z. g p q *ℤ g r z) v ∙ ap (λ (x : ℤ). n *ℤ x) (cut-mul (g p q) g v))
    ∙ cut-mul n (λ p q. g p q *ℤ cut g v) u
    ∙ ap (λ (x : ℤ). n *ℤ x)
    (cut-same (λ p q. g p q *ℤ cut g v) (λ p q. cut g v *ℤ g p q) u (λ p q. *ℤ_comm (g p q) (cut g v)) ∙ cut-mul (cut g v) g u ∙ *ℤ_comm (cut g v) (cut g u)
    ∙ sym (ap₂ ◌*ℤ◌ (scaled_product-cut s t u) (scaled_product-cut s t v)))

-- ---- one move after another
-- the series of 1 is 0 at each word that has letters
pub unit-longer : (w : List ℕ) → 1 ≤ length w → unit w ≡ pos 0
unit-longer [] h = absurd (omega arith)
unit-longer (a ∷ w) h = refl

-- the series of 1 obeys the shuffle relations
pub unit-obeys : ObeysShuffles unit
unit-obeys [] v = over-none_left unit v ∙ sym (one-mul_ℤ (pos 1 *ℤ unit v) ∙ one-mul_ℤ (unit v))
unit-obeys (a ∷ u) v =
    let n : ℕ = binom (length (a ∷ u) + length v) (length (a ∷ u)) in
    over-same (a ∷ u) v unit (λ w. pos 0 *ℤ pos 0) (λ w h. unit-longer w (omega arith))
    ∙ sum_over-mul (pos 0) (λ w. pos 0) (shuffles (a ∷ u) v) ∙ zero-mul_ℤ (sum_over (λ w. pos 0) (shuffles (a ∷ u) v))
    ∙ sym (ap (λ (z : ℤ). pos n *ℤ z) (zero-mul_ℤ (unit v)) ∙ *ℤ-zero (pos n))

fold-obeys : (moves : List Parts) (s : List ℕ → ℤ) → ObeysShuffles s → ObeysShuffles (fold (λ t x. scaled_product t (step x)) s moves)
fold-obeys [] s h = h
fold-obeys (x ∷ moves) s h = fold-obeys moves (scaled_product s (step x)) (product-obeys s (step x) h (step-obeys x))

-- the signature obeys the shuffle relations
pub signature-obeys : (moves : List Parts) → ObeysShuffles (signature moves)
unfolding signature
signature-obeys moves = fold-obeys moves unit unit-obeys
