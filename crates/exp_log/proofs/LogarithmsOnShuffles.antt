-- The logarithm vanishes on the shuffles of nonempty words.
use Rattle.std.proofs.Common.{◌≡◌, inl, inr, ℕ, zero, suc, ◌+◌, ◌*◌, ◌≤◌, ◌<◌, ◌/◌, refl, sym, ap, ap₂, ◌∙◌, arith, ℤ, pos, negsuc, ◌+ℤ◌, ◌*ℤ◌, List, [], ◌∷◌, length, take, drop, length-drop, Bool, true, false, ◌&&◌}
use Rattle.std.specs.Prelude.{nat_le, fold}
use Rattle.std.proofs.Math.Nat.{eq-or-lt_of_le}
use Rattle.std.proofs.lemmas.Int.{ints}
use Rattle.std.proofs.lemmas.Bool.{cases_lt, le-leb}
use Rattle.std.proofs.Math.IntN.{*ℤ_comm, *ℤ-zero}
use Rattle.definitions.specs.Words.{binom}
use Rattle.definitions.specs.Sums.{sum_below}
use Rattle.definitions.specs.Moves.{Parts, step}
use Rattle.definitions.specs.Signature.{signature}
use Rattle.definitions.specs.Products.{unit, scaled_product, product_term}
use Rattle.definitions.specs.Shuffles.{shuffles, sum_over}
use Rattle.definitions.specs.Logarithm.{lcm_to, sign, power, reduced, logarithm}
use Rattle.definitions.proofs.Integers.{mul-add_ℤ, mul_assoc_ℤ, zero-mul_ℤ, one-mul_ℤ, mul-one_ℤ}
use Rattle.definitions.proofs.SumLaws.{sum_below-add, sum_below-mul, sum_below-same, sum_below-first, sum_below-next, sum_below-zero}
use Rattle.definitions.proofs.Binomials.{binom-all}
use Rattle.definitions.proofs.ProductLaws.{scaled_product-unit_left}
use Rattle.shuffle.proofs.ShuffleSums.{exchange, add-mul_ℤ, over, cut, cuts, cut-same, cut-same-length, cut-mul, cut-add, pair_over, over-same, over-none_left, over-none_right, sum_over-same, sum_over-mul}
use Rattle.lie_steps.proofs.StepLaws.{step-empty}
use Rattle.exp_log.proofs.ShuffleRelations.{weighted, scaled_product-cut, outer-cell, products, four, unit-longer, unit-obeys, signature-obeys}
use Rattle.lie_steps.proofs.Concatenations.{swapped}
use Rattle.lie_steps.proofs.Exponentials.{sum_over-sum_below}

-- a product with 0 on the left
pub zero-left : (n : ℕ) (x : ℤ) → pos n *ℤ (pos 0 *ℤ x) ≡ pos 0
zero-left n x = ap (λ (z : ℤ). pos n *ℤ z) (zero-mul_ℤ x) ∙ *ℤ-zero (pos n)

-- and on the right
pub zero-right : (n : ℕ) (x : ℤ) → pos n *ℤ (x *ℤ pos 0) ≡ pos 0
zero-right n x = ap (λ (z : ℤ). pos n *ℤ z) (*ℤ-zero x) ∙ *ℤ-zero (pos n)

-- ---- what a series is on shuffles, as a sum of products
-- s is f on shuffles: over those of u and v it adds up to the binomial of their lengths times f u v
abbrev pub SplitsAs : (List ℕ → ℤ) → (List ℕ → List ℕ → ℤ) → Type 0
SplitsAs s f = (u v : List ℕ) → over s u v ≡ pos (binom (length u + length v) (length u)) *ℤ f u v

-- the cuts of two words, weighted as in the scaled product
abbrev pub joined : (f g : List ℕ → List ℕ → ℤ) → List ℕ → List ℕ → ℤ
joined f g u v = cut (λ p q. cut (λ r z. pos (binom (length p + length q) (length p) * binom (length r + length z) (length r)) *ℤ (f p r *ℤ g q z)) v) u

split-cell : (s t : List ℕ → ℤ) (f g : List ℕ → List ℕ → ℤ) → SplitsAs s f → SplitsAs t g → (u v p q r z : List ℕ) → length p + length q ≡ length u → length r + length z ≡ length v
    → pair_over (weighted s t) p q r z ≡ pos (binom (length u + length v) (length u)) *ℤ (pos (binom (length p + length q) (length p) * binom (length r + length z) (length r)) *ℤ (f p r *ℤ g q z))
split-cell s t f g hs ht u v p q r z hu hv =
    let a : ℕ = length p in
    let b : ℕ = length r in
    let c : ℕ = length q in
    let d : ℕ = length z in
    outer-cell s t p q r z
    ∙ ap₂ (λ (x y : ℤ). pos (binom (a + b + (c + d)) (a + b)) *ℤ (x *ℤ y)) (hs p r) (ht q z)
    ∙ products (binom (a + b + (c + d)) (a + b)) (binom (a + b) a) (binom (c + d) c) (f p r) (g q z)
    ∙ ap (λ (n : ℕ). pos n *ℤ (f p r *ℤ g q z)) (four a b c d)
    ∙ mul_assoc_ℤ (pos (binom (a + c + (b + d)) (a + c))) (pos (binom (a + c) a * binom (b + d) b)) (f p r *ℤ g q z)
    ∙ ap₂ (λ (n m : ℕ). pos (binom (n + m) n) *ℤ (pos (binom (a + c) a * binom (b + d) b) *ℤ (f p r *ℤ g q z))) hu hv

-- where two series are f and g on shuffles, their scaled product is f joined with g
pub product-splits : (s t : List ℕ → ℤ) (f g : List ℕ → List ℕ → ℤ) → SplitsAs s f → SplitsAs t g → SplitsAs (scaled_product s t) (joined f g)
product-splits s t f g hs ht u v =
    let n : ℤ = pos (binom (length u + length v) (length u)) in
    let h : List ℕ → List ℕ → List ℕ → List ℕ → ℤ = λ p q r z. pos (binom (length p + length q) (length p) * binom (length r + length z) (length r)) *ℤ (f p r *ℤ g q z) in
    sum_over-same (scaled_product s t) (cut (weighted s t)) (shuffles u v) (scaled_product-cut s t)
    ∙ cuts u v (weighted s t)
    ∙ cut-same-length (λ p q. cut (λ r z. pair_over (weighted s t) p q r z) v) (λ p q. n *ℤ cut (h p q) v) u
    (λ p q hu. cut-same-length (λ r z. pair_over (weighted s t) p q r z) (λ r z. n *ℤ h p q r z) v (λ r z hv. split-cell s t f g hs ht u v p q r z hu hv)
    ∙ cut-mul n (h p q) v)
    ∙ cut-mul n (λ p q. cut (h p q) v) u

-- ---- sums of products: what is joined of two products is a product
-- a at u times b at v, joined with c at u times d at v, is the product of a and c at u times that of b and d at v
pub joined-products : (a b c d : List ℕ → ℤ) (u v : List ℕ) → joined (λ p r. a p *ℤ b r) (λ q z. c q *ℤ d z) u v ≡ scaled_product a c u *ℤ scaled_product b d v
joined-products a b c d u v =
    cut-same (λ p q. cut (λ r z. pos (binom (length p + length q) (length p) * binom (length r + length z) (length r)) *ℤ ((a p *ℤ b r) *ℤ (c q *ℤ d z))) v)
    (λ p q. cut (weighted b d) v *ℤ weighted a c p q) u
    (λ p q. cut-same (λ r z. pos (binom (length p + length q) (length p) * binom (length r + length z) (length r)) *ℤ ((a p *ℤ b r) *ℤ (c q *ℤ d z)))
    (λ r z. weighted a c p q *ℤ weighted b d r z) v
    (λ r z. ap (λ (x : ℤ). pos (binom (length p + length q) (length p) * binom (length r + length z) (length r)) *ℤ x) (swapped (a p) (b r) (c q) (d z))
    ∙ mul_assoc_ℤ (pos (binom (length p + length q) (length p))) (pos (binom (length r + length z) (length r))) ((a p *ℤ c q) *ℤ (b r *ℤ d z))
    ∙ ap (λ (x : ℤ). pos (binom (length p + length q) (length p)) *ℤ x)
    (sym (mul_assoc_ℤ (pos (binom (length r + length z) (length r))) (a p *ℤ c q) (b r *ℤ d z))
    ∙ ap (λ (x : ℤ). x *ℤ (b r *ℤ d z)) (*ℤ_comm (pos (binom (length r + length z) (length r))) (a p *ℤ c q))
    ∙ mul_assoc_ℤ (a p *ℤ c q) (pos (binom (length r + length z) (length r))) (b r *ℤ d z))
    ∙ sym (mul_assoc_ℤ (pos (binom (length p + length q) (length p))) (a p *ℤ c q) (weighted b d r z)))
    ∙ cut-mul (weighted a c p q) (weighted b d) v ∙ *ℤ_comm (weighted a c p q) (cut (weighted b d) v))
    ∙ cut-mul (cut (weighted b d) v) (weighted a c) u ∙ *ℤ_comm (cut (weighted b d) v) (cut (weighted a c) u)
    ∙ sym (ap₂ ◌*ℤ◌ (scaled_product-cut a c u) (scaled_product-cut b d v))

-- f + f' joined with g is the sum of f joined with g and f' joined with g
pub joined-add_left : (f f' g : List ℕ → List ℕ → ℤ) (u v : List ℕ) → joined (λ p r. f p r +ℤ f' p r) g u v ≡ joined f g u v +ℤ joined f' g u v
joined-add_left f f' g u v =
    let c : List ℕ → List ℕ → List ℕ → List ℕ → ℤ = λ p q r z. pos (binom (length p + length q) (length p) * binom (length r + length z) (length r)) in
    cut-same (λ p q. cut (λ r z. c p q r z *ℤ ((f p r +ℤ f' p r) *ℤ g q z)) v)
    (λ p q. cut (λ r z. c p q r z *ℤ (f p r *ℤ g q z)) v +ℤ cut (λ r z. c p q r z *ℤ (f' p r *ℤ g q z)) v) u
    (λ p q. cut-same (λ r z. c p q r z *ℤ ((f p r +ℤ f' p r) *ℤ g q z)) (λ r z. (c p q r z *ℤ (f p r *ℤ g q z)) +ℤ (c p q r z *ℤ (f' p r *ℤ g q z))) v
    (λ r z. ap (λ (x : ℤ). c p q r z *ℤ x) (add-mul_ℤ (f p r) (f' p r) (g q z)) ∙ mul-add_ℤ (c p q r z) (f p r *ℤ g q z) (f' p r *ℤ g q z))
    ∙ cut-add (λ r z. c p q r z *ℤ (f p r *ℤ g q z)) (λ r z. c p q r z *ℤ (f' p r *ℤ g q z)) v)
    ∙ cut-add (λ p q. cut (λ r z. c p q r z *ℤ (f p r *ℤ g q z)) v) (λ p q. cut (λ r z. c p q r z *ℤ (f' p r *ℤ g q z)) v) u

-- f joined with g + g' is the sum of f joined with g and f joined with g'
pub joined-add_right : (f g g' : List ℕ → List ℕ → ℤ) (u v : List ℕ) → joined f (λ q z. g q z +ℤ g' q z) u v ≡ joined f g u v +ℤ joined f g' u v
joined-add_right f g g' u v =
    let c : List ℕ → List ℕ → List ℕ → List ℕ → ℤ = λ p q r z. pos (binom (length p + length q) (length p) * binom (length r + length z) (length r)) in
    cut-same (λ p q. cut (λ r z. c p q r z *ℤ (f p r *ℤ (g q z +ℤ g' q z))) v)
    (λ p q. cut (λ r z. c p q r z *ℤ (f p r *ℤ g q z)) v +ℤ cut (λ r z. c p q r z *ℤ (f p r *ℤ g' q z)) v) u
    (λ p q. cut-same (λ r z. c p q r z *ℤ (f p r *ℤ (g q z +ℤ g' q z))) (λ r z. (c p q r z *ℤ (f p r *ℤ g q z)) +ℤ (c p q r z *ℤ (f p r *ℤ g' q z))) v
    (λ r z. ap (λ (x : ℤ). c p q r z *ℤ x) (mul-add_ℤ (f p r) (g q z) (g' q z)) ∙ mul-add_ℤ (c p q r z) (f p r *ℤ g q z) (f p r *ℤ g' q z))
    ∙ cut-add (λ r z. c p q r z *ℤ (f p r *ℤ g q z)) (λ r z. c p q r z *ℤ (f p r *ℤ g' q z)) v)
    ∙ cut-add (λ p q. cut (λ r z. c p q r z *ℤ (f p r *ℤ g q z)) v) (λ p q. cut (λ r z. c p q r z *ℤ (f p r *ℤ g' q z)) v) u

-- ---- the powers of a reduced tensor on shuffles
-- the series is 1 at the empty word, and obeys the shuffle relations
pub record IsGrouplike (s : List ℕ → ℤ) : Type 0 where
  -- it is 1 at the empty word
  pub starts : s [] ≡ pos 1
  -- over the shuffles of u and v it adds up to the binomial times its values at u and at v
  pub splits : SplitsAs s (λ u v. s u *ℤ s v)

-- the value of the reduced series at one word beside an empty one, on either side, and the product of both values
abbrev pub reduced_split : (List ℕ → ℤ) → List ℕ → List ℕ → ℤ
reduced_split s u v = (reduced s u *ℤ unit v) +ℤ ((unit u *ℤ reduced s v) +ℤ (reduced s u *ℤ reduced s v))

reduced-longer : (s : List ℕ → ℤ) (w : List ℕ) → 1 ≤ length w → reduced s w ≡ s w
reduced-longer s [] h = absurd (omega arith)
reduced-longer s (a ∷ w) h = refl

binom-whole : (n : ℕ) → binom (n + 0) n ≡ 1
binom-whole n = (let e : n + 0 ≡ n = omega arith in ap (λ (k : ℕ). binom k n) e) ∙ binom-all n

alone : (x y : ℤ) → (x *ℤ pos 0) +ℤ ((pos 0 *ℤ y) +ℤ (x *ℤ y)) ≡ x *ℤ y
alone x y = omega (arith, ints, *ℤ-zero x, zero-mul_ℤ y)

-- that is what the reduced series of such a series is on shuffles
pub reduced-splits : (s : List ℕ → ℤ) → IsGrouplike s → SplitsAs (reduced s) (reduced_split s)
reduced-splits s ok [] [] = refl
reduced-splits s ok [] (b ∷ v) = over-none_left (reduced s) (b ∷ v) ∙ omega (arith, ints, one-mul_ℤ (s (b ∷ v)), zero-mul_ℤ (s (b ∷ v)))
reduced-splits s ok (a ∷ u) [] =
    let x : ℤ = s (a ∷ u) in
    over-none_right (reduced s) (a ∷ u)
    ∙ sym (ap (λ (n : ℕ). pos n *ℤ reduced_split s (a ∷ u) []) (binom-whole (length (a ∷ u))) ∙ one-mul_ℤ (reduced_split s (a ∷ u) [])
    ∙ omega (arith, ints, mul-one_ℤ x, *ℤ-zero x))
reduced-splits s ok (a ∷ u) (b ∷ v) =
    let x : ℤ = s (a ∷ u) in
    let y : ℤ = s (b ∷ v) in
    over-same (a ∷ u) (b ∷ v) (reduced s) s (λ w h. reduced-longer s w (omega arith))
    ∙ ok.splits (a ∷ u) (b ∷ v)
    ∙ ap (λ (z : ℤ). pos (binom (length (a ∷ u) + length (b ∷ v)) (length (a ∷ u))) *ℤ z) (sym (alone x y))

-- m steps, each to the left, to the right or to both
abbrev pub spread : ℕ → (ℕ → ℕ → ℤ) → ℤ
spread zero f = f 0 0
spread (suc m) f = spread m (λ a b. f (suc a) b +ℤ (f a (suc b) +ℤ f (suc a) (suc b)))

spread-same : (m : ℕ) (f g : ℕ → ℕ → ℤ) → ((a b : ℕ) → f a b ≡ g a b) → spread m f ≡ spread m g
spread-same zero f g same = same 0 0
spread-same (suc m) f g same =
    spread-same m (λ a b. f (suc a) b +ℤ (f a (suc b) +ℤ f (suc a) (suc b))) (λ a b. g (suc a) b +ℤ (g a (suc b) +ℤ g (suc a) (suc b)))
    (λ a b. ap₂ ◌+ℤ◌ (same (suc a) b) (ap₂ ◌+ℤ◌ (same a (suc b)) (same (suc a) (suc b))))

joined-spread : (m : ℕ) (f : List ℕ → List ℕ → ℤ) (g : ℕ → ℕ → List ℕ → List ℕ → ℤ) (u v : List ℕ) → joined f (λ q z. spread m (λ a b. g a b q z)) u v ≡ spread m (λ a b. joined f (g a b) u v)
joined-spread zero f g u v = refl
joined-spread (suc m) f g u v =
    joined-spread m f (λ a b q z. g (suc a) b q z +ℤ (g a (suc b) q z +ℤ g (suc a) (suc b) q z)) u v
    ∙ spread-same m (λ a b. joined f (λ q z. g (suc a) b q z +ℤ (g a (suc b) q z +ℤ g (suc a) (suc b) q z)) u v)
    (λ a b. joined f (g (suc a) b) u v +ℤ (joined f (g a (suc b)) u v +ℤ joined f (g (suc a) (suc b)) u v))
    (λ a b. joined-add_right f (g (suc a) b) (λ q z. g a (suc b) q z +ℤ g (suc a) (suc b) q z) u v
    ∙ ap (λ (x : ℤ). joined f (g (suc a) b) u v +ℤ x) (joined-add_right f (g a (suc b)) (g (suc a) (suc b)) u v))

joined-step : (s : List ℕ → ℤ) (a b : ℕ) (u v : List ℕ)
    → joined (reduced_split s) (λ q z. power s a q *ℤ power s b z) u v
    ≡ (power s (suc a) u *ℤ power s b v) +ℤ ((power s a u *ℤ power s (suc b) v) +ℤ (power s (suc a) u *ℤ power s (suc b) v))
joined-step s a b u v =
    let g : List ℕ → List ℕ → ℤ = λ q z. power s a q *ℤ power s b z in
    joined-add_left (λ p r. reduced s p *ℤ unit r) (λ p r. (unit p *ℤ reduced s r) +ℤ (reduced s p *ℤ reduced s r)) g u v
    ∙ ap₂ ◌+ℤ◌
    (joined-products (reduced s) unit (power s a) (power s b) u v ∙ ap (λ (x : ℤ). power s (suc a) u *ℤ x) (scaled_product-unit_left (power s b) v))
    (joined-add_left (λ p r. unit p *ℤ reduced s r) (λ p r. reduced s p *ℤ reduced s r) g u v
    ∙ ap₂ ◌+ℤ◌
    (joined-products unit (reduced s) (power s a) (power s b) u v ∙ ap (λ (x : ℤ). x *ℤ power s (suc b) v) (scaled_product-unit_left (power s a) u))
    (joined-products (reduced s) (reduced s) (power s a) (power s b) u v))

-- on shuffles the m-th power is the sum, over m steps to u, v or both, of the powers of so many steps at each
pub power-splits : (s : List ℕ → ℤ) → IsGrouplike s → (m : ℕ) → SplitsAs (power s m) (λ u v. spread m (λ a b. power s a u *ℤ power s b v))
power-splits s ok zero u v = unit-obeys u v
power-splits s ok (suc m) u v =
    product-splits (reduced s) (power s m) (reduced_split s) (λ q z. spread m (λ a b. power s a q *ℤ power s b z)) (reduced-splits s ok) (power-splits s ok m) u v
    ∙ ap (λ (x : ℤ). pos (binom (length u + length v) (length u)) *ℤ x)
    (joined-spread m (reduced_split s) (λ a b q z. power s a q *ℤ power s b z) u v
    ∙ spread-same m (λ a b. joined (reduced_split s) (λ q z. power s a q *ℤ power s b z) u v)
    (λ a b. (power s (suc a) u *ℤ power s b v) +ℤ ((power s a u *ℤ power s (suc b) v) +ℤ (power s (suc a) u *ℤ power s (suc b) v)))
    (λ a b. joined-step s a b u v))

power-cell : (s : List ℕ → ℤ) (m : ℕ) (w : List ℕ) (i : ℕ) → length w < suc m → ((u : List ℕ) → length u < m → power s m u ≡ pos 0)
    → pos (binom (length w) i) *ℤ (reduced s (take i w) *ℤ power s m (drop i w)) ≡ pos 0
power-cell s m w zero h none = zero-left (binom (length w) zero) (power s m (drop zero w))
power-cell s m [] (suc i) h none = zero-left (binom 0 (suc i)) (power s m [])
power-cell s m (x ∷ w) (suc i) h none =
    ap (λ (z : ℤ). pos (binom (length (x ∷ w)) (suc i)) *ℤ (reduced s (take (suc i) (x ∷ w)) *ℤ z)) (none (drop (suc i) (x ∷ w)) (omega (arith, length-drop i w)))
    ∙ zero-right (binom (length (x ∷ w)) (suc i)) (reduced s (take (suc i) (x ∷ w)))

-- a power with more parts than letters is 0
pub power-none : (s : List ℕ → ℤ) (m : ℕ) (w : List ℕ) → length w < m → power s m w ≡ pos 0
unfolding scaled_product product_term
power-none s zero w h = absurd (omega arith)
power-none s (suc m) w h =
    sum_below-zero (suc (length w)) (λ i. pos (binom (length w) i) *ℤ (reduced s (take i w) *ℤ power s m (drop i w)))
    (λ i l. power-cell s m w i h (power-none s m))

-- ---- the steps, counted
-- the number of ways to cover m things by a of them and b of them
abbrev pub covers : ℕ → ℕ → ℕ → ℕ
covers zero zero zero = 1
covers zero (suc a) b = 0
covers zero zero (suc b) = 0
covers (suc m) zero zero = 0
covers (suc m) (suc a) zero = covers m a zero
covers (suc m) zero (suc b) = covers m zero b
covers (suc m) (suc a) (suc b) = covers m a (suc b) + (covers m (suc a) b + covers m a b)

covers-left : (m a b : ℕ) → m < a → covers m a b ≡ 0
covers-left zero zero b h = absurd (omega arith)
covers-left zero (suc a) b h = refl
covers-left (suc m) zero b h = absurd (omega arith)
covers-left (suc m) (suc a) zero h = covers-left m a zero (omega arith)
covers-left (suc m) (suc a) (suc b) h = omega (arith, covers-left m a (suc b) (omega arith), covers-left m (suc a) b (omega arith), covers-left m a b (omega arith))

covers-right : (m a b : ℕ) → m < b → covers m a b ≡ 0
covers-right zero zero zero h = absurd (omega arith)
covers-right zero zero (suc b) h = refl
covers-right zero (suc a) b h = refl
covers-right (suc m) a zero h = absurd (omega arith)
covers-right (suc m) zero (suc b) h = covers-right m zero b (omega arith)
covers-right (suc m) (suc a) (suc b) h = omega (arith, covers-right m a (suc b) (omega arith), covers-right m (suc a) b (omega arith), covers-right m a b (omega arith))

-- a sum whose last term would be 0
shifted : (n : ℕ) (h : ℕ → ℤ) → h n ≡ pos 0 → sum_below n h ≡ h zero +ℤ sum_below n (λ i. h (suc i))
shifted n h none = omega (arith, ints, sum_below-first n h, sum_below-next n h, none)

-- the sum of f a b over all a and b below n, each as often as d a b says
abbrev pub grid : ℕ → (ℕ → ℕ → ℕ) → (ℕ → ℕ → ℤ) → ℤ
grid n d f = sum_below n (λ a. sum_below n (λ b. pos (d a b) *ℤ f a b))

zero-cell : (n : ℕ) (z : ℤ) → n ≡ 0 → pos n *ℤ z ≡ pos 0
zero-cell n z e = ap (λ (k : ℕ). pos k *ℤ z) e ∙ zero-mul_ℤ z

three-cells : (m n k : ℕ) (z : ℤ) → pos (m + (n + k)) *ℤ z ≡ (pos m *ℤ z) +ℤ ((pos n *ℤ z) +ℤ (pos k *ℤ z))
three-cells m n k z = add-mul_ℤ (pos m) (pos (n + k)) z ∙ ap (λ (x : ℤ). (pos m *ℤ z) +ℤ x) (add-mul_ℤ (pos n) (pos k) z)

three-values : (c x y z : ℤ) → c *ℤ (x +ℤ (y +ℤ z)) ≡ (c *ℤ x) +ℤ ((c *ℤ y) +ℤ (c *ℤ z))
three-values c x y z = mul-add_ℤ c x (y +ℤ z) ∙ ap (λ (w : ℤ). (c *ℤ x) +ℤ w) (mul-add_ℤ c y z)

sum_below-three : (n : ℕ) (f g h : ℕ → ℤ) → sum_below n (λ i. f i +ℤ (g i +ℤ h i)) ≡ sum_below n f +ℤ (sum_below n g +ℤ sum_below n h)
sum_below-three n f g h = sum_below-add n f (λ i. g i +ℤ h i) ∙ ap (λ (x : ℤ). sum_below n f +ℤ x) (sum_below-add n g h)

grid-step : (m n : ℕ) (f : ℕ → ℕ → ℤ) → m < n
    → grid (suc n) (covers (suc m)) f ≡ grid n (covers m) (λ a b. f (suc a) b +ℤ (f a (suc b) +ℤ f (suc a) (suc b)))
grid-step m n f h =
    let d : ℕ → ℕ → ℕ = covers m in
    let p : ℕ → ℤ = λ a. sum_below n (λ b. pos (d a b) *ℤ f (suc a) b) in
    let q : ℕ → ℤ = λ a. sum_below n (λ b. pos (d a b) *ℤ f a (suc b)) in
    let x : ℕ → ℤ = λ a. sum_below n (λ b. pos (d a (suc b)) *ℤ f (suc a) (suc b)) in
    let y : ℕ → ℤ = λ a. sum_below n (λ b. pos (d (suc a) b) *ℤ f (suc a) (suc b)) in
    let z : ℕ → ℤ = λ a. sum_below n (λ b. pos (d a b) *ℤ f (suc a) (suc b)) in
    let row : ℕ → ℤ = λ a. sum_below (suc n) (λ b. pos (covers (suc m) a b) *ℤ f a b) in
    let first : row zero ≡ q zero =
    sum_below-first n (λ b. pos (covers (suc m) zero b) *ℤ f zero b) ∙ ap (λ (w : ℤ). w +ℤ q zero) (zero-mul_ℤ (f zero zero)) ∙ omega (arith, ints) in
    let inner : (a : ℕ) → p a ≡ (pos (d a zero) *ℤ f (suc a) zero) +ℤ x a =
    λ a. shifted n (λ b. pos (d a b) *ℤ f (suc a) b) (zero-cell (d a n) (f (suc a) n) (covers-right m a n h)) in
    let later : (a : ℕ) → row (suc a) ≡ p a +ℤ (y a +ℤ z a) =
    λ a. sum_below-first n (λ b. pos (covers (suc m) (suc a) b) *ℤ f (suc a) b)
    ∙ ap (λ (w : ℤ). (pos (d a zero) *ℤ f (suc a) zero) +ℤ w)
    (sum_below-same n (λ b. pos (d a (suc b) + (d (suc a) b + d a b)) *ℤ f (suc a) (suc b))
    (λ b. (pos (d a (suc b)) *ℤ f (suc a) (suc b)) +ℤ ((pos (d (suc a) b) *ℤ f (suc a) (suc b)) +ℤ (pos (d a b) *ℤ f (suc a) (suc b))))
    (λ b l. three-cells (d a (suc b)) (d (suc a) b) (d a b) (f (suc a) (suc b)))
    ∙ sum_below-three n (λ b. pos (d a (suc b)) *ℤ f (suc a) (suc b)) (λ b. pos (d (suc a) b) *ℤ f (suc a) (suc b)) (λ b. pos (d a b) *ℤ f (suc a) (suc b)))
    ∙ omega (arith, ints, inner a) in
    let left : grid (suc n) (covers (suc m)) f ≡ q zero +ℤ (sum_below n p +ℤ (sum_below n y +ℤ sum_below n z)) =
    sum_below-first n row ∙ ap₂ ◌+ℤ◌ first (sum_below-same n (λ a. row (suc a)) (λ a. p a +ℤ (y a +ℤ z a)) (λ a l. later a) ∙ sum_below-three n p y z) in
    let right : grid n (covers m) (λ a b. f (suc a) b +ℤ (f a (suc b) +ℤ f (suc a) (suc b))) ≡ sum_below n p +ℤ (sum_below n q +ℤ sum_below n z) =
    sum_below-same n (λ a. sum_below n (λ b. pos (d a b) *ℤ (f (suc a) b +ℤ (f a (suc b) +ℤ f (suc a) (suc b))))) (λ a. p a +ℤ (q a +ℤ z a))
    (λ a l. sum_below-same n (λ b. pos (d a b) *ℤ (f (suc a) b +ℤ (f a (suc b) +ℤ f (suc a) (suc b))))
    (λ b. (pos (d a b) *ℤ f (suc a) b) +ℤ ((pos (d a b) *ℤ f a (suc b)) +ℤ (pos (d a b) *ℤ f (suc a) (suc b))))
    (λ b k. three-values (pos (d a b)) (f (suc a) b) (f a (suc b)) (f (suc a) (suc b)))
    ∙ sum_below-three n (λ b. pos (d a b) *ℤ f (suc a) b) (λ b. pos (d a b) *ℤ f a (suc b)) (λ b. pos (d a b) *ℤ f (suc a) (suc b)))
    ∙ sum_below-three n p q z in
    let last : q n ≡ pos 0 = sum_below-zero n (λ b. pos (d n b) *ℤ f n (suc b)) (λ b l. zero-cell (d n b) (f n (suc b)) (covers-left m n b h)) in
    let moved : sum_below n q ≡ q zero +ℤ sum_below n y = shifted n q last in
    omega (arith, ints, left, right, moved)

-- the sum over m steps has each a, b as often as m things can be covered by a of them and b of them
pub spread-grid : (m n : ℕ) (f : ℕ → ℕ → ℤ) → m < n → spread m f ≡ grid n (covers m) f
spread-grid m zero f h = absurd (omega arith)
spread-grid zero (suc n) f h =
    sym (sum_below-first n (λ a. sum_below (suc n) (λ b. pos (covers zero a b) *ℤ f a b))
    ∙ ap₂ ◌+ℤ◌
    (sum_below-first n (λ b. pos (covers zero zero b) *ℤ f zero b)
    ∙ ap₂ ◌+ℤ◌ (one-mul_ℤ (f 0 0)) (sum_below-zero n (λ b. pos 0 *ℤ f zero (suc b)) (λ b l. zero-mul_ℤ (f zero (suc b)))))
    (sum_below-zero n (λ a. sum_below (suc n) (λ b. pos 0 *ℤ f (suc a) b)) (λ a l. sum_below-zero (suc n) (λ b. pos 0 *ℤ f (suc a) b) (λ b k. zero-mul_ℤ (f (suc a) b))))
    ∙ omega (arith, ints))
spread-grid (suc m) (suc n) f h =
    spread-grid m n (λ a b. f (suc a) b +ℤ (f a (suc b) +ℤ f (suc a) (suc b))) (omega arith) ∙ sym (grid-step m n f (omega arith))

-- ---- the table of alternating sums
-- the coefficient of the power m + 1 in the logarithm at k letters
abbrev pub coefficient_of : ℕ → ℕ → ℤ
coefficient_of k m = sign m *ℤ pos (lcm_to k / suc m)

-- the sum of the coefficients of the powers 1 to k, each times the ways to cover so many things by a and b of them
abbrev pub alternating : ℕ → ℕ → ℕ → ℤ
alternating k a b = sum_below k (λ m. coefficient_of k m *ℤ pos (covers (suc m) a b))

-- whether a number is 0
abbrev pub is_zero : ℤ → Bool
is_zero (pos zero) = true
is_zero (pos (suc n)) = false
is_zero (negsuc n) = false

-- the test is for 0
pub is_zero-true : (z : ℤ) → is_zero z ≡ true → z ≡ pos 0
is_zero-true (pos zero) e = refl
is_zero-true (pos (suc n)) e = cc
is_zero-true (negsuc n) e = cc

-- a test that is made only where it is wanted
abbrev pub guarded : Bool → (ℕ → Bool) → Bool
guarded false test = true
guarded true test = test 0

-- whether all numbers below n pass a test
abbrev pub all_below : ℕ → (ℕ → Bool) → Bool
all_below zero test = true
all_below (suc n) test = test n && all_below n test

and-left : (a b : Bool) → (a && b) ≡ true → a ≡ true
and-left true b e = refl
and-left false b e = cc

and-right : (a b : Bool) → (a && b) ≡ true → b ≡ true
and-right true b e = e
and-right false b e = cc

-- if all numbers below n pass a test, each of them does
pub all_below-at : (n : ℕ) (test : ℕ → Bool) (i : ℕ) → all_below n test ≡ true → i < n → test i ≡ true
all_below-at zero test i e h = absurd (omega arith)
all_below-at (suc n) test i e h =
    elim (eq-or-lt_of_le h) [
      | inl same ↦ (let at : i ≡ n = omega arith in ap test at) ∙ and-left (test n) (all_below n test) e
      | inr below ↦ all_below-at n test i (and-right (test n) (all_below n test) e) (omega arith)
    ]

-- whether a and b are at least 1, and together at most k
abbrev pub wanted : ℕ → ℕ → ℕ → Bool
wanted k a b = nat_le 1 a && (nat_le 1 b && nat_le (a + b) k)

-- whether the alternating sums of k are 0 for all a and b below 9 that are wanted
abbrev pub table_of : ℕ → Bool
table_of k = all_below 9 (λ a. all_below 9 (λ b. guarded (wanted k a b) (λ x. is_zero (alternating k a b))))

-- the 84 sums
table : all_below 9 table_of ≡ true
unfolding sum_below
table = refl

and-both : (a b : Bool) → a ≡ true → b ≡ true → (a && b) ≡ true
and-both a b ea eb = ap₂ ◌&&◌ ea eb

table-at : (k a b : ℕ) → k ≤ 8 → 1 ≤ a → 1 ≤ b → a + b ≤ k → alternating k a b ≡ pos 0
table-at k a b small sa sb within =
    let asked : wanted k a b ≡ true = and-both (nat_le 1 a) (nat_le 1 b && nat_le (a + b) k) (le-leb 1 a sa) (and-both (nat_le 1 b) (nat_le (a + b) k) (le-leb 1 b sb) (le-leb (a + b) k within)) in
    let row : table_of k ≡ true = all_below-at 9 table_of k table (omega arith) in
    let column : all_below 9 (λ c. guarded (wanted k a c) (λ x. is_zero (alternating k a c))) ≡ true =
    all_below-at 9 (λ d. all_below 9 (λ c. guarded (wanted k d c) (λ x. is_zero (alternating k d c)))) a row (omega arith) in
    let entry : guarded (wanted k a b) (λ x. is_zero (alternating k a b)) ≡ true =
    all_below-at 9 (λ c. guarded (wanted k a c) (λ x. is_zero (alternating k a c))) b column (omega arith) in
    is_zero-true (alternating k a b) (sym (ap (λ (w : Bool). guarded w (λ x. is_zero (alternating k a b))) asked) ∙ entry)

-- the terms of one pair of powers
pair-terms : (k n : ℕ) (c : ℕ → ℤ) (d : ℕ → ℕ → ℕ → ℕ) (f : ℕ → ℕ → ℤ)
    → sum_below k (λ m. c m *ℤ grid n (d m) f) ≡ sum_below n (λ a. sum_below n (λ b. sum_below k (λ m. c m *ℤ pos (d m a b)) *ℤ f a b))
pair-terms k n c d f =
    sum_below-same k (λ m. c m *ℤ grid n (d m) f) (λ m. sum_below n (λ a. sum_below n (λ b. c m *ℤ (pos (d m a b) *ℤ f a b))))
    (λ m h. sym (sum_below-mul n (c m) (λ a. sum_below n (λ b. pos (d m a b) *ℤ f a b)))
    ∙ sum_below-same n (λ a. c m *ℤ sum_below n (λ b. pos (d m a b) *ℤ f a b)) (λ a. sum_below n (λ b. c m *ℤ (pos (d m a b) *ℤ f a b)))
    (λ a l. sym (sum_below-mul n (c m) (λ b. pos (d m a b) *ℤ f a b))))
    ∙ exchange k n (λ m a. sum_below n (λ b. c m *ℤ (pos (d m a b) *ℤ f a b)))
    ∙ sum_below-same n (λ a. sum_below k (λ m. sum_below n (λ b. c m *ℤ (pos (d m a b) *ℤ f a b)))) (λ a. sum_below n (λ b. sum_below k (λ m. c m *ℤ pos (d m a b)) *ℤ f a b))
    (λ a h. exchange k n (λ m b. c m *ℤ (pos (d m a b) *ℤ f a b))
    ∙ sum_below-same n (λ b. sum_below k (λ m. c m *ℤ (pos (d m a b) *ℤ f a b))) (λ b. sum_below k (λ m. c m *ℤ pos (d m a b)) *ℤ f a b)
    (λ b l. sum_below-same k (λ m. c m *ℤ (pos (d m a b) *ℤ f a b)) (λ m. f a b *ℤ (c m *ℤ pos (d m a b)))
    (λ m i. sym (mul_assoc_ℤ (c m) (pos (d m a b)) (f a b)) ∙ *ℤ_comm (c m *ℤ pos (d m a b)) (f a b))
    ∙ sum_below-mul k (f a b) (λ m. c m *ℤ pos (d m a b)) ∙ *ℤ_comm (f a b) (sum_below k (λ m. c m *ℤ pos (d m a b)))))

-- each pair of powers has no part in the whole
pair-none : (s : List ℕ → ℤ) (u v : List ℕ) (k a b : ℕ) → 1 ≤ length u → 1 ≤ length v → k ≡ length u + length v → k ≤ 8 → alternating k a b *ℤ (power s a u *ℤ power s b v) ≡ pos 0
pair-none s u v k zero b su sv ek small =
    ap (λ (z : ℤ). alternating k zero b *ℤ (z *ℤ power s b v)) (unit-longer u su) ∙ ap (λ (z : ℤ). alternating k zero b *ℤ z) (zero-mul_ℤ (power s b v)) ∙ *ℤ-zero (alternating k zero b)
pair-none s u v k (suc a) zero su sv ek small =
    ap (λ (z : ℤ). alternating k (suc a) zero *ℤ (power s (suc a) u *ℤ z)) (unit-longer v sv) ∙ ap (λ (z : ℤ). alternating k (suc a) zero *ℤ z) (*ℤ-zero (power s (suc a) u)) ∙ *ℤ-zero (alternating k (suc a) zero)
pair-none s u v k (suc a) (suc b) su sv ek small =
    elim (cases_lt (length u) (suc a)) [
      | inl more ↦ ap (λ (z : ℤ). alternating k (suc a) (suc b) *ℤ (z *ℤ power s (suc b) v)) (power-none s (suc a) u more)
          ∙ ap (λ (z : ℤ). alternating k (suc a) (suc b) *ℤ z) (zero-mul_ℤ (power s (suc b) v)) ∙ *ℤ-zero (alternating k (suc a) (suc b))
      | inr few ↦ elim (cases_lt (length v) (suc b)) [
        | inl more ↦ ap (λ (z : ℤ). alternating k (suc a) (suc b) *ℤ (power s (suc a) u *ℤ z)) (power-none s (suc b) v more)
            ∙ ap (λ (z : ℤ). alternating k (suc a) (suc b) *ℤ z) (*ℤ-zero (power s (suc a) u)) ∙ *ℤ-zero (alternating k (suc a) (suc b))
        | inr few' ↦ ap (λ (z : ℤ). z *ℤ (power s (suc a) u *ℤ power s (suc b) v)) (table-at k (suc a) (suc b) small (omega arith) (omega arith) (omega arith))
            ∙ zero-mul_ℤ (power s (suc a) u *ℤ power s (suc b) v)
      ]
    ]

-- ---- the logarithm vanishes on shuffles
fold-empty : (moves : List Parts) (s : List ℕ → ℤ) → fold (λ t x. scaled_product t (step x)) s moves [] ≡ s []
unfolding scaled_product product_term sum_below
fold-empty [] s = refl
fold-empty (x ∷ moves) s =
    fold-empty moves (scaled_product s (step x))
    ∙ ap (λ (z : ℤ). pos 0 +ℤ (pos 1 *ℤ (s [] *ℤ z))) (step-empty x) ∙ omega (arith, ints, one-mul_ℤ (s [] *ℤ pos 1), mul-one_ℤ (s []))

-- the signature is 1 at the empty word, and obeys the shuffle relations
pub signature-IsGrouplike : (moves : List Parts) → IsGrouplike (signature moves)
unfolding signature
signature-IsGrouplike moves = record { starts = fold-empty moves unit; splits = signature-obeys moves }

-- the logarithm vanishes on the shuffles of two nonempty words of at most 8 letters together
pub logarithm-shuffles : (s : List ℕ → ℤ) → IsGrouplike s → (u v : List ℕ) → 1 ≤ length u → 1 ≤ length v → length u + length v ≤ 8 → sum_over (logarithm s) (shuffles u v) ≡ pos 0
unfolding logarithm
logarithm-shuffles s like u v su sv small =
    let k : ℕ = length u + length v in
    let n : ℤ = pos (binom k (length u)) in
    let f : ℕ → ℕ → ℤ = λ a b. power s a u *ℤ power s b v in
    over-same u v (logarithm s) (λ w. sum_below k (λ m. coefficient_of k m *ℤ power s (suc m) w))
    (λ w h. ap (λ (j : ℕ). sum_below j (λ m. coefficient_of j m *ℤ power s (suc m) w)) h)
    ∙ sum_over-sum_below k (λ m w. coefficient_of k m *ℤ power s (suc m) w) (shuffles u v)
    ∙ sum_below-same k (λ m. sum_over (λ w. coefficient_of k m *ℤ power s (suc m) w) (shuffles u v)) (λ m. n *ℤ (coefficient_of k m *ℤ grid 9 (covers (suc m)) f))
    (λ m h. sum_over-mul (coefficient_of k m) (power s (suc m)) (shuffles u v)
    ∙ ap (λ (z : ℤ). coefficient_of k m *ℤ z) (power-splits s like (suc m) u v ∙ ap (λ (z : ℤ). n *ℤ z) (spread-grid (suc m) 9 f (omega arith)))
    ∙ sym (mul_assoc_ℤ (coefficient_of k m) n (grid 9 (covers (suc m)) f)) ∙ ap (λ (z : ℤ). z *ℤ grid 9 (covers (suc m)) f) (*ℤ_comm (coefficient_of k m) n)
    ∙ mul_assoc_ℤ n (coefficient_of k m) (grid 9 (covers (suc m)) f))
    ∙ sum_below-mul k n (λ m. coefficient_of k m *ℤ grid 9 (covers (suc m)) f)
    ∙ ap (λ (z : ℤ). n *ℤ z)
    (pair-terms k 9 (coefficient_of k) (λ m. covers (suc m)) f
    ∙ sum_below-zero 9 (λ a. sum_below 9 (λ b. alternating k a b *ℤ f a b))
    (λ a h. sum_below-zero 9 (λ b. alternating k a b *ℤ f a b) (λ b l. pair-none s u v k a b su sv refl small)))
    ∙ *ℤ-zero n
