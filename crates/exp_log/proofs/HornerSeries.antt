-- Horner's rule for the logarithm as an identity of series.
use Rattle.std.proofs.Common.{◌≡◌, ℕ, zero, suc, ◌+◌, ◌-◌, ◌/◌, ◌≤◌, ◌<◌, refl, sym, ap, ap₂, ◌∙◌, arith, List, [], ◌∷◌, length, take, drop, length-drop, ℤ, pos, ◌+ℤ◌, ◌*ℤ◌}
use Rattle.std.proofs.Math.IntN.{*ℤ_comm, *ℤ-zero}
use Rattle.std.proofs.lemmas.Int.{ints}
use Rattle.definitions.specs.Words.{binom}
use Rattle.definitions.specs.Sums.{sum_below}
use Rattle.definitions.specs.Products.{unit, product_term, scaled_product}
use Rattle.definitions.specs.Logarithm.{sign, lcm_to, reduced, power, logarithm}
use Rattle.definitions.proofs.Integers.{mul-add_ℤ, mul_assoc_ℤ}
use Rattle.definitions.proofs.SumLaws.{sum_below-add, sum_below-mul, sum_below-same, sum_below-first, sum_below-next, sum_below-zero}
use Rattle.definitions.proofs.ProductLaws.{scaled_product-assoc, scaled_product-same, scaled_product-unit_left, scaled_product-unit_right}
use Rattle.exp_log.specs.Powers.{log_factor}
use Rattle.exp_log.specs.Horner.{tail_from}

-- what a multiple more in the first factor adds to the cut after i letters
cell : (n : ℕ) (x c y z : ℤ) → pos n *ℤ ((x +ℤ c *ℤ y) *ℤ z) ≡ pos n *ℤ (x *ℤ z) +ℤ c *ℤ (pos n *ℤ (y *ℤ z))
cell n x c y z =
    ap (λ (t : ℤ). pos n *ℤ t) (*ℤ_comm (x +ℤ c *ℤ y) z ∙ mul-add_ℤ z x (c *ℤ y) ∙ ap₂ ◌+ℤ◌ (*ℤ_comm z x) (*ℤ_comm z (c *ℤ y) ∙ mul_assoc_ℤ c y z))
    ∙ mul-add_ℤ (pos n) (x *ℤ z) (c *ℤ (y *ℤ z))
    ∙ ap (λ (t : ℤ). pos n *ℤ (x *ℤ z) +ℤ t) (sym (mul_assoc_ℤ (pos n) c (y *ℤ z)) ∙ ap (λ (t : ℤ). t *ℤ (y *ℤ z)) (*ℤ_comm (pos n) c) ∙ mul_assoc_ℤ c (pos n) (y *ℤ z))

-- the product is linear in its first factor
product-more : (a a' b : List ℕ → ℤ) (c : ℤ) (word : List ℕ) → scaled_product (λ u. a u +ℤ c *ℤ a' u) b word ≡ scaled_product a b word +ℤ c *ℤ scaled_product a' b word
unfolding scaled_product product_term
product-more a a' b c word =
    let n : ℕ = suc (length word) in
    sum_below-same n (product_term (λ u. a u +ℤ c *ℤ a' u) b word) (λ i. product_term a b word i +ℤ c *ℤ product_term a' b word i)
    (λ i h. cell (binom (length word) i) (a (take i word)) c (a' (take i word)) (b (drop i word)))
    ∙ sum_below-add n (product_term a b word) (λ i. c *ℤ product_term a' b word i)
    ∙ ap (λ (z : ℤ). sum_below n (product_term a b word) +ℤ z) (sum_below-mul n c (product_term a' b word))

product-nothing : (b : List ℕ → ℤ) (word : List ℕ) → scaled_product (λ u. pos 0) b word ≡ pos 0
unfolding scaled_product product_term
product-nothing b word =
    sum_below-zero (suc (length word)) (λ i. pos (binom (length word) i) *ℤ (pos 0 *ℤ b (drop i word)))
    (λ i h. ap (λ (z : ℤ). pos (binom (length word) i) *ℤ z) (*ℤ_comm (pos 0) (b (drop i word)) ∙ *ℤ-zero (b (drop i word))) ∙ *ℤ-zero (pos (binom (length word) i)))

product-sum : (n : ℕ) (c : ℕ → ℤ) (f : ℕ → List ℕ → ℤ) (b : List ℕ → ℤ) (word : List ℕ)
    → scaled_product (λ u. sum_below n (λ i. c i *ℤ f i u)) b word ≡ sum_below n (λ i. c i *ℤ scaled_product (f i) b word)
unfolding sum_below
product-sum zero c f b word = product-nothing b word
product-sum (suc n) c f b word =
    product-more (λ u. sum_below n (λ i. c i *ℤ f i u)) (f n) b (c n) word
    ∙ ap (λ (z : ℤ). z +ℤ c n *ℤ scaled_product (f n) b word) (product-sum n c f b word)

-- a power is the product of the power before and the series, in either order
pub power-right : (s : List ℕ → ℤ) (m : ℕ) (word : List ℕ) → power s (suc m) word ≡ scaled_product (power s m) (reduced s) word
power-right s zero word = scaled_product-unit_right (reduced s) word ∙ sym (scaled_product-unit_left (reduced s) word)
power-right s (suc m) word =
    scaled_product-same (reduced s) (reduced s) (power s (suc m)) (scaled_product (power s m) (reduced s)) word (λ i h. refl) (λ i h. power-right s m (drop i word))
    ∙ sym (scaled_product-assoc (reduced s) (power s m) (reduced s) word)

-- the product of a tail and the series
tail-product : (s : List ℕ → ℤ) (k m : ℕ) (word : List ℕ) → scaled_product (tail_from s k m) (reduced s) word ≡ sum_below (suc (k - m)) (λ i. log_factor (m + i) k *ℤ power s (suc i) word)
unfolding tail_from
tail-product s k m word =
    product-sum (suc (k - m)) (λ i. log_factor (m + i) k) (power s) (reduced s) word
    ∙ sum_below-same (suc (k - m)) (λ i. log_factor (m + i) k *ℤ scaled_product (power s i) (reduced s) word) (λ i. log_factor (m + i) k *ℤ power s (suc i) word)
    (λ i h. ap (λ (z : ℤ). log_factor (m + i) k *ℤ z) (sym (power-right s i word)))

-- one step: the product of the tail and the series, and the factor of one power more
tail-step : (s : List ℕ → ℤ) (k m : ℕ) (word : List ℕ) → suc m ≤ k → tail_from s k m word ≡ log_factor m k *ℤ unit word +ℤ scaled_product (tail_from s k (suc m)) (reduced s) word
unfolding tail_from
tail-step s k m word h =
    let more : k - m ≡ suc (k - suc m) = omega arith in
    let g : ℕ → ℤ = λ i. log_factor (m + i) k *ℤ power s i word in
    let first : m + 0 ≡ m = omega arith in
    ap (λ (n : ℕ). sum_below (suc n) g) more
    ∙ sum_below-first (suc (k - suc m)) g
    ∙ ap₂ ◌+ℤ◌ (ap (λ (j : ℕ). log_factor j k *ℤ unit word) first)
    (sum_below-same (suc (k - suc m)) (λ i. g (suc i)) (λ i. log_factor (suc m + i) k *ℤ power s (suc i) word)
    (λ i l. let e : m + suc i ≡ suc m + i = omega arith in ap (λ (j : ℕ). log_factor j k *ℤ power s (suc i) word) e)
    ∙ sym (tail-product s k (suc m) word))

-- the step at a word that isn't empty, and at the empty one
pub tail-longer : (s : List ℕ → ℤ) (k m : ℕ) (word : List ℕ) → suc m ≤ k → 1 ≤ length word → tail_from s k m word ≡ scaled_product (tail_from s k (suc m)) (reduced s) word
tail-longer s k m [] h some = absurd (omega arith)
tail-longer s k m (a ∷ word) h some =
    tail-step s k m (a ∷ word) h
    ∙ ap (λ (z : ℤ). z +ℤ scaled_product (tail_from s k (suc m)) (reduced s) (a ∷ word)) (*ℤ-zero (log_factor m k)) ∙ omega (arith, ints)

-- at the empty word only the first factor counts
later-none : (s : List ℕ → ℤ) (i : ℕ) → power s (suc i) [] ≡ pos 0
unfolding scaled_product product_term sum_below
later-none s i = omega (arith, ints)

-- at the empty word the tail is its first factor
pub tail-empty : (s : List ℕ → ℤ) (k m : ℕ) → m ≤ k → tail_from s k m [] ≡ log_factor m k
unfolding tail_from
tail-empty s k m h =
    let first : m + 0 ≡ m = omega arith in
    sum_below-first (k - m) (λ i. log_factor (m + i) k *ℤ power s i [])
    ∙ ap₂ ◌+ℤ◌ (ap (λ (j : ℕ). log_factor j k *ℤ pos 1) first)
    (sum_below-zero (k - m) (λ i. log_factor (m + suc i) k *ℤ power s (suc i) []) (λ i l. ap (λ (z : ℤ). log_factor (m + suc i) k *ℤ z) (later-none s i) ∙ *ℤ-zero (log_factor (m + suc i) k)))
    ∙ omega (arith, ints)

-- the last step gives the logarithm
pub tail-log : (s : List ℕ → ℤ) (k : ℕ) (word : List ℕ) → 1 ≤ k → length word ≡ k → scaled_product (tail_from s k 1) (reduced s) word ≡ logarithm s word
unfolding logarithm
tail-log s k word some len =
    let count : suc (k - 1) ≡ length word = omega arith in
    let g : ℕ → ℤ = λ i. log_factor (1 + i) k *ℤ power s (suc i) word in
    tail-product s k 1 word
    ∙ ap (λ (n : ℕ). sum_below n g) count
    ∙ sum_below-same (length word) g (λ m. (sign m *ℤ pos (lcm_to (length word) / suc m)) *ℤ power s (suc m) word)
    (λ i h.
    let e : 1 + i - 1 ≡ i = omega arith in
    let e' : 1 + i ≡ suc i = omega arith in
    ap₂ (λ (x : ℕ) (y : ℕ). (sign x *ℤ pos (lcm_to k / y)) *ℤ power s (suc i) word) e e'
    ∙ ap (λ (n : ℕ). (sign i *ℤ pos (lcm_to n / suc i)) *ℤ power s (suc i) word) (sym len))

reduced-end : (b : List ℕ → ℤ) (u : List ℕ) → length u ≡ 0 → reduced b u ≡ pos 0
reduced-end b [] e = refl
reduced-end b (x ∷ u) e = absurd (omega arith)

reduced-some : (b : List ℕ → ℤ) (u : List ℕ) → 1 ≤ length u → b u ≡ reduced b u
reduced-some b [] some = absurd (omega arith)
reduced-some b (x ∷ u) some = refl

last-none : (n : ℕ) (x : ℤ) (b : List ℕ → ℤ) (word : List ℕ) → pos (binom n n) *ℤ (x *ℤ reduced b (drop (length word) word)) ≡ pos 0
last-none n x b word =
    ap (λ (z : ℤ). pos (binom n n) *ℤ (x *ℤ z)) (reduced-end b (drop (length word) word) (omega (arith, length-drop (length word) word)))
    ∙ ap (λ (z : ℤ). pos (binom n n) *ℤ z) (*ℤ-zero x) ∙ *ℤ-zero (pos (binom n n))

-- the cut after all letters adds nothing to the product by the series without its first coefficient
pub product-reduced : (a a' b : List ℕ → ℤ) (word : List ℕ) → ((i : ℕ) → i < length word → a (take i word) ≡ a' (take i word)) → a (take (length word) word) ≡ pos 0
    → scaled_product a b word ≡ scaled_product a' (reduced b) word
unfolding scaled_product product_term
product-reduced a a' b word same none =
    let k : ℕ = length word in
    let f : ℕ → ℤ = λ i. pos (binom k i) *ℤ (a (take i word) *ℤ b (drop i word)) in
    let g : ℕ → ℤ = λ i. pos (binom k i) *ℤ (a' (take i word) *ℤ reduced b (drop i word)) in
    let last : f k ≡ pos 0 =
    ap (λ (z : ℤ). pos (binom k k) *ℤ (z *ℤ b (drop k word))) none ∙ ap (λ (z : ℤ). pos (binom k k) *ℤ z) (*ℤ_comm (pos 0) (b (drop k word)) ∙ *ℤ-zero (b (drop k word))) ∙ *ℤ-zero (pos (binom k k)) in
    let last' : g k ≡ pos 0 = last-none k (a' (take k word)) b word in
    let each : sum_below k f ≡ sum_below k g =
    sum_below-same k f g (λ i h. ap₂ (λ (x y : ℤ). pos (binom k i) *ℤ (x *ℤ y)) (same i h) (reduced-some b (drop i word) (omega (arith, length-drop i word)))) in
    sum_below-next k f ∙ ap₂ ◌+ℤ◌ each (last ∙ sym last') ∙ sym (sum_below-next k g)

-- the product by the series without its first coefficient reads no prefix that is the whole word
pub product-shorter : (a a' b : List ℕ → ℤ) (word : List ℕ) → ((i : ℕ) → i < length word → a (take i word) ≡ a' (take i word)) → scaled_product a (reduced b) word ≡ scaled_product a' (reduced b) word
unfolding scaled_product product_term
product-shorter a a' b word same =
    let k : ℕ = length word in
    let f : ℕ → ℤ = λ i. pos (binom k i) *ℤ (a (take i word) *ℤ reduced b (drop i word)) in
    let g : ℕ → ℤ = λ i. pos (binom k i) *ℤ (a' (take i word) *ℤ reduced b (drop i word)) in
    sum_below-next k f
    ∙ ap₂ ◌+ℤ◌ (sum_below-same k f g (λ i h. ap (λ (z : ℤ). pos (binom k i) *ℤ (z *ℤ reduced b (drop i word))) (same i h))) (last-none k (a (take k word)) b word ∙ sym (last-none k (a' (take k word)) b word))
    ∙ sym (sum_below-next k g)
