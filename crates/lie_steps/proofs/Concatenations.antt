-- The product by plain concatenation, by the cuts of a word, and what it is on shuffles.
use Rattle.std.proofs.Common.{◌≡◌, ℕ, ◌+◌, ◌≤◌, refl, sym, ap, ap₂, ◌∙◌, arith, ℤ, pos, ◌+ℤ◌, ◌*ℤ◌, List, [], ◌∷◌, length}
use Rattle.std.proofs.Math.IntN.{*ℤ_comm, *ℤ-zero}
use Rattle.std.proofs.lemmas.Int.{ints}
use Rattle.definitions.specs.Products.{unit}
use Rattle.definitions.specs.Shuffles.{shuffles, sum_over}
use Rattle.definitions.proofs.Integers.{mul-add_ℤ, mul_assoc_ℤ, zero-mul_ℤ, one-mul_ℤ, mul-one_ℤ}
use Rattle.shuffle.proofs.ShuffleSums.{add-mul_ℤ, over, over-none_left, over-same, sum_over-same, sum_over-mul, cut, cuts, cut-same, cut-add, cut-mul, cut-sum, pair_over}
use Rattle.shuffle.proofs.DualLaws.{cut-none}
use Rattle.definitions.specs.Exponentials.{plain_product}

-- the sum of s p times t q over the cuts p q of a word
abbrev pub joined : (List ℕ → ℤ) → (List ℕ → ℤ) → List ℕ → ℤ
joined s t w = cut (λ p q. s p *ℤ t q) w

-- the product by plain concatenation is this sum
pub plain_product-cut : (s t : List ℕ → ℤ) (w : List ℕ) → plain_product s t w ≡ joined s t w
unfolding plain_product
plain_product-cut s t w = cut-sum (λ p q. s p *ℤ t q) w

-- the unit is neutral on the left
pub joined-unit_left : (t : List ℕ → ℤ) (w : List ℕ) → joined unit t w ≡ t w
joined-unit_left t [] = one-mul_ℤ (t [])
joined-unit_left t (x ∷ w) = omega (arith, ints, one-mul_ℤ (t (x ∷ w)), cut-none (λ p q. unit (x ∷ p) *ℤ t q) w (λ p q. zero-mul_ℤ (t q)))

-- the unit is neutral on the right
pub joined-unit_right : (s : List ℕ → ℤ) (w : List ℕ) → joined s unit w ≡ s w
joined-unit_right s [] = mul-one_ℤ (s [])
joined-unit_right s (x ∷ w) = omega (arith, ints, *ℤ-zero (s []), joined-unit_right (λ p. s (x ∷ p)) w)

-- ---- what a series is on shuffles, as a sum of products
-- the sum of s over the shuffles of u and v is f u v
abbrev pub SplitsInto : (List ℕ → ℤ) → (List ℕ → List ℕ → ℤ) → Type 0
SplitsInto s f = (u v : List ℕ) → over s u v ≡ f u v

-- the cuts of two words
abbrev pub paired : (f g : List ℕ → List ℕ → ℤ) → List ℕ → List ℕ → ℤ
paired f g u v = cut (λ p q. cut (λ r z. f p r *ℤ g q z) v) u

-- a factor on the right comes out of a sum over a list of words
pub sum_over-mul_right : (c : ℤ) (f : List ℕ → ℤ) (ws : List (List ℕ)) → sum_over (λ w. f w *ℤ c) ws ≡ sum_over f ws *ℤ c
sum_over-mul_right c f ws = sum_over-same (λ w. f w *ℤ c) (λ w. c *ℤ f w) ws (λ w. *ℤ_comm (f w) c) ∙ sum_over-mul c f ws ∙ *ℤ_comm c (sum_over f ws)

-- a product of two series, shuffled front with front and rest with rest
pair-product : (s t : List ℕ → ℤ) (p q r z : List ℕ) → pair_over (λ x y. s x *ℤ t y) p q r z ≡ over s p r *ℤ over t q z
pair-product s t p q r z =
    sum_over-same (λ x. over (λ y. s x *ℤ t y) q z) (λ x. s x *ℤ over t q z) (shuffles p r) (λ x. sum_over-mul (s x) t (shuffles q z))
    ∙ sum_over-mul_right (over t q z) s (shuffles p r)

-- a product on shuffles, by what its factors are there
pub joined-splits : (s t : List ℕ → ℤ) (f g : List ℕ → List ℕ → ℤ) → SplitsInto s f → SplitsInto t g → SplitsInto (joined s t) (paired f g)
joined-splits s t f g hs ht u v =
    cuts u v (λ p q. s p *ℤ t q)
    ∙ cut-same (λ p q. cut (λ r z. pair_over (λ x y. s x *ℤ t y) p q r z) v) (λ p q. cut (λ r z. f p r *ℤ g q z) v) u
    (λ p q. cut-same (λ r z. pair_over (λ x y. s x *ℤ t y) p q r z) (λ r z. f p r *ℤ g q z) v
    (λ r z. pair-product s t p q r z ∙ ap₂ ◌*ℤ◌ (hs p r) (ht q z)))

-- the inner two of four factors change places
pub swapped : (p q r z : ℤ) → (p *ℤ q) *ℤ (r *ℤ z) ≡ (p *ℤ r) *ℤ (q *ℤ z)
swapped p q r z =
    mul_assoc_ℤ p q (r *ℤ z)
    ∙ ap (λ (x : ℤ). p *ℤ x) (sym (mul_assoc_ℤ q r z) ∙ ap (λ (x : ℤ). x *ℤ z) (*ℤ_comm q r) ∙ mul_assoc_ℤ r q z)
    ∙ sym (mul_assoc_ℤ p r (q *ℤ z))

-- over the cuts of two words, what is a product in each word is the product of two products
pub paired-products : (a b c d : List ℕ → ℤ) (u v : List ℕ) → paired (λ p r. a p *ℤ b r) (λ q z. c q *ℤ d z) u v ≡ joined a c u *ℤ joined b d v
paired-products a b c d u v =
    cut-same (λ p q. cut (λ r z. (a p *ℤ b r) *ℤ (c q *ℤ d z)) v) (λ p q. joined b d v *ℤ (a p *ℤ c q)) u
    (λ p q. cut-same (λ r z. (a p *ℤ b r) *ℤ (c q *ℤ d z)) (λ r z. (a p *ℤ c q) *ℤ (b r *ℤ d z)) v (λ r z. swapped (a p) (b r) (c q) (d z))
    ∙ cut-mul (a p *ℤ c q) (λ r z. b r *ℤ d z) v ∙ *ℤ_comm (a p *ℤ c q) (joined b d v))
    ∙ cut-mul (joined b d v) (λ p q. a p *ℤ c q) u ∙ *ℤ_comm (joined b d v) (joined a c u)

-- over the cuts of two words, a sum in the fronts
pub paired-add_left : (f f' g : List ℕ → List ℕ → ℤ) (u v : List ℕ) → paired (λ p r. f p r +ℤ f' p r) g u v ≡ paired f g u v +ℤ paired f' g u v
paired-add_left f f' g u v =
    cut-same (λ p q. cut (λ r z. (f p r +ℤ f' p r) *ℤ g q z) v) (λ p q. cut (λ r z. f p r *ℤ g q z) v +ℤ cut (λ r z. f' p r *ℤ g q z) v) u
    (λ p q. cut-same (λ r z. (f p r +ℤ f' p r) *ℤ g q z) (λ r z. (f p r *ℤ g q z) +ℤ (f' p r *ℤ g q z)) v (λ r z. add-mul_ℤ (f p r) (f' p r) (g q z))
    ∙ cut-add (λ r z. f p r *ℤ g q z) (λ r z. f' p r *ℤ g q z) v)
    ∙ cut-add (λ p q. cut (λ r z. f p r *ℤ g q z) v) (λ p q. cut (λ r z. f' p r *ℤ g q z) v) u

-- over the cuts of two words, a sum in the rests
pub paired-add_right : (f g g' : List ℕ → List ℕ → ℤ) (u v : List ℕ) → paired f (λ q z. g q z +ℤ g' q z) u v ≡ paired f g u v +ℤ paired f g' u v
paired-add_right f g g' u v =
    cut-same (λ p q. cut (λ r z. f p r *ℤ (g q z +ℤ g' q z)) v) (λ p q. cut (λ r z. f p r *ℤ g q z) v +ℤ cut (λ r z. f p r *ℤ g' q z) v) u
    (λ p q. cut-same (λ r z. f p r *ℤ (g q z +ℤ g' q z)) (λ r z. (f p r *ℤ g q z) +ℤ (f p r *ℤ g' q z)) v (λ r z. mul-add_ℤ (f p r) (g q z) (g' q z))
    ∙ cut-add (λ r z. f p r *ℤ g q z) (λ r z. f p r *ℤ g' q z) v)
    ∙ cut-add (λ p q. cut (λ r z. f p r *ℤ g q z) v) (λ p q. cut (λ r z. f p r *ℤ g' q z) v) u

-- ---- the unit on shuffles
-- the unit is 0 at nonempty words
pub unit-longer : (w : List ℕ) → 1 ≤ length w → unit w ≡ pos 0
unit-longer [] h = absurd (omega arith)
unit-longer (a ∷ w) h = refl

-- a sum of zeros is zero
pub sum_over-none : (ws : List (List ℕ)) → sum_over (λ w. pos 0) ws ≡ pos 0
sum_over-none [] = refl
sum_over-none (w ∷ ws) = omega (arith, ints, sum_over-none ws)

-- a series that is 0 at the words of this length
pub over-none : (s : List ℕ → ℤ) (u v : List ℕ) → ((w : List ℕ) → length w ≡ length u + length v → s w ≡ pos 0) → over s u v ≡ pos 0
over-none s u v none = over-same u v s (λ w. pos 0) none ∙ sum_over-none (shuffles u v)

-- on shuffles the unit is the product of the units of the two words
pub unit-splits : SplitsInto unit (λ u v. unit u *ℤ unit v)
unit-splits [] v = over-none_left unit v ∙ sym (one-mul_ℤ (unit v))
unit-splits (a ∷ u) v = over-none unit (a ∷ u) v (λ w h. unit-longer w (omega arith)) ∙ sym (zero-mul_ℤ (unit v))
