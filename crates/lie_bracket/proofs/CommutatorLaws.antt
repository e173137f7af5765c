-- The laws of the product by plain concatenation and of commutators.
use Rattle.std.proofs.Common.{◌≡◌, ℕ, refl, sym, ap, ap₂, ◌∙◌, arith, ℤ, pos, neg_ℤ, ◌+ℤ◌, ◌-ℤ◌, ◌*ℤ◌, List, [], ◌∷◌}
use Rattle.std.proofs.Math.IntN.{*ℤ_comm, *ℤ-zero}
use Rattle.std.proofs.lemmas.Int.{ints}
use Rattle.definitions.proofs.Integers.{mul-add_ℤ, mul_assoc_ℤ, zero-mul_ℤ}
use Rattle.definitions.specs.Commutators.{commutator}
use Rattle.shuffle.proofs.ShuffleSums.{add-mul_ℤ, cut, cut-same, cut-add, cut-mul}
use Rattle.shuffle.proofs.DualLaws.{cut-sub, cut-none}
use Rattle.lie_steps.proofs.Concatenations.{joined}
use Rattle.lie_steps.proofs.Primitives.{sub-mul, mul-sub, commutator-joined}

-- ---- the product by plain concatenation
-- the product of series with the same coefficients is the same
pub joined-same : (s s' t t' : List ℕ → ℤ) (w : List ℕ) → ((u : List ℕ) → s u ≡ s' u) → ((u : List ℕ) → t u ≡ t' u) → joined s t w ≡ joined s' t' w
joined-same s s' t t' w hs ht = cut-same (λ p q. s p *ℤ t q) (λ p q. s' p *ℤ t' q) w (λ p q. ap₂ ◌*ℤ◌ (hs p) (ht q))

-- associativity
cut-assoc : (f : List ℕ → List ℕ → List ℕ → ℤ) (w : List ℕ) → cut (λ p q. cut (λ x y. f x y q) p) w ≡ cut (λ x r. cut (λ y q. f x y q) r) w
cut-assoc f [] = refl
cut-assoc f (a ∷ w) =
    ap (λ (z : ℤ). f [] [] (a ∷ w) +ℤ z) (cut-add (λ p q. f [] (a ∷ p) q) (λ p q. cut (λ x y. f (a ∷ x) y q) p) w ∙ ap (λ (z : ℤ). cut (λ p q. f [] (a ∷ p) q) w +ℤ z) (cut-assoc (λ x y q. f (a ∷ x) y q) w))
    ∙ omega (arith, ints)

cut-mul_right : (c : ℤ) (g : List ℕ → List ℕ → ℤ) (w : List ℕ) → cut (λ p q. g p q *ℤ c) w ≡ cut g w *ℤ c
cut-mul_right c g w = cut-same (λ p q. g p q *ℤ c) (λ p q. c *ℤ g p q) w (λ p q. *ℤ_comm (g p q) c) ∙ cut-mul c g w ∙ *ℤ_comm c (cut g w)

-- the product is associative
pub joined-assoc : (r s t : List ℕ → ℤ) (w : List ℕ) → joined (joined r s) t w ≡ joined r (joined s t) w
joined-assoc r s t w =
    cut-same (λ p q. joined r s p *ℤ t q) (λ p q. cut (λ x y. r x *ℤ (s y *ℤ t q)) p) w
    (λ p q. sym (cut-mul_right (t q) (λ x y. r x *ℤ s y) p) ∙ cut-same (λ x y. (r x *ℤ s y) *ℤ t q) (λ x y. r x *ℤ (s y *ℤ t q)) p (λ x y. mul_assoc_ℤ (r x) (s y) (t q)))
    ∙ cut-assoc (λ x y q. r x *ℤ (s y *ℤ t q)) w
    ∙ cut-same (λ x z. cut (λ y q. r x *ℤ (s y *ℤ t q)) z) (λ x z. r x *ℤ joined s t z) w (λ x z. cut-mul (r x) (λ y q. s y *ℤ t q) z)

-- the product of a difference with a series
pub joined-sub_left : (s s' t : List ℕ → ℤ) (w : List ℕ) → joined (λ u. s u -ℤ s' u) t w ≡ joined s t w -ℤ joined s' t w
joined-sub_left s s' t w =
    cut-same (λ p q. (s p -ℤ s' p) *ℤ t q) (λ p q. (s p *ℤ t q) -ℤ (s' p *ℤ t q)) w (λ p q. sub-mul (s p) (s' p) (t q))
    ∙ cut-sub (λ p q. s p *ℤ t q) (λ p q. s' p *ℤ t q) w

-- the product of a series with a difference
pub joined-sub_right : (t s s' : List ℕ → ℤ) (w : List ℕ) → joined t (λ u. s u -ℤ s' u) w ≡ joined t s w -ℤ joined t s' w
joined-sub_right t s s' w =
    cut-same (λ p q. t p *ℤ (s q -ℤ s' q)) (λ p q. (t p *ℤ s q) -ℤ (t p *ℤ s' q)) w (λ p q. mul-sub (t p) (s q) (s' q))
    ∙ cut-sub (λ p q. t p *ℤ s q) (λ p q. t p *ℤ s' q) w

-- ---- the laws of the commutator
-- the commutator of series with the same coefficients is the same
pub commutator-same : (s s' t t' : List ℕ → ℤ) (w : List ℕ) → ((u : List ℕ) → s u ≡ s' u) → ((u : List ℕ) → t u ≡ t' u) → commutator s t w ≡ commutator s' t' w
commutator-same s s' t t' w hs ht =
    commutator-joined s t w ∙ ap₂ ◌-ℤ◌ (joined-same s s' t t' w hs ht) (joined-same t t' s s' w ht hs) ∙ sym (commutator-joined s' t' w)

-- the commutator of a series with itself is 0
pub commutator-itself : (s : List ℕ → ℤ) (w : List ℕ) → commutator s s w ≡ pos 0
commutator-itself s w = commutator-joined s s w ∙ omega (arith, ints)

-- the commutator in the other order has the other sign
pub commutator-swapped : (s t : List ℕ → ℤ) (w : List ℕ) → commutator s t w ≡ neg_ℤ (commutator t s w)
commutator-swapped s t w = omega (arith, ints, commutator-joined s t w, commutator-joined t s w)

-- both orders of a commutator and a third
outer : (s t r : List ℕ → ℤ) (w : List ℕ)
    → commutator (commutator s t) r w
    ≡ (joined s (joined t r) w -ℤ joined t (joined s r) w) -ℤ (joined r (joined s t) w -ℤ joined r (joined t s) w)
outer s t r w =
    commutator-joined (commutator s t) r w
    ∙ ap₂ ◌-ℤ◌
    (joined-same (commutator s t) (λ u. joined s t u -ℤ joined t s u) r r w (commutator-joined s t) (λ u. refl)
    ∙ joined-sub_left (joined s t) (joined t s) r w
    ∙ ap₂ ◌-ℤ◌ (joined-assoc s t r w) (joined-assoc t s r w))
    (joined-same r r (commutator s t) (λ u. joined s t u -ℤ joined t s u) w (λ u. refl) (commutator-joined s t)
    ∙ joined-sub_right r (joined s t) (joined t s) w)

-- Jacobi's identity: [[a, l], r] - [[a, r], l] = [a, [l, r]]
pub jacobi : (a l r : List ℕ → ℤ) (w : List ℕ) → commutator (commutator a l) r w -ℤ commutator (commutator a r) l w ≡ commutator a (commutator l r) w
jacobi a l r w = omega (arith, ints, outer a l r w, outer a r l w, outer l r a w, commutator-swapped a (commutator l r) w)

-- ---- the commutator is linear
-- 0 on the left
pub joined-zero_left : (t : List ℕ → ℤ) (w : List ℕ) → joined (λ u. pos 0) t w ≡ pos 0
joined-zero_left t w = cut-none (λ p q. pos 0 *ℤ t q) w (λ p q. zero-mul_ℤ (t q))

-- 0 on the right
pub joined-zero_right : (t : List ℕ → ℤ) (w : List ℕ) → joined t (λ u. pos 0) w ≡ pos 0
joined-zero_right t w = cut-none (λ p q. t p *ℤ pos 0) w (λ p q. *ℤ-zero (t p))

joined-next_left : (k : ℤ) (r s t : List ℕ → ℤ) (w : List ℕ) → joined (λ u. (k *ℤ r u) +ℤ s u) t w ≡ (k *ℤ joined r t w) +ℤ joined s t w
joined-next_left k r s t w =
    cut-same (λ p q. ((k *ℤ r p) +ℤ s p) *ℤ t q) (λ p q. (k *ℤ (r p *ℤ t q)) +ℤ (s p *ℤ t q)) w
    (λ p q. add-mul_ℤ (k *ℤ r p) (s p) (t q) ∙ ap (λ (z : ℤ). z +ℤ (s p *ℤ t q)) (mul_assoc_ℤ k (r p) (t q)))
    ∙ cut-add (λ p q. k *ℤ (r p *ℤ t q)) (λ p q. s p *ℤ t q) w
    ∙ ap (λ (z : ℤ). z +ℤ joined s t w) (cut-mul k (λ p q. r p *ℤ t q) w)

-- the first two of three factors change places
swap-front : (x k y : ℤ) → x *ℤ (k *ℤ y) ≡ k *ℤ (x *ℤ y)
swap-front x k y = sym (mul_assoc_ℤ x k y) ∙ ap (λ (z : ℤ). z *ℤ y) (*ℤ_comm x k) ∙ mul_assoc_ℤ k x y

joined-next_right : (k : ℤ) (r s t : List ℕ → ℤ) (w : List ℕ) → joined t (λ u. (k *ℤ r u) +ℤ s u) w ≡ (k *ℤ joined t r w) +ℤ joined t s w
joined-next_right k r s t w =
    cut-same (λ p q. t p *ℤ ((k *ℤ r q) +ℤ s q)) (λ p q. (k *ℤ (t p *ℤ r q)) +ℤ (t p *ℤ s q)) w
    (λ p q. mul-add_ℤ (t p) (k *ℤ r q) (s q) ∙ ap (λ (z : ℤ). z +ℤ (t p *ℤ s q)) (swap-front (t p) k (r q)))
    ∙ cut-add (λ p q. k *ℤ (t p *ℤ r q)) (λ p q. t p *ℤ s q) w
    ∙ ap (λ (z : ℤ). z +ℤ joined t s w) (cut-mul k (λ p q. t p *ℤ r q) w)

-- the multiples of both products together
gather : (k x y a b : ℤ) → ((k *ℤ x) +ℤ a) -ℤ ((k *ℤ y) +ℤ b) ≡ (k *ℤ (x -ℤ y)) +ℤ (a -ℤ b)
gather k x y a b = omega (arith, ints, mul-sub k x y)

-- the commutator is linear on the left
pub commutator-next_left : (k : ℤ) (r s t : List ℕ → ℤ) (w : List ℕ) → commutator (λ u. (k *ℤ r u) +ℤ s u) t w ≡ (k *ℤ commutator r t w) +ℤ commutator s t w
commutator-next_left k r s t w =
    commutator-joined (λ u. (k *ℤ r u) +ℤ s u) t w
    ∙ ap₂ ◌-ℤ◌ (joined-next_left k r s t w) (joined-next_right k r s t w)
    ∙ gather k (joined r t w) (joined t r w) (joined s t w) (joined t s w)
    ∙ sym (ap₂ (λ (i j : ℤ). (k *ℤ i) +ℤ j) (commutator-joined r t w) (commutator-joined s t w))

-- and on the right
pub commutator-next_right : (k : ℤ) (r s t : List ℕ → ℤ) (w : List ℕ) → commutator t (λ u. (k *ℤ r u) +ℤ s u) w ≡ (k *ℤ commutator t r w) +ℤ commutator t s w
commutator-next_right k r s t w =
    commutator-joined t (λ u. (k *ℤ r u) +ℤ s u) w
    ∙ ap₂ ◌-ℤ◌ (joined-next_right k r s t w) (joined-next_left k r s t w)
    ∙ gather k (joined t r w) (joined r t w) (joined t s w) (joined s t w)
    ∙ sym (ap₂ (λ (i j : ℤ). (k *ℤ i) +ℤ j) (commutator-joined t r w) (commutator-joined t s w))
