-- Series that vanish on the shuffles of nonempty words: letters, commutators and sums.
use Rattle.std.proofs.Common.{◌≡◌, ℕ, ◌≤◌, refl, sym, ap, ap₂, ◌∙◌, arith, ℤ, pos, ◌+ℤ◌, ◌-ℤ◌, ◌*ℤ◌, neg_ℤ, List, [], ◌∷◌, length}
use Rattle.std.proofs.Math.IntN.{*ℤ_comm, *ℤ-zero}
use Rattle.std.proofs.lemmas.Int.{ints}
use Rattle.definitions.specs.Products.{unit}
use Rattle.definitions.specs.Shuffles.{shuffles, sum_over}
use Rattle.definitions.specs.Commutators.{letter, commutator}
use Rattle.definitions.proofs.Integers.{mul-add_ℤ, mul_assoc_ℤ, zero-mul_ℤ, one-mul_ℤ, mul-one_ℤ}
use Rattle.shuffle.proofs.ShuffleSums.{add-mul_ℤ, over, over-none_left, over-none_right, sum_over-same, sum_over-add, sum_over-mul}
use Rattle.shuffle.proofs.DualLaws.{cut-sub, commutator-cut, letter-longer, neg-mul}
use Rattle.lie_steps.proofs.Concatenations.{joined, joined-unit_left, joined-unit_right, SplitsInto, paired, joined-splits, paired-products, paired-add_left, paired-add_right, over-none}

-- the series and the empty word, on either side
abbrev pub beside : (List ℕ → ℤ) → List ℕ → List ℕ → ℤ
beside z u v = (z u *ℤ unit v) +ℤ (unit u *ℤ z v)

-- on the shuffles of u and v the series adds up to its value at the one word where the other is empty, and else to 0
pub record IsPrimitive (z : List ℕ → ℤ) : Type 0 where
  -- this is so for all u and v
  pub splits : SplitsInto z (beside z)

-- it is 0 at the empty word
pub primitive-empty : (z : List ℕ → ℤ) → IsPrimitive z → z [] ≡ pos 0
primitive-empty z ok =
    let twice : z [] ≡ (z [] *ℤ pos 1) +ℤ (pos 1 *ℤ z []) = sym (over-none_left z []) ∙ ok.splits [] [] in
    omega (arith, ints, twice, mul-one_ℤ (z []), one-mul_ℤ (z []))

-- it is enough to look at nonempty words
pub primitive-of_vanishing : (z : List ℕ → ℤ) → z [] ≡ pos 0 → ((u v : List ℕ) → 1 ≤ length u → 1 ≤ length v → over z u v ≡ pos 0) → IsPrimitive z
primitive-of_vanishing z none vanishes = record { splits = splits }
  where
    splits : SplitsInto z (beside z)
    splits [] [] = over-none_left z [] ∙ omega (arith, ints, none, mul-one_ℤ (z []), one-mul_ℤ (z []))
    splits [] (b ∷ v) = over-none_left z (b ∷ v) ∙ omega (arith, ints, *ℤ-zero (z []), one-mul_ℤ (z (b ∷ v)))
    splits (a ∷ u) [] = over-none_right z (a ∷ u) ∙ omega (arith, ints, mul-one_ℤ (z (a ∷ u)), zero-mul_ℤ (z []))
    splits (a ∷ u) (b ∷ v) = vanishes (a ∷ u) (b ∷ v) (omega arith) (omega arith) ∙ omega (arith, ints, *ℤ-zero (z (a ∷ u)), zero-mul_ℤ (z (b ∷ v)))

-- a series with the same values as such a series is one, too
pub primitive-same : (s t : List ℕ → ℤ) → ((w : List ℕ) → s w ≡ t w) → IsPrimitive s → IsPrimitive t
primitive-same s t same ok =
    record {
      splits = λ u v.
          sum_over-same t s (shuffles u v) (λ w. sym (same w)) ∙ ok.splits u v
          ∙ ap₂ (λ (x y : ℤ). (x *ℤ unit v) +ℤ (unit u *ℤ y)) (same u) (same v);
    }

-- ---- sums
-- the series of 0 is one
pub primitive-zero : IsPrimitive (λ w. pos 0)
primitive-zero = record { splits = λ u v. over-none (λ w. pos 0) u v (λ w h. refl) ∙ omega (arith, ints, zero-mul_ℤ (unit v), *ℤ-zero (unit u)) }

-- the sum of two is one
pub primitive-add : (s t : List ℕ → ℤ) → IsPrimitive s → IsPrimitive t → IsPrimitive (λ w. s w +ℤ t w)
primitive-add s t hs ht =
    record {
      splits = λ u v.
          sum_over-add s t (shuffles u v)
          ∙ omega (arith, ints, hs.splits u v, ht.splits u v, add-mul_ℤ (s u) (t u) (unit v), mul-add_ℤ (unit u) (s v) (t v));
    }

-- the first two of three factors change places
swap-front : (x k y : ℤ) → x *ℤ (k *ℤ y) ≡ k *ℤ (x *ℤ y)
swap-front x k y = sym (mul_assoc_ℤ x k y) ∙ ap (λ (z : ℤ). z *ℤ y) (*ℤ_comm x k) ∙ mul_assoc_ℤ k x y

-- the multiple of one is one
pub primitive-mul : (c : ℤ) (s : List ℕ → ℤ) → IsPrimitive s → IsPrimitive (λ w. c *ℤ s w)
primitive-mul c s hs =
    record {
      splits = λ u v.
          sum_over-mul c s (shuffles u v) ∙ ap (λ (x : ℤ). c *ℤ x) (hs.splits u v)
          ∙ mul-add_ℤ c (s u *ℤ unit v) (unit u *ℤ s v)
          ∙ ap₂ ◌+ℤ◌ (sym (mul_assoc_ℤ c (s u) (unit v))) (sym (swap-front (unit u) c (s v)));
    }

-- the series of a letter is such a series
pub letter-primitive : (a : ℕ) → IsPrimitive (letter a)
letter-primitive a =
    primitive-of_vanishing (letter a) refl
    (λ u v su sv. over-none (letter a) u v (λ w h. letter-longer a w (omega arith)))

-- ---- commutators
-- the product of two on shuffles: what stays beside an empty word, and the two products of one with the other
pub product-beside : (s t : List ℕ → ℤ) → IsPrimitive s → IsPrimitive t → (u v : List ℕ)
    → over (joined s t) u v ≡ ((joined s t u *ℤ unit v) +ℤ (s u *ℤ t v)) +ℤ ((t u *ℤ s v) +ℤ (unit u *ℤ joined s t v))
product-beside s t hs ht u v =
    let f : List ℕ → List ℕ → ℤ = λ p r. s p *ℤ unit r in
    let f' : List ℕ → List ℕ → ℤ = λ p r. unit p *ℤ s r in
    let g : List ℕ → List ℕ → ℤ = λ q z. t q *ℤ unit z in
    let g' : List ℕ → List ℕ → ℤ = λ q z. unit q *ℤ t z in
    let first : paired f g u v ≡ joined s t u *ℤ unit v = paired-products s unit t unit u v ∙ ap (λ (x : ℤ). joined s t u *ℤ x) (joined-unit_left unit v) in
    let second : paired f g' u v ≡ s u *ℤ t v = paired-products s unit unit t u v ∙ ap₂ ◌*ℤ◌ (joined-unit_right s u) (joined-unit_left t v) in
    let third : paired f' g u v ≡ t u *ℤ s v = paired-products unit s t unit u v ∙ ap₂ ◌*ℤ◌ (joined-unit_left t u) (joined-unit_right s v) in
    let fourth : paired f' g' u v ≡ unit u *ℤ joined s t v = paired-products unit s unit t u v ∙ ap (λ (x : ℤ). x *ℤ joined s t v) (joined-unit_left unit u) in
    joined-splits s t (beside s) (beside t) hs.splits ht.splits u v
    ∙ paired-add_left f f' (beside t) u v
    ∙ ap₂ ◌+ℤ◌
    (paired-add_right f g g' u v ∙ ap₂ ◌+ℤ◌ first second)
    (paired-add_right f' g g' u v ∙ ap₂ ◌+ℤ◌ third fourth)

sum_over-sub : (f g : List ℕ → ℤ) (ws : List (List ℕ)) → sum_over (λ w. f w -ℤ g w) ws ≡ sum_over f ws -ℤ sum_over g ws
sum_over-sub f g [] = refl
sum_over-sub f g (w ∷ ws) = omega (arith, ints, sum_over-sub f g ws)

-- a difference times z is the difference of the products
pub sub-mul : (x y z : ℤ) → (x -ℤ y) *ℤ z ≡ (x *ℤ z) -ℤ (y *ℤ z)
sub-mul x y z = add-mul_ℤ x (neg_ℤ y) z ∙ ap (λ (i : ℤ). (x *ℤ z) +ℤ i) (neg-mul y z)

-- so is z times a difference
pub mul-sub : (z x y : ℤ) → z *ℤ (x -ℤ y) ≡ (z *ℤ x) -ℤ (z *ℤ y)
mul-sub z x y = *ℤ_comm z (x -ℤ y) ∙ sub-mul x y z ∙ ap₂ ◌-ℤ◌ (*ℤ_comm x z) (*ℤ_comm y z)

-- a commutator is the difference of the two products
pub commutator-joined : (s t : List ℕ → ℤ) (w : List ℕ) → commutator s t w ≡ joined s t w -ℤ joined t s w
commutator-joined s t w = commutator-cut s t w ∙ cut-sub (λ p q. s p *ℤ t q) (λ p q. t p *ℤ s q) w

-- the commutator of two is one
pub commutator-primitive : (s t : List ℕ → ℤ) → IsPrimitive s → IsPrimitive t → IsPrimitive (commutator s t)
commutator-primitive s t hs ht =
    primitive-same (λ w. joined s t w -ℤ joined t s w) (commutator s t) (λ w. sym (commutator-joined s t w))
    (record {
      splits = λ u v.
          sum_over-sub (joined s t) (joined t s) (shuffles u v)
          ∙ omega (
            arith,
            ints,
            product-beside s t hs ht u v,
            product-beside t s ht hs u v,
            sub-mul (joined s t u) (joined t s u) (unit v),
            mul-sub (unit u) (joined s t v) (joined t s v),
          );
    })
