-- Sums of terms: their expansions and their coefficients.
use Rattle.std.proofs.Common.{◌≡◌, inl, inr, ℕ, zero, suc, ◌≤◌, refl, sym, ap, ap₂, ◌∙◌, arith, ℤ, pos, neg_ℤ, ◌+ℤ◌, ◌-ℤ◌, ◌*ℤ◌, List, [], ◌∷◌, ◌++◌, eqb, cond}
use Rattle.std.specs.Prelude.{All, Bool, true, false}
use Rattle.std.proofs.Math.IntN.{*ℤ-zero}
use Rattle.std.proofs.lemmas.Int.{ints}
use Rattle.std.proofs.lemmas.Bool.{eq-eqb, ne_eqb, cases_eq}
use Rattle.std.proofs.lemmas.List.Elements.{All-head, All-tail}
use Rattle.definitions.proofs.Integers.{mul-add_ℤ, mul_assoc_ℤ, zero-mul_ℤ}
use Rattle.definitions.specs.Sums.{sum_below}
use Rattle.definitions.proofs.SumLaws.{sum_below-same, sum_below-add, sum_below-zero}
use Rattle.definitions.specs.Commutators.{commutator}
use Rattle.lie_bracket.specs.declared.term.Term.{Term}
use Rattle.lie_bracket.specs.Brackets.{scaled, over_terms, coefficient, expanded}
use Rattle.shuffle.proofs.ShuffleSums.{add-mul_ℤ}
use Rattle.shuffle.proofs.DualLaws.{neg-mul}
use Rattle.lie_steps.proofs.Primitives.{commutator-joined}
use Rattle.lie_bracket.proofs.CommutatorLaws.{joined-zero_left, joined-zero_right, commutator-next_left, commutator-next_right}

-- ---- expansions
-- the expansion of two joined lists
pub expanded-append : (e : ℕ → List ℕ → ℤ) (xs ys : List Term) (w : List ℕ) → expanded e (xs ++ ys) w ≡ expanded e xs w +ℤ expanded e ys w
expanded-append e [] ys w = omega (arith, ints)
expanded-append e (t ∷ xs) ys w = omega (arith, ints, expanded-append e xs ys w)

-- the expansion of a multiple
pub expanded-mul : (e : ℕ → List ℕ → ℤ) (k : ℤ) (xs : List Term) (w : List ℕ) → expanded e (scaled (λ n. k *ℤ n) xs) w ≡ k *ℤ expanded e xs w
expanded-mul e k [] w = sym (*ℤ-zero k)
expanded-mul e k (t ∷ xs) w =
    ap₂ ◌+ℤ◌ (mul_assoc_ℤ k t.factor (e t.number w)) (expanded-mul e k xs w) ∙ sym (mul-add_ℤ k (t.factor *ℤ e t.number w) (expanded e xs w))

-- the expansion with all signs changed
pub expanded-neg : (e : ℕ → List ℕ → ℤ) (xs : List Term) (w : List ℕ) → expanded e (scaled neg_ℤ xs) w ≡ neg_ℤ (expanded e xs w)
expanded-neg e [] w = refl
expanded-neg e (t ∷ xs) w = omega (arith, ints, expanded-neg e xs w, neg-mul t.factor (e t.number w))

-- a sum over terms expands to the sum of the expansions
pub expanded-over : (e : ℕ → List ℕ → ℤ) (xs : List Term) (f : ℕ → List Term) (w : List ℕ) → expanded e (over_terms xs f) w ≡ expanded (λ c. expanded e (f c)) xs w
expanded-over e [] f w = refl
expanded-over e (t ∷ xs) f w =
    expanded-append e (scaled (λ k. t.factor *ℤ k) (f t.number)) (over_terms xs f) w
    ∙ ap₂ ◌+ℤ◌ (expanded-mul e t.factor (f t.number) w) (expanded-over e xs f w)

-- the same at each number of a sum
abbrev pub SameAt : (e d : ℕ → List ℕ → ℤ) → Term → Type 0
SameAt e d t = (w : List ℕ) → e t.number w ≡ d t.number w

-- expansions agree where the series of their numbers do
pub expanded-same : (e d : ℕ → List ℕ → ℤ) (xs : List Term) (w : List ℕ) → All (SameAt e d) xs → expanded e xs w ≡ expanded d xs w
expanded-same e d [] w h = refl
expanded-same e d (t ∷ xs) w h =
    ap₂ (λ (i j : ℤ). (t.factor *ℤ i) +ℤ j) (All-head (SameAt e d) t xs h w) (expanded-same e d xs w (All-tail (SameAt e d) t xs h))

-- ---- commutators of sums
-- the commutator of a sum with a series is the sum of the commutators
pub commutator-expanded_left : (e : ℕ → List ℕ → ℤ) (xs : List Term) (t : List ℕ → ℤ) (w : List ℕ) → commutator (expanded e xs) t w ≡ expanded (λ c. commutator (e c) t) xs w
commutator-expanded_left e [] t w =
    commutator-joined (λ u. pos 0) t w ∙ ap₂ ◌-ℤ◌ (joined-zero_left t w) (joined-zero_right t w)
commutator-expanded_left e (x ∷ xs) t w =
    commutator-next_left x.factor (e x.number) (expanded e xs) t w
    ∙ ap (λ (z : ℤ). (x.factor *ℤ commutator (e x.number) t w) +ℤ z) (commutator-expanded_left e xs t w)

-- and that of a series with a sum
pub commutator-expanded_right : (e : ℕ → List ℕ → ℤ) (xs : List Term) (t : List ℕ → ℤ) (w : List ℕ) → commutator t (expanded e xs) w ≡ expanded (λ c. commutator t (e c)) xs w
commutator-expanded_right e [] t w =
    commutator-joined t (λ u. pos 0) w ∙ ap₂ ◌-ℤ◌ (joined-zero_right t w) (joined-zero_left t w)
commutator-expanded_right e (x ∷ xs) t w =
    commutator-next_right x.factor (e x.number) (expanded e xs) t w
    ∙ ap (λ (z : ℤ). (x.factor *ℤ commutator t (e x.number) w) +ℤ z) (commutator-expanded_right e xs t w)

-- ---- coefficients
-- the factor of h in two joined lists
pub coefficient-append : (h : ℕ) (xs ys : List Term) → coefficient h (xs ++ ys) ≡ coefficient h xs +ℤ coefficient h ys
coefficient-append h [] ys = omega (arith, ints)
coefficient-append h (t ∷ xs) ys = omega (arith, ints, coefficient-append h xs ys)

cond-scaled : (b : Bool) (f : ℤ → ℤ) (k : ℤ) → f (pos 0) ≡ pos 0 → cond b (f k) (pos 0) ≡ f (cond b k (pos 0))
cond-scaled true f k none = refl
cond-scaled false f k none = sym none

-- the factor of h in a multiple
pub coefficient-mul : (h : ℕ) (k : ℤ) (xs : List Term) → coefficient h (scaled (λ n. k *ℤ n) xs) ≡ k *ℤ coefficient h xs
coefficient-mul h k [] = sym (*ℤ-zero k)
coefficient-mul h k (t ∷ xs) =
    ap₂ ◌+ℤ◌ (cond-scaled (eqb t.number h) (λ n. k *ℤ n) t.factor (*ℤ-zero k)) (coefficient-mul h k xs) ∙ sym (mul-add_ℤ k (cond (eqb t.number h) t.factor (pos 0)) (coefficient h xs))

-- the factor of h with all signs changed
pub coefficient-neg : (h : ℕ) (xs : List Term) → coefficient h (scaled neg_ℤ xs) ≡ neg_ℤ (coefficient h xs)
coefficient-neg h [] = refl
coefficient-neg h (t ∷ xs) =
    ap₂ ◌+ℤ◌ (cond-scaled (eqb t.number h) neg_ℤ t.factor refl) (coefficient-neg h xs) ∙ omega (arith, ints)

coefficient-over_expanded : (h : ℕ) (xs : List Term) (f : ℕ → List Term) → coefficient h (over_terms xs f) ≡ expanded (λ c w. coefficient h (f c)) xs []
coefficient-over_expanded h [] f = refl
coefficient-over_expanded h (t ∷ xs) f =
    coefficient-append h (scaled (λ k. t.factor *ℤ k) (f t.number)) (over_terms xs f)
    ∙ ap₂ ◌+ℤ◌ (coefficient-mul h t.factor (f t.number)) (coefficient-over_expanded h xs f)

-- ---- coefficients of sums over terms
-- one term
one-member : (n h : ℕ) (k : ℤ) (g : ℕ → ℤ) → 1 ≤ h → h ≤ n → sum_below n (λ i. cond (eqb h (suc i)) k (pos 0) *ℤ g (suc i)) ≡ k *ℤ g h
unfolding sum_below
one-member zero h k g least most = absurd (omega arith)
one-member (suc n) h k g least most =
    elim (cases_eq h (suc n)) [
      | inl e ↦
          ap₂ ◌+ℤ◌
          (sum_below-zero n (λ i. cond (eqb h (suc i)) k (pos 0) *ℤ g (suc i)) (λ i l. ap (λ (b : Bool). cond b k (pos 0) *ℤ g (suc i)) (ne_eqb h (suc i) (λ s. omega arith)) ∙ zero-mul_ℤ (g (suc i))))
          (ap (λ (b : Bool). cond b k (pos 0) *ℤ g (suc n)) (eq-eqb h (suc n) e) ∙ ap (λ (x : ℕ). k *ℤ g x) (sym e))
          ∙ omega (arith, ints)
      | inr ne ↦
          ap₂ ◌+ℤ◌ (one-member n h k g least (omega arith)) (ap (λ (b : Bool). cond b k (pos 0) *ℤ g (suc n)) (ne_eqb h (suc n) ne) ∙ zero-mul_ℤ (g (suc n)))
          ∙ omega (arith, ints)
    ]

-- the sum over all numbers of their factors times g is the sum over the terms
pub by-coefficients-all : (n : ℕ) (g : ℕ → ℤ) (ts : List Term) → All (λ t. (1 ≤ t.number) × (t.number ≤ n)) ts
    → sum_below n (λ i. coefficient (suc i) ts *ℤ g (suc i)) ≡ expanded (λ h w. g h) ts []
by-coefficients-all n g [] h = sum_below-zero n (λ i. pos 0 *ℤ g (suc i)) (λ i l. zero-mul_ℤ (g (suc i)))
by-coefficients-all n g (t ∷ ts) h =
    let first : (1 ≤ t.number) × (t.number ≤ n) = All-head (λ x. (1 ≤ x.number) × (x.number ≤ n)) t ts h in
    sum_below-same n (λ i. (cond (eqb t.number (suc i)) t.factor (pos 0) +ℤ coefficient (suc i) ts) *ℤ g (suc i))
    (λ i. (cond (eqb t.number (suc i)) t.factor (pos 0) *ℤ g (suc i)) +ℤ (coefficient (suc i) ts *ℤ g (suc i)))
    (λ i l. add-mul_ℤ (cond (eqb t.number (suc i)) t.factor (pos 0)) (coefficient (suc i) ts) (g (suc i)))
    ∙ sum_below-add n (λ i. cond (eqb t.number (suc i)) t.factor (pos 0) *ℤ g (suc i)) (λ i. coefficient (suc i) ts *ℤ g (suc i))
    ∙ ap₂ ◌+ℤ◌ (one-member n t.number t.factor g first.0 first.1) (by-coefficients-all n g ts (All-tail (λ x. (1 ≤ x.number) × (x.number ≤ n)) t ts h))

-- a sum over terms depends on their coefficients alone
pub coefficient-over : (n h : ℕ) (xs : List Term) (f : ℕ → List Term) → All (λ t. (1 ≤ t.number) × (t.number ≤ n)) xs
    → coefficient h (over_terms xs f) ≡ sum_below n (λ i. coefficient (suc i) xs *ℤ coefficient h (f (suc i)))
coefficient-over n h xs f all = coefficient-over_expanded h xs f ∙ sym (by-coefficients-all n (λ c. coefficient h (f c)) xs all)
