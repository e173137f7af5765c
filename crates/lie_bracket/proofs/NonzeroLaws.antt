-- The list of the factors that aren't 0: its factors, its size, and its order.
use Rattle.std.proofs.Common.{◌≡◌, ◌≢◌, inl, inr, ℕ, zero, suc, ◌+◌, ◌<◌, ◌≤◌, refl, sym, ap, ap₂, ◌∙◌, subst, arith, ℤ, pos, negsuc, ◌+ℤ◌, unsigned_abs, List, [], ◌∷◌, ◌++◌, eqb, cond}
use Rattle.std.specs.Prelude.{All, AllPairs, Bool, true, false}
use Rattle.std.proofs.lemmas.Int.{ints}
use Rattle.std.proofs.lemmas.Bool.{cases_Bool, cases_eq, eq-eqb, ne_eqb, both_ways}
use Rattle.std.proofs.lemmas.List.Elements.{All-nil, All-cons, All-append, All-weaker}
use Rattle.definitions.specs.Signature.{limit}
use Rattle.definitions.specs.Sums.{count_below}
use Rattle.hall_set.proofs.Lists.{AllPairs-nil, AllPairs-append, All-crossed}
use Rattle.lie_bracket.specs.declared.term.Term.{Term}
use Rattle.lie_bracket.specs.Brackets.{term, coefficient}
use Rattle.lie_bracket.specs.Elements.{IsElement}
use Rattle.lie_bracket.specs.Tables.{is_zero, nonzero}
use Rattle.lie_bracket.specs.Entries.{sizes, size_at, Numbers}
use Rattle.lie_bracket.proofs.TermSums.{coefficient-append}
use Rattle.lie_bracket.proofs.SumSteps.{sizes-append}

-- what passes the test is 0
pub is_zero-true : (z : ℤ) → is_zero z ≡ true → z ≡ pos 0
is_zero-true (pos zero) h = refl
is_zero-true (pos (suc n)) h = cc
is_zero-true (negsuc n) h = cc

-- 0 with or without a condition
cond-none : (b : Bool) → cond b (pos 0) (pos 0) ≡ pos 0
cond-none true = refl
cond-none false = refl

-- the factor of h in the last term, which stands where it isn't 0
last-coefficient : (z : ℤ) (h k : ℕ) → coefficient h (cond (is_zero z) [] (term z k ∷ [])) ≡ cond (eqb k h) z (pos 0)
last-coefficient z h k =
    elim (cases_Bool (is_zero z)) [
      | inl none ↦ ap (λ (b : Bool). coefficient h (cond b [] (term z k ∷ []))) none ∙ sym (ap (λ (x : ℤ). cond (eqb k h) x (pos 0)) (is_zero-true z none) ∙ cond-none (eqb k h))
      | inr some ↦ ap (λ (b : Bool). coefficient h (cond b [] (term z k ∷ []))) some ∙ (λ (z : ℤ). let e : z +ℤ pos 0 ≡ z = omega (arith, ints) in e) (cond (eqb k h) z (pos 0))
    ]

-- the list has each factor
pub coefficient-nonzero_past : (n : ℕ) (f : ℕ → ℤ) (h : ℕ) → n < h → coefficient h (nonzero n f) ≡ pos 0
coefficient-nonzero_past zero f h lt = refl
coefficient-nonzero_past (suc n) f h lt =
    coefficient-append h (nonzero n f) (cond (is_zero (f (suc n))) [] (term (f (suc n)) (suc n) ∷ []))
    ∙ ap₂ ◌+ℤ◌ (coefficient-nonzero_past n f h (omega arith))
    (last-coefficient (f (suc n)) h (suc n) ∙ ap (λ (b : Bool). cond b (f (suc n)) (pos 0)) (ne_eqb (suc n) h (λ e. omega arith)))

-- the list gives back each factor, those that are 0 too
pub coefficient-nonzero : (n : ℕ) (f : ℕ → ℤ) (h : ℕ) → 1 ≤ h → h ≤ n → coefficient h (nonzero n f) ≡ f h
coefficient-nonzero zero f h least most = absurd (omega arith)
coefficient-nonzero (suc n) f h least most =
    coefficient-append h (nonzero n f) (cond (is_zero (f (suc n))) [] (term (f (suc n)) (suc n) ∷ []))
    ∙ ap (λ (z : ℤ). coefficient h (nonzero n f) +ℤ z) (last-coefficient (f (suc n)) h (suc n))
    ∙ elim (cases_eq (suc n) h) [
      | inl e ↦ ap₂ (λ (x : ℤ) (b : Bool). x +ℤ cond b (f (suc n)) (pos 0)) (coefficient-nonzero_past n f h (omega arith)) (eq-eqb (suc n) h e) ∙ (let z : pos 0 +ℤ f (suc n) ≡ f (suc n) = omega (arith, ints) in z) ∙ ap f e
      | inr ne ↦ ap₂ (λ (x : ℤ) (b : Bool). x +ℤ cond b (f (suc n)) (pos 0)) (coefficient-nonzero n f h least (omega arith)) (ne_eqb (suc n) h ne) ∙ (λ (z : ℤ). let e : z +ℤ pos 0 ≡ z = omega (arith, ints) in e) (f h)
    ]

-- ---- the same factors give the same list
-- the lists of the same factors are the same
pub nonzero-same : (n : ℕ) (f g : ℕ → ℤ) → ((h : ℕ) → 1 ≤ h → h ≤ n → f h ≡ g h) → nonzero n f ≡ nonzero n g
nonzero-same zero f g same = refl
nonzero-same (suc n) f g same =
    ap₂ (λ (xs : List Term) (z : ℤ). xs ++ cond (is_zero z) [] (term z (suc n) ∷ [])) (nonzero-same n f g (λ h least most. same h least (omega arith))) (same (suc n) (omega arith) (omega arith))

-- ---- what holds of each factor holds of each term
abbrev IsOf : ℕ → ℕ → (ℤ → Type 0) → Term → Type 0
IsOf least most P t = (least ≤ t.number) × (t.number ≤ most) × (t.factor ≢ pos 0) × P t.factor

-- the last term has the last number
last-of : (P : ℤ → Type 0) (z : ℤ) (n : ℕ) → P z → All (IsOf (suc n) (suc n) P) (cond (is_zero z) [] (term z (suc n) ∷ []))
last-of P z n h =
    elim (cases_Bool (is_zero z)) [
      | inl none ↦ subst (λ (b : Bool). All (IsOf (suc n) (suc n) P) (cond b [] (term z (suc n) ∷ []))) (sym none) (All-nil (IsOf (suc n) (suc n) P))
      | inr some ↦
          subst (λ (b : Bool). All (IsOf (suc n) (suc n) P) (cond b [] (term z (suc n) ∷ []))) (sym some)
          (All-cons (IsOf (suc n) (suc n) P) (term z (suc n)) [] (omega arith, omega arith, (λ e. both_ways (is_zero z) some (ap is_zero e)), h) (All-nil (IsOf (suc n) (suc n) P)))
    ]

nonzero-of : (P : ℤ → Type 0) (n : ℕ) (f : ℕ → ℤ) → ((h : ℕ) → 1 ≤ h → h ≤ n → P (f h)) → All (IsOf 1 n P) (nonzero n f)
nonzero-of P zero f each = All-nil (IsOf 1 zero P)
nonzero-of P (suc n) f each =
    All-append (IsOf 1 (suc n) P) (nonzero n f) (cond (is_zero (f (suc n))) [] (term (f (suc n)) (suc n) ∷ []))
    (All-weaker (IsOf 1 n P) (IsOf 1 (suc n) P) (λ t h. (h.0, omega (arith, h.1), h.2, h.3)) (nonzero n f) (nonzero-of P n f (λ h least most. each h least (omega arith))))
    (All-weaker (IsOf (suc n) (suc n) P) (IsOf 1 (suc n) P) (λ t h. (omega (arith, h.0), h.1, h.2, h.3)) (cond (is_zero (f (suc n))) [] (term (f (suc n)) (suc n) ∷ []))
    (last-of P (f (suc n)) n (each (suc n) (omega arith) (omega arith))))

last-rises : (z : ℤ) (n : ℕ) → AllPairs (λ s t. s.number < t.number) (cond (is_zero z) [] (term z n ∷ []))
last-rises z n =
    elim (cases_Bool (is_zero z)) [
      | inl none ↦ subst (λ (b : Bool). AllPairs (λ s t. s.number < t.number) (cond b [] (term z n ∷ []))) (sym none) (AllPairs-nil (λ (s t : Term). s.number < t.number))
      | inr some ↦ subst (λ (b : Bool). AllPairs (λ s t. s.number < t.number) (cond b [] (term z n ∷ []))) (sym some) (λ i j d lt len. absurd (omega arith))
    ]

nonzero-rises : (n : ℕ) (f : ℕ → ℤ) → AllPairs (λ s t. s.number < t.number) (nonzero n f)
nonzero-rises zero f = AllPairs-nil (λ (s t : Term). s.number < t.number)
nonzero-rises (suc n) f =
    let last : List Term = cond (is_zero (f (suc n))) [] (term (f (suc n)) (suc n) ∷ []) in
    AllPairs-append (λ s t. s.number < t.number) (nonzero n f) last (nonzero-rises n f) (last-rises (f (suc n)) (suc n))
    (All-crossed (IsOf 1 n (λ z. Unit {0})) (IsOf (suc n) (suc n) (λ z. Unit {0})) (λ s t. s.number < t.number) (nonzero n f) last (nonzero-of (λ z. Unit {0}) n f (λ h least most. tt)) (last-of (λ z. Unit {0}) (f (suc n)) n tt)
    (λ s t hs ht. omega (arith, hs.1, ht.0)))

-- the list is a Lie element, where its factors are within the range
pub nonzero-IsElement : (n : ℕ) (f : ℕ → ℤ) → ((h : ℕ) → 1 ≤ h → h ≤ n → unsigned_abs (f h) ≤ limit) → IsElement (nonzero n f)
nonzero-IsElement n f within =
    let each : All (IsOf 1 n (λ z. unsigned_abs z ≤ limit)) (nonzero n f) = nonzero-of (λ z. unsigned_abs z ≤ limit) n f within in
    record {
      rising = nonzero-rises n f;
      numbers = All-weaker (IsOf 1 n (λ z. unsigned_abs z ≤ limit)) (λ t. 1 ≤ t.number) (λ t h. h.0) (nonzero n f) each;
      some = All-weaker (IsOf 1 n (λ z. unsigned_abs z ≤ limit)) (λ t. t.factor ≢ pos 0) (λ t h. h.2) (nonzero n f) each;
      in_range = All-weaker (IsOf 1 n (λ z. unsigned_abs z ≤ limit)) (λ t. unsigned_abs t.factor ≤ limit) (λ t h. h.3) (nonzero n f) each;
    }

-- its numbers are from 1 to n
pub nonzero-Numbers : (n : ℕ) (f : ℕ → ℤ) → Numbers n (nonzero n f)
nonzero-Numbers n f = All-weaker (IsOf 1 n (λ z. Unit {0})) (λ t. (1 ≤ t.number) × (t.number ≤ n)) (λ t h. (h.0, h.1)) (nonzero n f) (nonzero-of (λ z. Unit {0}) n f (λ h least most. tt))

-- ---- its size
last-sizes : (z : ℤ) (h : ℕ) → sizes (cond (is_zero z) [] (term z h ∷ [])) ≡ unsigned_abs z
last-sizes z h =
    elim (cases_Bool (is_zero z)) [
      | inl none ↦ ap (λ (b : Bool). sizes (cond b [] (term z h ∷ []))) none ∙ sym (ap unsigned_abs (is_zero-true z none))
      | inr some ↦ ap (λ (b : Bool). sizes (cond b [] (term z h ∷ []))) some ∙ omega arith
    ]

-- its size is the sum of the absolute factors
pub sizes-nonzero : (n : ℕ) (f : ℕ → ℤ) → sizes (nonzero n f) ≡ count_below n (λ i. unsigned_abs (f (suc i)))
unfolding count_below
sizes-nonzero zero f = refl
sizes-nonzero (suc n) f =
    sizes-append (nonzero n f) (cond (is_zero (f (suc n))) [] (term (f (suc n)) (suc n) ∷ [])) ∙ ap₂ ◌+◌ (sizes-nonzero n f) (last-sizes (f (suc n)) (suc n))

-- ---- the size at a number
size_at-append : (h : ℕ) (xs ys : List Term) → size_at h (xs ++ ys) ≡ size_at h xs + size_at h ys
size_at-append h [] ys = omega arith
size_at-append h (t ∷ xs) ys = omega (arith, size_at-append h xs ys)

cond-nothing : (b : Bool) (n : ℕ) → n ≡ 0 → cond b n 0 ≡ n
cond-nothing true n e = refl
cond-nothing false n e = sym e

last-size_at : (z : ℤ) (h k : ℕ) → size_at h (cond (is_zero z) [] (term z k ∷ [])) ≡ cond (eqb k h) (unsigned_abs z) 0
last-size_at z h k =
    elim (cases_Bool (is_zero z)) [
      | inl none ↦ ap (λ (b : Bool). size_at h (cond b [] (term z k ∷ []))) none ∙ (let nothing : unsigned_abs z ≡ 0 = ap unsigned_abs (is_zero-true z none) in sym (cond-nothing (eqb k h) (unsigned_abs z) nothing ∙ nothing))
      | inr some ↦ ap (λ (b : Bool). size_at h (cond b [] (term z k ∷ []))) some ∙ omega arith
    ]

size_at-nonzero_past : (n : ℕ) (f : ℕ → ℤ) (h : ℕ) → n < h → size_at h (nonzero n f) ≡ 0
size_at-nonzero_past zero f h lt = refl
size_at-nonzero_past (suc n) f h lt =
    omega (
      arith,
      size_at-append h (nonzero n f) (cond (is_zero (f (suc n))) [] (term (f (suc n)) (suc n) ∷ [])),
      size_at-nonzero_past n f h (omega arith),
      last-size_at (f (suc n)) h (suc n),
      ap (λ (b : Bool). cond b (unsigned_abs (f (suc n))) 0) (ne_eqb (suc n) h (λ e. omega arith)),
    )

-- the absolute factor of h alone
pub size_at-nonzero : (n : ℕ) (f : ℕ → ℤ) (h : ℕ) → 1 ≤ h → h ≤ n → size_at h (nonzero n f) ≡ unsigned_abs (f h)
size_at-nonzero zero f h least most = absurd (omega arith)
size_at-nonzero (suc n) f h least most =
    let parts : size_at h (nonzero (suc n) f) ≡ size_at h (nonzero n f) + size_at h (cond (is_zero (f (suc n))) [] (term (f (suc n)) (suc n) ∷ [])) =
    size_at-append h (nonzero n f) (cond (is_zero (f (suc n))) [] (term (f (suc n)) (suc n) ∷ [])) in
    elim (cases_eq (suc n) h) [
      | inl e ↦
          omega (
            arith,
            parts,
            size_at-nonzero_past n f h (omega arith),
            last-size_at (f (suc n)) h (suc n),
            ap (λ (b : Bool). cond b (unsigned_abs (f (suc n))) 0) (eq-eqb (suc n) h e),
            ap (λ (k : ℕ). unsigned_abs (f k)) e,
          )
      | inr ne ↦
          omega (
            arith,
            parts,
            size_at-nonzero n f h least (omega arith),
            last-size_at (f (suc n)) h (suc n),
            ap (λ (b : Bool). cond b (unsigned_abs (f (suc n))) 0) (ne_eqb (suc n) h ne),
          )
    ]
