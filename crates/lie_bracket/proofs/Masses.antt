-- The mass of a majorant: the size of its entry, and a bound on that of the bracket's.
use Rattle.std.proofs.Common.{◌≡◌, inl, inr, ℕ, zero, suc, ◌+◌, ◌<◌, ◌≤◌, refl, sym, ap, ap₂, ◌∙◌, arith, ℤ, pos, neg_ℤ, ◌+ℤ◌, ◌*ℤ◌, unsigned_abs, List, [], ◌∷◌, ◌++◌, length, eqb, ltb, cond}
use Rattle.std.specs.Prelude.{Bool, true, false, ◌||◌}
use Rattle.std.proofs.Math.Nat.{le_trans, le_of_eq}
use Rattle.std.proofs.lemmas.Int.{ints, unsigned_abs-mul}
use Rattle.std.proofs.lemmas.Bool.{cases_eq, eq-eqb, ne_eqb}
use Rattle.std.proofs.lemmas.List.Elements.{All-head, All-tail}
use Rattle.definitions.specs.Sums.{count_below}
use Rattle.definitions.proofs.SumLaws.{count_below-add, count_below-same, count_below-le}
use Rattle.definitions.specs.Hall.{member, degree, number_of}
use Rattle.definitions.specs.declared.member.Member.{Member}
use Rattle.definitions.specs.declared.member.Member.TheVariants.{Letter, Pair}
use Rattle.lie_bracket.specs.declared.term.Term.{Term}
use Rattle.lie_bracket.specs.declared.sign.Sign.TheVariants.{Minus, Plus}
use Rattle.lie_bracket.specs.Brackets.{term, scaled, over_terms, coefficient, mass, by_parents, by_number, by_degree, bracket_within, enough, bracket, majorant}
use Rattle.lie_bracket.specs.Entries.{sizes, size_at, Numbers, entry_of}
use Rattle.lie_bracket.proofs.SumSteps.{abs-coefficient_at}
use Rattle.lie_bracket.proofs.NonzeroLaws.{sizes-nonzero}

-- ---- the majorant has the bracket's terms without their signs
-- the absolute value, as an integer
abbrev pub size : ℤ → ℤ
size k = pos (unsigned_abs k)

size-neg : (k : ℤ) → size (neg_ℤ k) ≡ size k
size-neg k = ap pos (let e : unsigned_abs (neg_ℤ k) ≡ unsigned_abs k = omega (arith, ints) in e)

size-mul : (j k : ℤ) → size (j *ℤ k) ≡ size j *ℤ size k
size-mul j k = ap pos (unsigned_abs-mul j k)

scaled-neg_size : (xs : List Term) → scaled (λ k. k) (scaled size xs) ≡ scaled size (scaled neg_ℤ xs)
scaled-neg_size [] = refl
scaled-neg_size (t ∷ xs) = ap₂ (λ (k : ℤ) (ts : List Term). term k t.number ∷ ts) (sym (size-neg t.factor)) (scaled-neg_size xs)

scaled-append : (f : ℤ → ℤ) (xs ys : List Term) → scaled f (xs ++ ys) ≡ scaled f xs ++ scaled f ys
scaled-append f [] ys = refl
scaled-append f (t ∷ xs) ys = ap (λ (ts : List Term). term (f t.factor) t.number ∷ ts) (scaled-append f xs ys)

scaled-mul_size : (k : ℤ) (xs : List Term) → scaled (λ n. size k *ℤ n) (scaled size xs) ≡ scaled size (scaled (λ n. k *ℤ n) xs)
scaled-mul_size k [] = refl
scaled-mul_size k (t ∷ xs) = ap₂ (λ (n : ℤ) (ts : List Term). term n t.number ∷ ts) (sym (size-mul k t.factor)) (scaled-mul_size k xs)

-- a sum of absolute factors times absolute factors is the absolute of the sum, term by term
pub over-size : (xs : List Term) (f g : ℕ → List Term) → ((c : ℕ) → g c ≡ scaled size (f c)) → over_terms (scaled size xs) g ≡ scaled size (over_terms xs f)
over-size [] f g same = refl
over-size (t ∷ xs) f g same =
    ap₂ (λ (x y : List Term). scaled (λ k. size t.factor *ℤ k) x ++ y) (same t.number) (over-size xs f g same)
    ∙ ap (λ (x : List Term). x ++ scaled size (over_terms xs f)) (scaled-mul_size t.factor (f t.number))
    ∙ sym (scaled-append size (scaled (λ k. t.factor *ℤ k) (f t.number)) (over_terms xs f))

-- the one bracket is the other one with its factors made absolute
abbrev pub Sizes : (plus rest : ℕ → ℕ → List Term) → Type 0
Sizes plus rest = (a b : ℕ) → plus a b ≡ scaled size (rest a b)

by_parents-size : (plus rest : ℕ → ℕ → List Term) → Sizes plus rest → (a : ℕ) (m : Member) → by_parents (λ k. k) plus a m ≡ scaled size (by_parents neg_ℤ rest a m)
by_parents-size plus rest same a Letter = refl
by_parents-size plus rest same a (Pair n l r) =
    ap₂ (λ (x y : List Term). over_terms x (λ c. plus c r) ++ scaled (λ k. k) (over_terms y (λ c. plus c l))) (same a l) (same a r)
    ∙ ap₂ (λ (x y : List Term). x ++ scaled (λ k. k) y) (over-size (rest a l) (λ c. rest c r) (λ c. plus c r) (λ c. same c r)) (over-size (rest a r) (λ c. rest c l) (λ c. plus c l) (λ c. same c l))
    ∙ ap (λ (y : List Term). scaled size (over_terms (rest a l) (λ c. rest c r)) ++ y) (scaled-neg_size (over_terms (rest a r) (λ c. rest c l)))
    ∙ sym (scaled-append size (over_terms (rest a l) (λ c. rest c r)) (scaled neg_ℤ (over_terms (rest a r) (λ c. rest c l))))

by_number-size : (plus rest : ℕ → ℕ → List Term) → Sizes plus rest → (a : ℕ) (m : Member) (n : ℕ) → by_number (λ k. k) plus a m n ≡ scaled size (by_number neg_ℤ rest a m n)
by_number-size plus rest same a m zero = by_parents-size plus rest same a m
by_number-size plus rest same a m (suc n) = refl

by_degree-size : (plus rest : ℕ → ℕ → List Term) → Sizes plus rest → (a b : ℕ) (m : Member) (n : ℕ) (above none : Bool) → by_degree (λ k. k) plus a b m n above none ≡ scaled size (by_degree neg_ℤ rest a b m n above none)
by_degree-size plus rest same a b m n above true = refl
by_degree-size plus rest same a b m n true false = ap (scaled (λ k. k)) (same b a) ∙ scaled-neg_size (rest b a)
by_degree-size plus rest same a b m n false false = by_number-size plus rest same a m n

bracket_within-size : (depth : ℕ) (hall : List Member) (fuel : ℕ) → Sizes (bracket_within (λ k. k) depth hall fuel) (bracket_within neg_ℤ depth hall fuel)
bracket_within-size depth hall zero a b = refl
bracket_within-size depth hall (suc fuel) a b =
    by_degree-size (bracket_within (λ k. k) depth hall fuel) (bracket_within neg_ℤ depth hall fuel) (bracket_within-size depth hall fuel)
    a b (member hall b) (number_of hall a b) (ltb b a) (eqb a b || ltb depth (degree hall a + degree hall b))

-- the majorant of a bracket is the bracket without its signs
pub majorant-size : (depth : ℕ) (hall : List Member) → Sizes (majorant depth hall) (bracket depth hall)
unfolding majorant bracket
majorant-size depth hall a b = bracket_within-size depth hall (enough depth hall) a b

-- ---- sizes by numbers
cond-pos : (b : Bool) (n : ℕ) → cond b (pos n) (pos 0) ≡ pos (cond b n 0)
cond-pos true n = refl
cond-pos false n = refl

-- the factor of h with all factors made absolute is the sum of the absolute factors of h
pub coefficient-size : (h : ℕ) (ts : List Term) → coefficient h (scaled size ts) ≡ pos (size_at h ts)
coefficient-size h [] = refl
coefficient-size h (t ∷ ts) = ap₂ ◌+ℤ◌ (cond-pos (eqb t.number h) (unsigned_abs t.factor)) (coefficient-size h ts)

-- the mass with all factors made absolute is the size
pub mass-size : (ts : List Term) → mass (scaled size ts) ≡ pos (sizes ts)
mass-size [] = refl
mass-size (t ∷ ts) = ap (λ (z : ℤ). size t.factor +ℤ z) (mass-size ts)

nothing-below : (n : ℕ) → count_below n (λ i. 0) ≡ 0
unfolding count_below
nothing-below zero = refl
nothing-below (suc n) = omega (arith, nothing-below n)

no-size : (n h k : ℕ) → n < h → count_below n (λ i. cond (eqb h (suc i)) k 0) ≡ 0
unfolding count_below
no-size zero h k past = refl
no-size (suc n) h k past = omega (arith, no-size n h k (omega arith), ap (λ (b : Bool). cond b k 0) (ne_eqb h (suc n) (λ e. omega arith)))

-- one size, at its number
one-size : (n h k : ℕ) → 1 ≤ h → h ≤ n → count_below n (λ i. cond (eqb h (suc i)) k 0) ≡ k
unfolding count_below
one-size zero h k least most = absurd (omega arith)
one-size (suc n) h k least most =
    elim (cases_eq h (suc n)) [
      | inl e ↦
          let none : count_below n (λ i. cond (eqb h (suc i)) k 0) ≡ 0 = no-size n h k (omega arith) in
          omega (arith, none, ap (λ (b : Bool). cond b k 0) (eq-eqb h (suc n) e))
      | inr ne ↦ omega (arith, one-size n h k least (omega arith), ap (λ (b : Bool). cond b k 0) (ne_eqb h (suc n) ne))
    ]

-- the sizes at all numbers make up the size
sizes-at : (n : ℕ) (ts : List Term) → Numbers n ts → count_below n (λ i. size_at (suc i) ts) ≡ sizes ts
sizes-at n [] all = nothing-below n
sizes-at n (t ∷ ts) all =
    let here : (1 ≤ t.number) × (t.number ≤ n) = All-head (λ x. (1 ≤ x.number) × (x.number ≤ n)) t ts all in
    count_below-add n (λ i. cond (eqb t.number (suc i)) (unsigned_abs t.factor) 0) (λ i. size_at (suc i) ts)
    ∙ ap₂ ◌+◌ (one-size n t.number (unsigned_abs t.factor) here.0 here.1) (sizes-at n ts (All-tail (λ x. (1 ≤ x.number) × (x.number ≤ n)) t ts all))

-- ---- the entries of a pair
-- an entry of the majorant has the majorant's mass as its size
pub sizes-majorant : (depth : ℕ) (hall : List Member) (a b : ℕ) → Numbers (length hall) (bracket depth hall a b) → sizes (entry_of Plus depth hall a b) ≡ unsigned_abs (mass (majorant depth hall a b))
sizes-majorant depth hall a b all =
    let ts : List Term = bracket depth hall a b in
    sizes-nonzero (length hall) (λ h. coefficient h (majorant depth hall a b))
    ∙ count_below-same (length hall) (λ i. unsigned_abs (coefficient (suc i) (majorant depth hall a b))) (λ i. size_at (suc i) ts)
    (λ i lt. ap (λ (xs : List Term). unsigned_abs (coefficient (suc i) xs)) (majorant-size depth hall a b) ∙ ap unsigned_abs (coefficient-size (suc i) ts))
    ∙ sizes-at (length hall) ts all
    ∙ sym (ap (λ (xs : List Term). unsigned_abs (mass xs)) (majorant-size depth hall a b) ∙ ap unsigned_abs (mass-size ts))

-- an entry of the bracket is at most that large
pub sizes-bracket : (depth : ℕ) (hall : List Member) (a b : ℕ) → Numbers (length hall) (bracket depth hall a b) → sizes (entry_of Minus depth hall a b) ≤ unsigned_abs (mass (majorant depth hall a b))
sizes-bracket depth hall a b all =
    let ts : List Term = bracket depth hall a b in
    le_trans
    (le_of_eq (sizes-nonzero (length hall) (λ h. coefficient h ts)))
    (le_trans (count_below-le (length hall) (λ i. unsigned_abs (coefficient (suc i) ts)) (λ i. size_at (suc i) ts) (λ i lt. abs-coefficient_at (suc i) ts))
    (le_of_eq
    (sizes-at (length hall) ts all
    ∙ sym (ap (λ (xs : List Term). unsigned_abs (mass xs)) (majorant-size depth hall a b) ∙ ap unsigned_abs (mass-size ts)))))
