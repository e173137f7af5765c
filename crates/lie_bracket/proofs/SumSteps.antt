-- Sums by numbers, one term more.
use Rattle.std.proofs.Common.{◌≡◌, inl, inr, ℕ, zero, suc, ◌+◌, ◌*◌, ◌^◌, ◌<◌, ◌≤◌, refl, sym, ap, ap₂, ◌∙◌, arith, ℤ, pos, neg_ℤ, ◌+ℤ◌, ◌*ℤ◌, unsigned_abs, List, [], ◌∷◌, ◌++◌, length, take, get_or, set, eqb, ltb, cond, length-set, get_or-set_same, get_or-set_other}
use Rattle.std.specs.Prelude.{All, Bool, true, false}
use Rattle.std.specs.BTreeMap.{BTreeMap}
use Rattle.std.proofs.Math.Nat.{mul-le-mul_left, mul-le-mul_right, le_trans}
use Rattle.std.proofs.Math.IntN.{*ℤ_comm}
use Rattle.std.proofs.lemmas.Int.{ints, unsigned_abs-mul}
use Rattle.std.proofs.lemmas.Bool.{eq-eqb, ne_eqb, cases_eq, cond_both}
use Rattle.std.proofs.lemmas.List.Elements.{All-head, All-tail}
use Rattle.definitions.proofs.Integers.{mul-add_ℤ, mul_assoc_ℤ, one-mul_ℤ, abs-add}
use Rattle.definitions.specs.Signature.{limit}
use Rattle.lie_bracket.specs.declared.term.Term.{Term}
use Rattle.lie_bracket.specs.declared.sign.Sign.{Sign}
use Rattle.lie_bracket.specs.declared.sign.Sign.TheVariants.{Minus, Plus}
use Rattle.lie_bracket.specs.Brackets.{scaled, over_terms, coefficient}
use Rattle.lie_bracket.specs.Elements.{term_at}
use Rattle.lie_bracket.specs.Entries.{signed, sizes, size_at, stored, looked_up, AreSmall, Numbers}
use Rattle.shuffle.proofs.DualLaws.{neg-mul}
use Rattle.lie_bracket.proofs.TermSums.{coefficient-append, coefficient-mul, coefficient-neg}

-- ---- sizes
-- one term more adds its absolute factor
pub sizes-next : (ts : List Term) (i : ℕ) → i < length ts → sizes (take (i + 1) ts) ≡ sizes (take i ts) + unsigned_abs (term_at ts i).factor
sizes-next [] i lt = absurd (omega arith)
sizes-next (t ∷ ts) zero lt = omega arith
sizes-next (t ∷ ts) (suc i) lt = let one : suc i + 1 ≡ suc (i + 1) = omega arith in ap (λ (n : ℕ). sizes (take n (t ∷ ts))) one ∙ omega (arith, sizes-next ts i (omega arith))

-- the first terms are no larger than all
pub sizes-part : (ts : List Term) (i : ℕ) → sizes (take i ts) ≤ sizes ts
sizes-part [] zero = omega arith
sizes-part [] (suc i) = omega arith
sizes-part (t ∷ ts) zero = omega arith
sizes-part (t ∷ ts) (suc i) = omega (arith, sizes-part ts i)

-- a number under a condition is at most the number
abs-cond : (b : Bool) (k : ℤ) → unsigned_abs (cond b k (pos 0)) ≤ unsigned_abs k
abs-cond true k = omega arith
abs-cond false k = omega arith

-- no factor is above the size of the list
pub abs-coefficient : (h : ℕ) (ts : List Term) → unsigned_abs (coefficient h ts) ≤ sizes ts
abs-coefficient h [] = omega arith
abs-coefficient h (t ∷ ts) = omega (arith, abs-add (cond (eqb t.number h) t.factor (pos 0)) (coefficient h ts), abs-cond (eqb t.number h) t.factor, abs-coefficient h ts)

abs-cond_at : (b : Bool) (k : ℤ) → unsigned_abs (cond b k (pos 0)) ≡ cond b (unsigned_abs k) 0
abs-cond_at true k = refl
abs-cond_at false k = refl

-- the factor of h is at most the absolute factors of h together
pub abs-coefficient_at : (h : ℕ) (ts : List Term) → unsigned_abs (coefficient h ts) ≤ size_at h ts
abs-coefficient_at h [] = omega arith
abs-coefficient_at h (t ∷ ts) = omega (arith, abs-add (cond (eqb t.number h) t.factor (pos 0)) (coefficient h ts), abs-cond_at (eqb t.number h) t.factor, abs-coefficient_at h ts)

cond-le : (b : Bool) (n : ℕ) → cond b n 0 ≤ n
cond-le true n = omega arith
cond-le false n = omega arith

-- which are at most those of all numbers
pub size_at-le : (h : ℕ) (ts : List Term) → size_at h ts ≤ sizes ts
size_at-le h [] = omega arith
size_at-le h (t ∷ ts) = omega (arith, cond-le (eqb t.number h) (unsigned_abs t.factor), size_at-le h ts)

size_at-next : (h : ℕ) (ts : List Term) (i : ℕ) → i < length ts → size_at h (take (i + 1) ts) ≡ size_at h (take i ts) + cond (eqb (term_at ts i).number h) (unsigned_abs (term_at ts i).factor) 0
size_at-next h [] i lt = absurd (omega arith)
size_at-next h (t ∷ ts) zero lt = omega arith
size_at-next h (t ∷ ts) (suc i) lt = let one : suc i + 1 ≡ suc (i + 1) = omega arith in ap (λ (n : ℕ). size_at h (take n (t ∷ ts))) one ∙ omega (arith, size_at-next h ts i (omega arith))

size_at-part : (h : ℕ) (ts : List Term) (i : ℕ) → size_at h (take i ts) ≤ size_at h ts
size_at-part h [] zero = omega arith
size_at-part h [] (suc i) = omega arith
size_at-part h (t ∷ ts) zero = omega arith
size_at-part h (t ∷ ts) (suc i) = omega (arith, size_at-part h ts i)

-- a term adds to the size at its number
size_at-here : (h : ℕ) (ts : List Term) (i : ℕ) → i < length ts → (term_at ts i).number ≡ h → size_at h (take i ts) + unsigned_abs (term_at ts i).factor ≤ size_at h ts
size_at-here h ts i lt here =
    omega (arith, size_at-next h ts i lt, ap (λ (b : Bool). cond b (unsigned_abs (term_at ts i).factor) 0) (eq-eqb (term_at ts i).number h here), size_at-part h ts (i + 1))

-- the size of two joined lists
pub sizes-append : (xs ys : List Term) → sizes (xs ++ ys) ≡ sizes xs + sizes ys
sizes-append [] ys = omega arith
sizes-append (t ∷ xs) ys = omega (arith, sizes-append xs ys)

-- the size of a multiple
pub sizes-mul : (k : ℤ) (xs : List Term) → sizes (scaled (λ n. k *ℤ n) xs) ≡ unsigned_abs k * sizes xs
sizes-mul k [] = omega arith
sizes-mul k (t ∷ xs) = omega (arith, unsigned_abs-mul k t.factor, sizes-mul k xs)

-- a sum over terms, each of whose parts is so large at most
pub sizes-over : (bound : ℕ) (f : ℕ → List Term) (xs : List Term) → ((c : ℕ) → sizes (f c) ≤ bound) → sizes (over_terms xs f) ≤ sizes xs * bound
sizes-over bound f [] h = omega arith
sizes-over bound f (t ∷ xs) h =
    let first : unsigned_abs t.factor * sizes (f t.number) ≤ unsigned_abs t.factor * bound = mul-le-mul_left (unsigned_abs t.factor) (h t.number) in
    omega (arith, sizes-append (scaled (λ k. t.factor *ℤ k) (f t.number)) (over_terms xs f), sizes-mul t.factor (f t.number), first, sizes-over bound f xs h)

-- a sign changes no absolute value
pub abs-signed : (sign : Sign) (k : ℤ) → unsigned_abs (signed sign k) ≡ unsigned_abs k
abs-signed Minus k = omega (arith, ints)
abs-signed Plus k = refl

-- nor the size of a list
pub sizes-signed : (sign : Sign) (xs : List Term) → sizes (scaled (signed sign) xs) ≡ sizes xs
sizes-signed sign [] = refl
sizes-signed sign (t ∷ xs) = ap₂ ◌+◌ (abs-signed sign t.factor) (sizes-signed sign xs)

-- the factor of h with a sign
pub coefficient-signed : (sign : Sign) (h : ℕ) (xs : List Term) → coefficient h (scaled (signed sign) xs) ≡ signed sign (coefficient h xs)
coefficient-signed Minus h xs = coefficient-neg h xs
coefficient-signed Plus h [] = refl
coefficient-signed Plus h (t ∷ xs) = ap (λ (z : ℤ). cond (eqb t.number h) t.factor (pos 0) +ℤ z) (coefficient-signed Plus h xs)

-- the sign may stand at the other factor
pub signed-mul : (sign : Sign) (k x : ℤ) → signed sign k *ℤ x ≡ k *ℤ signed sign x
signed-mul Minus k x = neg-mul k x ∙ sym (*ℤ_comm k (neg_ℤ x) ∙ neg-mul x k ∙ ap neg_ℤ (*ℤ_comm x k))
signed-mul Plus k x = refl

-- or at each term of the list
pub signed-factor : (sign : Sign) (k : ℤ) (h : ℕ) (xs : List Term) → signed sign k *ℤ coefficient h xs ≡ k *ℤ coefficient h (scaled (signed sign) xs)
signed-factor sign k h xs = signed-mul sign k (coefficient h xs) ∙ ap (λ (z : ℤ). k *ℤ z) (sym (coefficient-signed sign h xs))

-- brackets that are looked up in small tables have a size of at most 2 ^ 40
pub sizes-looked_up : (n : ℕ) (sign : Sign) (m : BTreeMap (ℕ × ℕ) (List Term)) → AreSmall n m → (a b : ℕ) → sizes (looked_up sign m a b) ≤ 2 ^ 40
sizes-looked_up n sign m small a b =
    cond_both (ltb a b) (stored m a b) (cond (ltb b a) (scaled (signed sign) (stored m b a)) []) (λ (xs : List Term). sizes xs ≤ 2 ^ 40) (λ e. (small a b).1)
    (λ e. cond_both (ltb b a) (scaled (signed sign) (stored m b a)) [] (λ (xs : List Term). sizes xs ≤ 2 ^ 40) (λ d. omega (arith, sizes-signed sign (stored m b a), (small b a).1)) (λ d. omega arith))

-- ---- one term more at its number
coefficient-next : (h : ℕ) (ts : List Term) (i : ℕ) → i < length ts → coefficient h (take (i + 1) ts) ≡ coefficient h (take i ts) +ℤ cond (eqb (term_at ts i).number h) (term_at ts i).factor (pos 0)
coefficient-next h [] i lt = absurd (omega arith)
coefficient-next h (t ∷ ts) zero lt = omega (arith, ints)
coefficient-next h (t ∷ ts) (suc i) lt = let one : suc i + 1 ≡ suc (i + 1) = omega arith in ap (λ (n : ℕ). coefficient h (take n (t ∷ ts))) one ∙ omega (arith, ints, coefficient-next h ts i (omega arith))

-- what the sum is so far
abbrev pub SumSoFar : List ℤ → List ℤ → ℤ → List Term → ℕ → Type 0
SumSoFar old sum k ts i = (h : ℕ) → h < length sum → get_or sum h (pos 0) ≡ get_or old h (pos 0) +ℤ (k *ℤ coefficient (suc h) (take i ts))

-- k times the terms can be added to what stands at each number, whatever their signs, without leaving the range of a coefficient
abbrev pub Room : List ℤ → ℤ → List Term → Type 0
Room old k ts = (h : ℕ) → h < length old → unsigned_abs (get_or old h (pos 0)) + unsigned_abs k * size_at (suc h) ts ≤ limit

-- one term of a multiple is at most as large as all of them
pub abs-part : (k : ℤ) (ts : List Term) (i : ℕ) → i < length ts → unsigned_abs (k *ℤ (term_at ts i).factor) ≤ unsigned_abs k * sizes ts
abs-part k ts i lt =
    let f : ℕ = unsigned_abs (term_at ts i).factor in
    omega (arith, unsigned_abs-mul k (term_at ts i).factor, mul-le-mul_left (unsigned_abs k) (let le : f ≤ sizes ts = omega (arith, sizes-next ts i lt, sizes-part ts (i + 1)) in le))

-- and as all of its number together
pub abs-part_at : (k : ℤ) (ts : List Term) (i h : ℕ) → i < length ts → (term_at ts i).number ≡ h → unsigned_abs (k *ℤ (term_at ts i).factor) ≤ unsigned_abs k * size_at h ts
abs-part_at k ts i h lt here =
    let f : ℕ = unsigned_abs (term_at ts i).factor in
    omega (arith, unsigned_abs-mul k (term_at ts i).factor, mul-le-mul_left (unsigned_abs k) (let le : f ≤ size_at h ts = omega (arith, size_at-here h ts i lt here) in le))

-- after one term more the sum at its number is within the range
pub abs-next : (old sum : List ℤ) (k : ℤ) (ts : List Term) (i at : ℕ) → i < length ts → (term_at ts i).number ≡ suc at → at < length sum → length sum ≡ length old → Room old k ts → SumSoFar old sum k ts i
    → unsigned_abs (get_or sum at (pos 0) +ℤ (k *ℤ (term_at ts i).factor)) ≤ limit
abs-next old sum k ts i at lt here within same room so_far =
    let f : ℕ = unsigned_abs (term_at ts i).factor in
    let a : ℕ = unsigned_abs k in
    let c : ℤ = coefficient (suc at) (take i ts) in
    let part : a * unsigned_abs c ≤ a * size_at (suc at) (take i ts) = mul-le-mul_left a (abs-coefficient_at (suc at) (take i ts)) in
    let whole : a * (size_at (suc at) (take i ts) + f) ≤ a * size_at (suc at) ts = mul-le-mul_left a (size_at-here (suc at) ts i lt here) in
    omega (
      arith,
      abs-add (get_or sum at (pos 0)) (k *ℤ (term_at ts i).factor),
      abs-add (get_or old at (pos 0)) (k *ℤ c),
      ap unsigned_abs (so_far at within),
      unsigned_abs-mul k (term_at ts i).factor,
      unsigned_abs-mul k c,
      part,
      whole,
      room at (omega arith),
    )

-- after one term more the sum is that of i + 1 terms
pub sum-next : (old sum : List ℤ) (k v : ℤ) (ts : List Term) (i at : ℕ) → i < length ts → at + 1 ≡ (term_at ts i).number → at < length sum → v ≡ get_or sum at (pos 0) +ℤ (k *ℤ (term_at ts i).factor) → SumSoFar old sum k ts i
    → SumSoFar old (set sum at v) k ts (i + 1)
sum-next old sum k v ts i at lt number within ev so_far h hl =
    let hs : h < length sum = omega (arith, hl, length-set sum at v) in
    let f : ℤ = (term_at ts i).factor in
    let n : ℕ = (term_at ts i).number in
    let c : ℤ = coefficient (suc h) (take i ts) in
    let step : coefficient (suc h) (take (i + 1) ts) ≡ c +ℤ cond (eqb n (suc h)) f (pos 0) = coefficient-next (suc h) ts i lt in
    elim (cases_eq h at) [
      | inl e ↦
          let now : coefficient (suc h) (take (i + 1) ts) ≡ c +ℤ f = step ∙ ap (λ (b : Bool). c +ℤ cond b f (pos 0)) (eq-eqb n (suc h) (omega arith)) in
          let value : get_or (set sum at v) h (pos 0) ≡ v = ap (λ (j : ℕ). get_or (set sum at v) j (pos 0)) e ∙ get_or-set_same sum at v (pos 0) within in
          let here : get_or sum at (pos 0) ≡ get_or old h (pos 0) +ℤ (k *ℤ c) = ap (λ (j : ℕ). get_or sum j (pos 0)) (sym e) ∙ so_far h hs in
          omega (arith, ints, value, ev, here, ap (λ (z : ℤ). k *ℤ z) now, mul-add_ℤ k c f)
      | inr ne ↦
          let now : coefficient (suc h) (take (i + 1) ts) ≡ c = step ∙ ap (λ (b : Bool). c +ℤ cond b f (pos 0)) (ne_eqb n (suc h) (λ s. ne (omega arith))) ∙ omega (arith, ints) in
          get_or-set_other sum at h v (pos 0) ne ∙ so_far h hs ∙ ap (λ (z : ℤ). get_or old h (pos 0) +ℤ (k *ℤ z)) (sym now)
    ]

-- ---- one bracket more
over-next : (f : ℕ → List Term) (h : ℕ) (ts : List Term) (i : ℕ) → i < length ts → coefficient h (over_terms (take (i + 1) ts) f) ≡ coefficient h (over_terms (take i ts) f) +ℤ ((term_at ts i).factor *ℤ coefficient h (f (term_at ts i).number))
over-next f h [] i lt = absurd (omega arith)
over-next f h (t ∷ ts) zero lt = coefficient-append h (scaled (λ k. t.factor *ℤ k) (f t.number)) [] ∙ omega (arith, ints, coefficient-mul h t.factor (f t.number))
over-next f h (t ∷ ts) (suc i) lt =
    let one : suc i + 1 ≡ suc (i + 1) = omega arith in
    ap (λ (n : ℕ). coefficient h (over_terms (take n (t ∷ ts)) f)) one
    ∙ omega (
      arith,
      ints,
      over-next f h ts i (omega arith),
      coefficient-append h (scaled (λ k. t.factor *ℤ k) (f t.number)) (over_terms (take (i + 1) ts) f),
      coefficient-append h (scaled (λ k. t.factor *ℤ k) (f t.number)) (over_terms (take i ts) f),
    )

-- what is added so far
abbrev pub OverSoFar : List ℤ → List ℤ → ℤ → (ℕ → List Term) → List Term → ℕ → Type 0
OverSoFar old sum k f ts i = (h : ℕ) → h < length sum → get_or sum h (pos 0) ≡ get_or old h (pos 0) +ℤ (k *ℤ coefficient (suc h) (over_terms (take i ts) f))

-- there is room for brackets of this size at most
abbrev pub OverRoom : ℕ → List ℤ → ℤ → List Term → Type 0
OverRoom bound old k ts = (h : ℕ) → h < length old → unsigned_abs (get_or old h (pos 0)) + unsigned_abs k * sizes ts * bound ≤ limit

-- there is room for the bracket of one more term
pub over-room : (bound : ℕ) (old sum : List ℤ) (k p : ℤ) (f : ℕ → List Term) (ts : List Term) (i : ℕ) → ((c : ℕ) → sizes (f c) ≤ bound) → i < length ts → length sum ≡ length old → OverRoom bound old k ts → OverSoFar old sum k f ts i
    → p ≡ k *ℤ (term_at ts i).factor → (h : ℕ) → h < length sum → unsigned_abs (get_or sum h (pos 0)) + unsigned_abs p * bound ≤ limit
over-room bound old sum k p f ts i small lt same room so_far ep h within =
    let g : ℕ = unsigned_abs (term_at ts i).factor in
    let a : ℕ = unsigned_abs k in
    let c : ℤ = coefficient (suc h) (over_terms (take i ts) f) in
    let part : a * unsigned_abs c ≤ a * (sizes (take i ts) * bound) = mul-le-mul_left a (le_trans (abs-coefficient (suc h) (over_terms (take i ts) f)) (sizes-over bound f (take i ts) small)) in
    let whole : a * (sizes (take i ts) + g) * bound ≤ a * sizes ts * bound =
    mul-le-mul_right bound (mul-le-mul_left a (let le : sizes (take i ts) + g ≤ sizes ts = omega (arith, sizes-next ts i lt, sizes-part ts (i + 1)) in le)) in
    let size : unsigned_abs p ≡ a * g = ap unsigned_abs ep ∙ unsigned_abs-mul k (term_at ts i).factor in
    omega (
      arith,
      abs-add (get_or old h (pos 0)) (k *ℤ c),
      ap unsigned_abs (so_far h within),
      ap (λ (n : ℕ). n * bound) size,
      unsigned_abs-mul k c,
      part,
      whole,
      room h (omega arith),
    )

-- one bracket more is added
pub over-more : (old sum new : List ℤ) (k p : ℤ) (f : ℕ → List Term) (ts : List Term) (i : ℕ) → i < length ts → length new ≡ length sum → OverSoFar old sum k f ts i → p ≡ k *ℤ (term_at ts i).factor
    → ((h : ℕ) → h < length new → get_or new h (pos 0) ≡ get_or sum h (pos 0) +ℤ (p *ℤ coefficient (suc h) (f (term_at ts i).number))) → OverSoFar old new k f ts (i + 1)
over-more old sum new k p f ts i lt same so_far ep step h within =
    let g : ℤ = (term_at ts i).factor in
    let c : ℤ = coefficient (suc h) (over_terms (take i ts) f) in
    let d : ℤ = coefficient (suc h) (f (term_at ts i).number) in
    omega (
      arith,
      ints,
      step h within,
      so_far h (omega arith),
      ap (λ (z : ℤ). z *ℤ d) ep ∙ mul_assoc_ℤ k g d,
      ap (λ (z : ℤ). k *ℤ z) (over-next f (suc h) ts i lt) ∙ mul-add_ℤ k c (g *ℤ d),
    )

-- ---- sums over terms by their factors
-- two sums have the same factor of h where their summands have
pub over-same : (h : ℕ) (f g : ℕ → List Term) (xs : List Term) → All (λ t. coefficient h (f t.number) ≡ coefficient h (g t.number)) xs → coefficient h (over_terms xs f) ≡ coefficient h (over_terms xs g)
over-same h f g [] same = refl
over-same h f g (t ∷ xs) same =
    coefficient-append h (scaled (λ k. t.factor *ℤ k) (f t.number)) (over_terms xs f)
    ∙ ap₂ ◌+ℤ◌
    (coefficient-mul h t.factor (f t.number)
    ∙ ap (λ (z : ℤ). t.factor *ℤ z) (All-head (λ x. coefficient h (f x.number) ≡ coefficient h (g x.number)) t xs same)
    ∙ sym (coefficient-mul h t.factor (g t.number)))
    (over-same h f g xs (All-tail (λ x. coefficient h (f x.number) ≡ coefficient h (g x.number)) t xs same))
    ∙ sym (coefficient-append h (scaled (λ k. t.factor *ℤ k) (g t.number)) (over_terms xs g))

over-empty : (h : ℕ) (xs : List Term) → coefficient h (over_terms xs (λ c. [])) ≡ pos 0
over-empty h [] = refl
over-empty h (t ∷ xs) = over-empty h xs

-- a sum has no h where none of its summands has
pub over-nothing : (h : ℕ) (f : ℕ → List Term) (xs : List Term) → All (λ t. coefficient h (f t.number) ≡ pos 0) xs → coefficient h (over_terms xs f) ≡ pos 0
over-nothing h f xs none = over-same h f (λ c. []) xs none ∙ over-empty h xs

-- a number that no term has
pub coefficient-outside : (n h : ℕ) (ts : List Term) → Numbers n ts → (1 ≤ h → h ≤ n → ⊥) → coefficient h ts ≡ pos 0
coefficient-outside n h [] all outside = refl
coefficient-outside n h (t ∷ ts) all outside =
    let here : (1 ≤ t.number) × (t.number ≤ n) = All-head (λ x. (1 ≤ x.number) × (x.number ≤ n)) t ts all in
    ap₂ (λ (b : Bool) (z : ℤ). cond b t.factor (pos 0) +ℤ z)
    (ne_eqb t.number h (λ e. outside (omega (arith, here.0)) (omega (arith, here.1))))
    (coefficient-outside n h ts (All-tail (λ x. (1 ≤ x.number) × (x.number ≤ n)) t ts all) outside)

-- ---- the bracket of two sums, added to zeros
-- there is room from the start, where the sizes of both elements times 2 ^ 40 are within the range
pub zero-room : (old : List ℤ) (left right : List Term) → ((h : ℕ) → h < length old → get_or old h (pos 0) ≡ pos 0) → sizes left * sizes right * 2 ^ 40 ≤ limit → OverRoom (sizes left * 2 ^ 40) old (pos 1) right
zero-room old left right zeros room h within = omega (arith, ap unsigned_abs (zeros h within), room)

-- the sums on the way are within the range
pub over-within : (bound : ℕ) (old sum : List ℤ) (f : ℕ → List Term) (ts : List Term) (i : ℕ) → ((c : ℕ) → sizes (f c) ≤ bound) → length sum ≡ length old → OverRoom bound old (pos 1) ts → OverSoFar old sum (pos 1) f ts i
    → (h : ℕ) → h < length sum → unsigned_abs (get_or sum h (pos 0)) ≤ limit
over-within bound old sum f ts i small same room so_far h within =
    let c : ℤ = coefficient (suc h) (over_terms (take i ts) f) in
    let part : unsigned_abs c ≤ sizes (take i ts) * bound = le_trans (abs-coefficient (suc h) (over_terms (take i ts) f)) (sizes-over bound f (take i ts) small) in
    omega (
      arith,
      abs-add (get_or old h (pos 0)) (pos 1 *ℤ c),
      ap unsigned_abs (so_far h within),
      ap unsigned_abs (one-mul_ℤ c),
      part,
      mul-le-mul_right bound (sizes-part ts i),
      room h (omega arith),
    )

-- a sum is at most what stood there and the terms' sizes times the bound
pub over-bound : (bound : ℕ) (old sum : List ℤ) (f : ℕ → List Term) (ts : List Term) (i : ℕ) → ((c : ℕ) → sizes (f c) ≤ bound) → OverSoFar old sum (pos 1) f ts i
    → (h : ℕ) → h < length sum → unsigned_abs (get_or sum h (pos 0)) ≤ unsigned_abs (get_or old h (pos 0)) + sizes ts * bound
over-bound bound old sum f ts i small so_far h within =
    let c : ℤ = coefficient (suc h) (over_terms (take i ts) f) in
    let part : unsigned_abs c ≤ sizes (take i ts) * bound = le_trans (abs-coefficient (suc h) (over_terms (take i ts) f)) (sizes-over bound f (take i ts) small) in
    omega (arith, abs-add (get_or old h (pos 0)) (pos 1 *ℤ c), ap unsigned_abs (so_far h within), ap unsigned_abs (one-mul_ℤ c), part, mul-le-mul_right bound (sizes-part ts i))

-- the sizes of one element times a factor of the other are within the range
pub factor-range : (left right : List Term) (i : ℕ) → i < length right → sizes left * sizes right * 2 ^ 40 ≤ limit → unsigned_abs (term_at right i).factor * sizes left ≤ limit
factor-range left right i lt room =
    let f : ℕ = unsigned_abs (term_at right i).factor in
    omega (arith, mul-le-mul_right (sizes left) (let le : f ≤ sizes right = omega (arith, sizes-next right i lt, sizes-part right (i + 1)) in le), room)
