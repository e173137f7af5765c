-- One entry of a table of brackets, from the earlier ones.
use Rattle.std.proofs.Common.{◌≡◌, inl, inr, ℕ, zero, suc, ◌+◌, ◌-◌, ◌*◌, ◌<◌, ◌≤◌, ◌^◌, refl, sym, ap, ap₂, ◌∙◌, subst, arith, ℤ, pos, neg_ℤ, ◌+ℤ◌, ◌*ℤ◌, unsigned_abs, List, [], ◌∷◌, length, get_or, set, cond, eqb, get_or-set_same, get_or-set_other}
use Rattle.std.specs.Prelude.{All, Bool}
use Rattle.std.specs.BTreeMap.{BTreeMap}
use Rattle.std.proofs.Math.Nat.{le_trans}
use Rattle.std.proofs.lemmas.Int.{ints}
use Rattle.std.proofs.lemmas.Bool.{cases_eq, cases_order, cases_lt, eq-eqb, ne_eqb}
use Rattle.std.proofs.lemmas.List.Elements.{All-head, All-tail, All-weaker}
use Rattle.definitions.specs.Words.{Extent, IsShape}
use Rattle.definitions.specs.Signature.{limit}
use Rattle.definitions.proofs.Integers.{zero-mul_ℤ, one-mul_ℤ, abs-add}
use Rattle.definitions.proofs.SumLaws.{sum_below-same}
use Rattle.definitions.specs.Hall.{InHall, member, degree, degree_of, number_of, hall_list}
use Rattle.definitions.specs.declared.member.Member.{Member}
use Rattle.definitions.specs.declared.member.Member.TheVariants.{Letter, Pair}
use Rattle.hall_set.proofs.GrownLists.{IsHall, IsPairOf, IsLate, hall_list-IsHall}
use Rattle.lie_bracket.specs.declared.term.Term.{Term}
use Rattle.lie_bracket.specs.declared.sign.Sign.{Sign}
use Rattle.lie_bracket.specs.declared.sign.Sign.TheVariants.{Minus, Plus}
use Rattle.lie_bracket.specs.Brackets.{scaled, over_terms, coefficient, bracket, majorant, enough, bracket_sums}
use Rattle.lie_bracket.specs.Tables.{nonzero}
use Rattle.lie_bracket.specs.Entries.{signed, sizes, Numbers, AreSmall, stored, looked_up, bracket_by, entry_of, IsPair, AreDone, IsTable}
use Rattle.lie_bracket.proofs.BracketTerms.{IsTermOf, bracket_within-terms}
use Rattle.lie_bracket.specs.Rewriting.{IsBracket}
use Rattle.lie_bracket.proofs.BracketEnds.{bracket-IsBracket, majorant-IsBracket}
use Rattle.lie_bracket.proofs.TermSums.{coefficient-append, coefficient-over}
use Rattle.lie_bracket.proofs.SumSteps.{coefficient-signed, abs-coefficient, sizes-over, sizes-looked_up, abs-signed, signed-mul, over-same, over-nothing, coefficient-outside}
use Rattle.lie_bracket.proofs.NonzeroLaws.{coefficient-nonzero, nonzero-Numbers, nonzero-same}
use Rattle.lie_bracket.proofs.EntryLaws.{looked_up-below, looked_up-above, looked_up-same}

-- ---- the bracket and the majorant alike
-- brackets and majorants meet the equations, with their sign
pub bracket_by-IsBracket : (sign : Sign) (depth : ℕ) (hall : List Member) → IsHall depth hall → IsBracket (signed sign) depth hall (bracket_by sign depth hall)
bracket_by-IsBracket Minus depth hall ok = bracket-IsBracket depth hall ok
bracket_by-IsBracket Plus depth hall ok = majorant-IsBracket depth hall ok

-- their terms are members of the degree of a and b together
pub bracket_by-terms : (sign : Sign) (depth : ℕ) (hall : List Member) → IsHall depth hall → (a b : ℕ) → InHall hall a → InHall hall b → All (IsTermOf hall (degree hall a + degree hall b)) (bracket_by sign depth hall a b)
unfolding bracket majorant
bracket_by-terms Minus depth hall ok a b ha hb = bracket_within-terms depth hall neg_ℤ ok (enough depth hall) a b ha hb
bracket_by-terms Plus depth hall ok a b ha hb = bracket_within-terms depth hall (λ k. k) ok (enough depth hall) a b ha hb

-- so their numbers are those of members
pub bracket_by-Numbers : (sign : Sign) (depth : ℕ) (hall : List Member) → IsHall depth hall → (a b : ℕ) → InHall hall a → InHall hall b → Numbers (length hall) (bracket_by sign depth hall a b)
bracket_by-Numbers sign depth hall ok a b ha hb =
    All-weaker (IsTermOf hall (degree hall a + degree hall b)) (λ t. (1 ≤ t.number) × (t.number ≤ length hall)) (λ t h. (h.inside.least, h.inside.most)) (bracket_by sign depth hall a b) (bracket_by-terms sign depth hall ok a b ha hb)

-- a member of another degree has the factor 0
pub coefficient-other : (h : ℕ) (hall : List Member) (k : ℕ) (ts : List Term) → All (IsTermOf hall k) ts → (degree hall h ≡ k → ⊥) → coefficient h ts ≡ pos 0
coefficient-other h hall k [] all ne = refl
coefficient-other h hall k (t ∷ ts) all ne =
    let first : IsTermOf hall k t = All-head (IsTermOf hall k) t ts all in
    ap₂ (λ (b : Bool) (z : ℤ). cond b t.factor (pos 0) +ℤ z)
    (ne_eqb t.number h (λ e. ne (ap (degree hall) (sym e) ∙ first.degree_is)))
    (coefficient-other h hall k ts (All-tail (IsTermOf hall k) t ts all) ne)

-- ---- what is looked up has the factors of the bracket
looked_up-factors : (sign : Sign) (depth : ℕ) (hall : List Member) → IsHall depth hall → (m : BTreeMap (ℕ × ℕ) (List Term)) (a b c d h : ℕ) → AreDone sign depth hall m a b → InHall hall c → InHall hall d
    → a < c → a < d → degree hall c + degree hall d ≡ degree hall a + degree hall b → degree hall a + degree hall b ≤ depth → 1 ≤ h → h ≤ length hall
    → coefficient h (looked_up sign m c d) ≡ coefficient h (bracket_by sign depth hall c d)
looked_up-factors sign depth hall ok m a b c d h done hc hd lc ld sum deep least most =
    let br : ℕ → ℕ → List Term = bracket_by sign depth hall in
    let rules' : IsBracket (signed sign) depth hall br = bracket_by-IsBracket sign depth hall ok in
    elim (cases_order c d) [
      | inl same ↦
          ap (λ (x : ℕ). coefficient h (looked_up sign m x d)) same
          ∙ ap (coefficient h) (looked_up-same sign m d)
          ∙ sym (ap (λ (x : ℕ). coefficient h (br x d)) same ∙ ap (coefficient h) (rules'.same d))
      | inr apart ↦ elim apart [
        | inl below ↦
            ap (coefficient h) (looked_up-below sign m c d below ∙ done c d (record { left = hc; right = hd; in_order = below; deep = omega arith }) (inr ((sum, inl lc))))
            ∙ coefficient-nonzero (length hall) (λ i. coefficient i (br c d)) h least most
        | inr above ↦
            ap (coefficient h)
            (looked_up-above sign m c d above
            ∙ ap (scaled (signed sign)) (done d c (record { left = hd; right = hc; in_order = above; deep = omega arith }) (inr ((omega arith, inl ld)))))
            ∙ coefficient-signed sign h (entry_of sign depth hall d c)
            ∙ ap (signed sign) (coefficient-nonzero (length hall) (λ i. coefficient i (br d c)) h least most)
            ∙ sym (ap (coefficient h) (rules'.swapped c d hc hd above (omega arith)) ∙ coefficient-signed sign h (br d c))
      ]
    ]

-- one side of the last case: xs has the factors of the bracket of a and x
side-factors : (sign : Sign) (depth : ℕ) (hall : List Member) → IsHall depth hall → (m : BTreeMap (ℕ × ℕ) (List Term)) (a b x y h : ℕ) → AreDone sign depth hall m a b → InHall hall a → InHall hall x → InHall hall y
    → a < x → a < y → 1 ≤ degree hall x → 1 ≤ degree hall y → degree hall x + degree hall y ≡ degree hall b → degree hall a + degree hall b ≤ depth → 1 ≤ h → h ≤ length hall
    → coefficient h (over_terms (stored m a x) (λ c. looked_up sign m c y)) ≡ coefficient h (over_terms (bracket_by sign depth hall a x) (λ c. bracket_by sign depth hall c y))
side-factors sign depth hall ok m a b x y h done ha hx hy lx ly dx dy sum deep least most =
    let n : ℕ = length hall in
    let br : ℕ → ℕ → List Term = bracket_by sign depth hall in
    let is : stored m a x ≡ entry_of sign depth hall a x = done a x (record { left = ha; right = hx; in_order = lx; deep = omega arith }) (inl (omega arith)) in
    let terms : All (IsTermOf hall (degree hall a + degree hall x)) (br a x) = bracket_by-terms sign depth hall ok a x ha hx in
    ap (λ (ts : List Term). coefficient h (over_terms ts (λ c. looked_up sign m c y))) is
    ∙ coefficient-over n h (entry_of sign depth hall a x) (λ c. looked_up sign m c y) (nonzero-Numbers n (λ i. coefficient i (br a x)))
    ∙ sum_below-same n (λ i. coefficient (suc i) (entry_of sign depth hall a x) *ℤ coefficient h (looked_up sign m (suc i) y)) (λ i. coefficient (suc i) (br a x) *ℤ coefficient h (br (suc i) y))
    (λ i lt.
    let inside : InHall hall (suc i) = record { least = omega arith; most = lt } in
    let first : coefficient (suc i) (entry_of sign depth hall a x) ≡ coefficient (suc i) (br a x) = coefficient-nonzero n (λ j. coefficient j (br a x)) (suc i) (omega arith) lt in
    elim (cases_eq (degree hall (suc i)) (degree hall a + degree hall x)) [
      | inl same ↦
          ap₂ ◌*ℤ◌ first
          (looked_up-factors sign depth hall ok m a b (suc i) y h done inside hy (ok.ranked a (suc i) ha inside (omega arith)) ly (omega arith) deep least most)
      | inr other ↦
          let none : coefficient (suc i) (br a x) ≡ pos 0 = coefficient-other (suc i) hall (degree hall a + degree hall x) (br a x) terms other in
          ap (λ (z : ℤ). z *ℤ coefficient h (looked_up sign m (suc i) y)) (first ∙ none)
          ∙ zero-mul_ℤ (coefficient h (looked_up sign m (suc i) y))
          ∙ sym (ap (λ (z : ℤ). z *ℤ coefficient h (br (suc i) y)) none ∙ zero-mul_ℤ (coefficient h (br (suc i) y)))
    ])
    ∙ sym (coefficient-over n h (br a x) (λ c. br c y) (bracket_by-Numbers sign depth hall ok a x ha hx))

-- the pair is not in the list
pub split-factors : (sign : Sign) (depth : ℕ) (hall : List Member) → IsHall depth hall → (m : BTreeMap (ℕ × ℕ) (List Term)) (a b n l r h : ℕ) → AreDone sign depth hall m a b → IsPair depth hall a b
    → number_of hall a b ≡ 0 → member hall b ≡ Pair n l r → 1 ≤ h → h ≤ length hall
    → coefficient h (over_terms (stored m a l) (λ c. looked_up sign m c r)) +ℤ signed sign (coefficient h (over_terms (stored m a r) (λ c. looked_up sign m c l))) ≡ coefficient h (bracket_by sign depth hall a b)
split-factors sign depth hall ok m a b n l r h done pair none em least most =
    let br : ℕ → ℕ → List Term = bracket_by sign depth hall in
    let rules' : IsBracket (signed sign) depth hall br = bracket_by-IsBracket sign depth hall ok in
    let p : IsPairOf hall b n l r = ok.pairs b n l r pair.right em in
    let late : a < l = subst (IsLate a) em (ok.complete a b pair.left pair.right pair.in_order pair.deep none) in
    let order : l < r = p.in_order in
    let dl : 1 ≤ degree hall l = ok.positive l p.left_in in
    let dr : 1 ≤ degree hall r = ok.positive r p.right_in in
    let sum : degree hall l + degree hall r ≡ degree hall b = sym (ap degree_of em ∙ p.sum) in
    ap₂ (λ (x y : ℤ). x +ℤ signed sign y)
    (side-factors sign depth hall ok m a b l r h done pair.left p.left_in p.right_in late (omega arith) dl dr sum pair.deep least most)
    (side-factors sign depth hall ok m a b r l h done pair.left p.right_in p.left_in (omega arith) late dr dl (omega arith) pair.deep least most)
    ∙ sym
    (ap (coefficient h) (rules'.split a b n l r pair.left pair.right pair.in_order pair.deep none em)
    ∙ coefficient-append h (over_terms (br a l) (λ c. br c r)) (scaled (signed sign) (over_terms (br a r) (λ c. br c l)))
    ∙ ap (λ (z : ℤ). coefficient h (over_terms (br a l) (λ c. br c r)) +ℤ z) (coefficient-signed sign h (over_terms (br a r) (λ c. br c l))))

-- the pair is in the list
pub found-factors : (sign : Sign) (depth : ℕ) (hall : List Member) → IsHall depth hall → (a b n h : ℕ) → IsPair depth hall a b → number_of hall a b ≡ suc n → coefficient h (bracket_by sign depth hall a b) ≡ cond (eqb (suc n) h) (pos 1) (pos 0)
found-factors sign depth hall ok a b n h pair e =
    ap (coefficient h) ((bracket_by-IsBracket sign depth hall ok).found a b n pair.left pair.right pair.in_order pair.deep e) ∙ omega (arith, ints)

-- a letter is right in no pair that isn't in the list
pub no-letter : (depth : ℕ) (hall : List Member) → IsHall depth hall → (a b : ℕ) → IsPair depth hall a b → number_of hall a b ≡ 0 → member hall b ≡ Letter → ⊥
no-letter depth hall ok a b pair none em = subst (IsLate a) em (ok.complete a b pair.left pair.right pair.in_order pair.deep none)

-- where there is a pair, the depth is not 0
pub pair-IsHall : (width depth a b : ℕ) → IsPair depth (hall_list width depth) a b → IsHall depth (hall_list width depth)
pair-IsHall width zero a b pair =
    let letters : IsHall 1 (hall_list width 0) = hall_list-IsHall width 1 (omega arith) in
    absurd (omega (arith, letters.positive a pair.left, pair.deep))
pair-IsHall width (suc n) a b pair = hall_list-IsHall width (suc n) (omega arith)

-- ---- the sums on the way
abs-over : (n : ℕ) (sign : Sign) (m : BTreeMap (ℕ × ℕ) (List Term)) → AreSmall n m → (a x y h : ℕ) → unsigned_abs (coefficient h (over_terms (stored m a x) (λ c. looked_up sign m c y))) ≤ 2 ^ 80
abs-over n sign m small a x y h =
    le_trans (abs-coefficient h (over_terms (stored m a x) (λ c. looked_up sign m c y)))
    (le_trans (sizes-over (2 ^ 40) (λ c. looked_up sign m c y) (stored m a x) (λ c. sizes-looked_up n sign m small c y))
    (let le : sizes (stored m a x) * 2 ^ 40 ≤ 2 ^ 80 = omega (arith, (small a x).1) in le))

-- the sum after the first side, and after both
pub record IsSplit (sign : Sign) (m : BTreeMap (ℕ × ℕ) (List Term)) (a l r i : ℕ) (first : ℤ) : Type 0 where
  -- the first side is the factor in the bracket of [a, l] with r
  pub value : first ≡ coefficient (suc i) (over_terms (stored m a l) (λ c. looked_up sign m c r))
  -- it has at most 80 bits
  pub within : unsigned_abs first ≤ 2 ^ 80

-- the first side, as it is added to nothing
pub first-side : (n : ℕ) (sign : Sign) (m : BTreeMap (ℕ × ℕ) (List Term)) → AreSmall n m → (a l r i : ℕ) (old first : ℤ) (xs : List Term) → old ≡ pos 0 → xs ≡ stored m a l
    → first ≡ old +ℤ (pos 1 *ℤ coefficient (suc i) (over_terms xs (λ c. looked_up sign m c r))) → IsSplit sign m a l r i first
first-side n sign m small a l r i old first xs none is e =
    let value : first ≡ coefficient (suc i) (over_terms (stored m a l) (λ c. looked_up sign m c r)) =
    e
    ∙ ap₂ (λ (x : ℤ) (ts : List Term). x +ℤ (pos 1 *ℤ coefficient (suc i) (over_terms ts (λ c. looked_up sign m c r)))) none is
    ∙ ap (λ (z : ℤ). pos 0 +ℤ z) (one-mul_ℤ (coefficient (suc i) (over_terms (stored m a l) (λ c. looked_up sign m c r))))
    ∙ omega (arith, ints) in
    record { value = value; within = omega (arith, ap unsigned_abs value, abs-over n sign m small a l r (suc i)) }

-- the sign as a factor has the absolute value 1
abs-sign : (sign : Sign) (k : ℤ) → k ≡ signed sign (pos 1) → unsigned_abs k ≡ 1
abs-sign sign k e = ap unsigned_abs e ∙ abs-signed sign (pos 1)

-- there is room for the second side
pub second-room : (n : ℕ) (sign : Sign) (m : BTreeMap (ℕ × ℕ) (List Term)) → AreSmall n m → (a l r i : ℕ) (first k : ℤ) (ys : List Term) → IsSplit sign m a l r i first → k ≡ signed sign (pos 1) → ys ≡ stored m a r
    → unsigned_abs first + unsigned_abs k * sizes ys * 2 ^ 40 ≤ limit
second-room n sign m small a l r i first k ys half ek is =
    omega (arith, half.within, ap (λ (x : ℕ). x * sizes ys * 2 ^ 40) (abs-sign sign k ek), ap sizes is, (small a r).1)

-- after both sides the sum is the factor of the bracket, and within the range
pub both-sides : (n : ℕ) (sign : Sign) (m : BTreeMap (ℕ × ℕ) (List Term)) → AreSmall n m → (a l r i : ℕ) (first second k : ℤ) (ys : List Term) → IsSplit sign m a l r i first → k ≡ signed sign (pos 1) → ys ≡ stored m a r
    → second ≡ first +ℤ (k *ℤ coefficient (suc i) (over_terms ys (λ c. looked_up sign m c l)))
    → (second ≡ coefficient (suc i) (over_terms (stored m a l) (λ c. looked_up sign m c r)) +ℤ signed sign (coefficient (suc i) (over_terms (stored m a r) (λ c. looked_up sign m c l)))) × (unsigned_abs second ≤ limit)
both-sides n sign m small a l r i first second k ys half ek is e =
    let d : ℤ = coefficient (suc i) (over_terms (stored m a r) (λ c. looked_up sign m c l)) in
    let added : k *ℤ coefficient (suc i) (over_terms ys (λ c. looked_up sign m c l)) ≡ signed sign d =
    ap₂ (λ (x : ℤ) (ts : List Term). x *ℤ coefficient (suc i) (over_terms ts (λ c. looked_up sign m c l))) ek is ∙ signed-mul sign (pos 1) d ∙ one-mul_ℤ (signed sign d) in (
      e ∙ ap₂ ◌+ℤ◌ half.value added,
      omega (arith, ap unsigned_abs (e ∙ ap (λ (z : ℤ). first +ℤ z) added), abs-add first (signed sign d), half.within, abs-signed sign d, abs-over n sign m small a r l (suc i)),
    )

-- the number of a pair that is in the list
pub found-value : (sign : Sign) (depth : ℕ) (hall : List Member) → IsHall depth hall → (a b n i : ℕ) (sum : List ℤ) → IsPair depth hall a b → InHall hall n → n ≡ number_of hall a b → length sum ≡ length hall
    → ((h : ℕ) → h < length sum → get_or sum h (pos 0) ≡ pos 0) → i < length sum → get_or (set sum (n - 1) (pos 1)) i (pos 0) ≡ coefficient (suc i) (bracket_by sign depth hall a b)
found-value sign depth hall ok a b n i sum pair inside e len zeros within =
    let is : number_of hall a b ≡ suc (n - 1) = omega (arith, inside.least, e) in
    let factor : coefficient (suc i) (bracket_by sign depth hall a b) ≡ cond (eqb (suc (n - 1)) (suc i)) (pos 1) (pos 0) = found-factors sign depth hall ok a b (n - 1) (suc i) pair is in
    elim (cases_eq i (n - 1)) [
      | inl here ↦
          ap (λ (j : ℕ). get_or (set sum (n - 1) (pos 1)) j (pos 0)) here
          ∙ get_or-set_same sum (n - 1) (pos 1) (pos 0) (omega (arith, inside.least, inside.most))
          ∙ sym (factor ∙ ap (λ (t : Bool). cond t (pos 1) (pos 0)) (eq-eqb (suc (n - 1)) (suc i) (omega arith)))
      | inr other ↦
          get_or-set_other sum (n - 1) i (pos 1) (pos 0) other
          ∙ zeros i within
          ∙ sym (factor ∙ ap (λ (t : Bool). cond t (pos 1) (pos 0)) (ne_eqb (suc (n - 1)) (suc i) (λ s. other (omega arith))))
    ]

-- ---- a whole table
-- brackets that are looked up in a whole table have the factors of the definition's
pub table-factors : (sign : Sign) (depth : ℕ) (hall : List Member) → IsHall depth hall → (m : BTreeMap (ℕ × ℕ) (List Term)) → IsTable sign depth hall m → (c d h : ℕ) → InHall hall c → InHall hall d → 1 ≤ h → h ≤ length hall
    → coefficient h (looked_up sign m c d) ≡ coefficient h (bracket_by sign depth hall c d)
table-factors sign depth hall ok m table c d h hc hd least most =
    let br : ℕ → ℕ → List Term = bracket_by sign depth hall in
    let rules' : IsBracket (signed sign) depth hall br = bracket_by-IsBracket sign depth hall ok in
    elim (cases_order c d) [
      | inl same ↦
          ap (λ (x : ℕ). coefficient h (looked_up sign m x d)) same
          ∙ ap (coefficient h) (looked_up-same sign m d)
          ∙ sym (ap (λ (x : ℕ). coefficient h (br x d)) same ∙ ap (coefficient h) (rules'.same d))
      | inr apart ↦ elim (cases_lt depth (degree hall c + degree hall d)) [
        | inl past ↦ elim apart [
          | inl below ↦ ap (coefficient h) (looked_up-below sign m c d below ∙ table.others c d (λ pair. omega (arith, pair.deep)) ∙ sym (rules'.deep c d past))
          | inr above ↦
              ap (coefficient h)
              (looked_up-above sign m c d above ∙ ap (scaled (signed sign)) (table.others d c (λ pair. omega (arith, pair.deep))) ∙ sym (rules'.deep c d past))
        ]
        | inr deep ↦ elim apart [
          | inl below ↦
              ap (coefficient h) (looked_up-below sign m c d below ∙ table.entries c d (record { left = hc; right = hd; in_order = below; deep = deep }))
              ∙ coefficient-nonzero (length hall) (λ i. coefficient i (br c d)) h least most
          | inr above ↦
              ap (coefficient h)
              (looked_up-above sign m c d above ∙ ap (scaled (signed sign)) (table.entries d c (record { left = hd; right = hc; in_order = above; deep = omega arith })))
              ∙ coefficient-signed sign h (entry_of sign depth hall d c)
              ∙ ap (signed sign) (coefficient-nonzero (length hall) (λ i. coefficient i (br d c)) h least most)
              ∙ sym (ap (coefficient h) (rules'.swapped c d hc hd above deep) ∙ coefficient-signed sign h (br d c))
        ]
      ]
    ]

-- a sum of brackets by what is looked up
pub table-over : (sign : Sign) (depth : ℕ) (hall : List Member) → IsHall depth hall → (m : BTreeMap (ℕ × ℕ) (List Term)) → IsTable sign depth hall m → (a h : ℕ) (xs : List Term) → InHall hall a → All (λ t. InHall hall t.number) xs
    → 1 ≤ h → h ≤ length hall → coefficient h (over_terms xs (looked_up sign m a)) ≡ coefficient h (over_terms xs (bracket_by sign depth hall a))
table-over sign depth hall ok m table a h xs ha hx least most =
    over-same h (looked_up sign m a) (bracket_by sign depth hall a) xs
    (All-weaker (λ t. InHall hall t.number) (λ t. coefficient h (looked_up sign m a t.number) ≡ coefficient h (bracket_by sign depth hall a t.number))
    (λ t ht. table-factors sign depth hall ok m table a t.number h ha ht least most) xs hx)

-- the bracket of two sums by what is looked up, at the numbers of members and at others
pub sums-factors : (sign : Sign) (depth : ℕ) (hall : List Member) → IsHall depth hall → (m : BTreeMap (ℕ × ℕ) (List Term)) → IsTable sign depth hall m → (xs ys : List Term) → All (λ t. InHall hall t.number) xs → All (λ t. InHall hall t.number) ys → (h : ℕ)
    → 1 ≤ h → h ≤ length hall → coefficient h (bracket_sums (looked_up sign m) xs ys) ≡ coefficient h (bracket_sums (bracket_by sign depth hall) xs ys)
sums-factors sign depth hall ok m table xs ys hx hy h least most =
    over-same h (λ b. over_terms xs (λ a. looked_up sign m a b)) (λ b. over_terms xs (λ a. bracket_by sign depth hall a b)) ys
    (All-weaker (λ t. InHall hall t.number) (λ t. coefficient h (over_terms xs (λ a. looked_up sign m a t.number)) ≡ coefficient h (over_terms xs (λ a. bracket_by sign depth hall a t.number)))
    (λ t ht.
    over-same h (λ a. looked_up sign m a t.number) (λ a. bracket_by sign depth hall a t.number) xs
    (All-weaker (λ u. InHall hall u.number) (λ u. coefficient h (looked_up sign m u.number t.number) ≡ coefficient h (bracket_by sign depth hall u.number t.number))
    (λ u hu. table-factors sign depth hall ok m table u.number t.number h hu ht least most) xs hx))
    ys hy)

-- a bracket of two sums has no number but those of members
pub sums-outside : (sign : Sign) (depth : ℕ) (hall : List Member) → IsHall depth hall → (xs ys : List Term) → All (λ t. InHall hall t.number) xs → All (λ t. InHall hall t.number) ys → (h : ℕ) → (1 ≤ h → h ≤ length hall → ⊥)
    → coefficient h (bracket_sums (bracket_by sign depth hall) xs ys) ≡ pos 0
sums-outside sign depth hall ok xs ys hx hy h outside =
    over-nothing h (λ b. over_terms xs (λ a. bracket_by sign depth hall a b)) ys
    (All-weaker (λ t. InHall hall t.number) (λ t. coefficient h (over_terms xs (λ a. bracket_by sign depth hall a t.number)) ≡ pos 0)
    (λ t ht.
    over-nothing h (λ a. bracket_by sign depth hall a t.number) xs
    (All-weaker (λ u. InHall hall u.number) (λ u. coefficient h (bracket_by sign depth hall u.number t.number) ≡ pos 0)
    (λ u hu. coefficient-outside (length hall) h (bracket_by sign depth hall u.number t.number) (bracket_by-Numbers sign depth hall ok u.number t.number hu ht) outside) xs hx))
    ys hy)

-- the list of the sums that aren't 0
pub sums-list : (n : ℕ) (ts : List Term) (sum : List ℤ) → length sum ≡ n → ((i : ℕ) → i < length sum → get_or sum i (pos 0) ≡ coefficient (suc i) ts) → nonzero (length sum) (λ h. get_or sum (h - 1) (pos 0)) ≡ nonzero n (λ h. coefficient h ts)
sums-list n ts sum len value =
    nonzero-same (length sum) (λ h. get_or sum (h - 1) (pos 0)) (λ h. coefficient h ts)
    (λ h least most. value (h - 1) (omega arith) ∙ (let e : suc (h - 1) ≡ h = omega arith in ap (λ (i : ℕ). coefficient i ts) e))
    ∙ ap (λ (k : ℕ). nonzero k (λ h. coefficient h ts)) len

-- the element of what is looked up has the factors of the bracket
pub bracket-element : (sign : Sign) (depth : ℕ) (hall : List Member) → IsHall depth hall → (m : BTreeMap (ℕ × ℕ) (List Term)) → IsTable sign depth hall m → (xs ys : List Term) → All (λ t. InHall hall t.number) xs → All (λ t. InHall hall t.number) ys
    → (z : List Term) → z ≡ nonzero (length hall) (λ h. coefficient h (bracket_sums (looked_up sign m) xs ys))
    → ((h : ℕ) → coefficient h z ≡ coefficient h (bracket_sums (bracket_by sign depth hall) xs ys)) × All (λ t. InHall hall t.number) z
bracket-element sign depth hall ok m table xs ys hx hy z is =
    let n : ℕ = length hall in
    let f : ℕ → ℤ = λ h. coefficient h (bracket_sums (looked_up sign m) xs ys) in
    let numbers : Numbers n z = subst (Numbers n) (sym is) (nonzero-Numbers n f) in
    let outside : (h : ℕ) → (1 ≤ h → h ≤ n → ⊥) → coefficient h z ≡ coefficient h (bracket_sums (bracket_by sign depth hall) xs ys) =
    λ h past. coefficient-outside n h z numbers past ∙ sym (sums-outside sign depth hall ok xs ys hx hy h past) in (
      λ h.
          elim (cases_lt n h) [
            | inl past ↦ outside h (λ least most. omega arith)
            | inr most ↦ elim (cases_eq h 0) [
              | inl none ↦ outside h (λ least most'. omega arith)
              | inr some ↦ ap (coefficient h) is ∙ coefficient-nonzero n f h (omega arith) most ∙ sums-factors sign depth hall ok m table xs ys hx hy h (omega arith) most
            ]
          ],
      All-weaker (λ t. (1 ≤ t.number) × (t.number ≤ n)) (λ t. InHall hall t.number) (λ t h. record { least = h.0; most = h.1 }) z numbers,
    )

-- the same of a table whose extent is known by another name
pub table-element : (sign : Sign) (from extent : Extent) → from ≡ extent → IsShape from → (len : ℕ) → len ≡ length (hall_list from.width from.depth) → (m : BTreeMap (ℕ × ℕ) (List Term)) → IsTable sign from.depth (hall_list from.width from.depth) m
    → (xs ys : List Term) → All (λ t. InHall (hall_list extent.width extent.depth) t.number) xs → All (λ t. InHall (hall_list extent.width extent.depth) t.number) ys
    → (z : List Term) → z ≡ nonzero len (λ h. coefficient h (bracket_sums (looked_up sign m) xs ys))
    → ((h : ℕ) → coefficient h z ≡ coefficient h (bracket_sums (bracket_by sign extent.depth (hall_list extent.width extent.depth)) xs ys)) × All (λ t. InHall (hall_list extent.width extent.depth) t.number) z
table-element sign from extent same shape len el m table xs ys hx hy z is =
    let hall : List Member = hall_list extent.width extent.depth in
    bracket-element sign extent.depth hall (hall_list-IsHall extent.width extent.depth (subst IsShape same shape).some_depth) m (subst (λ (e : Extent). IsTable sign e.depth (hall_list e.width e.depth) m) same table) xs ys hx hy z
    (is ∙ ap (λ (n : ℕ). nonzero n (λ h. coefficient h (bracket_sums (looked_up sign m) xs ys))) (el ∙ ap (λ (e : Extent). length (hall_list e.width e.depth)) same))
