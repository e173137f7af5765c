-- The growth of a degree by sums over words, one letter more at a time.
use Rattle.std.proofs.Common.{◌≡◌, ◌≢◌, inl, inr, ℕ, zero, suc, ◌+◌, ◌-◌, ◌≤◌, ◌<◌, ◌^◌, refl, sym, ap, ap₂, ◌∙◌, subst, arith, ℤ, pos, ◌*ℤ◌, unsigned_abs, List, [], ◌∷◌, ◌++◌, length, length-set, get_or, get_or-set_same, get_or-set_other, set, cond, max, eqb}
use Rattle.std.specs.Prelude.{All, Bool}
use Rattle.std.proofs.Math.Nat.{le_trans, mul-le-mul_right}
use Rattle.std.proofs.Math.IntN.{*ℤ_comm}
use Rattle.std.proofs.lemmas.Bool.{cases_Bool, cases_eq, eq-eqb, ne_eqb}
use Rattle.definitions.specs.Words.{Extent, IsShape, IsLetter}
use Rattle.definitions.specs.Sums.{sum_below, count_below}
use Rattle.definitions.specs.Commutators.{sum_words}
use Rattle.definitions.proofs.Integers.{zero-mul_ℤ}
use Rattle.definitions.proofs.SumLaws.{sum_below-same, count_below-le}
use Rattle.shuffle.proofs.DualLaws.{sum_words-same, sum_words-mul}
use Rattle.definitions.specs.Hall.{InHall, degree}
use Rattle.definitions.specs.declared.member.Member.{Member}
use Rattle.hall_set.proofs.GrownLists.{hall_list-IsHall}
use Rattle.hall_set.proofs.Sizes.{hall_list-short}
use Rattle.lie_bracket.specs.declared.term.Term.{Term}
use Rattle.lie_bracket.specs.Brackets.{term, over_terms, coefficient, bracket, majorant}
use Rattle.lie_bracket.specs.Elements.{top}
use Rattle.lie_bracket.specs.Entries.{sizes}
use Rattle.lie_bracket.specs.Tables.{is_zero, nonzero}
use Rattle.lie_bracket.proofs.BracketTerms.{IsTermOf, terms-scaled}
use Rattle.lie_bracket.proofs.TermSums.{coefficient-over}
use Rattle.lie_bracket.proofs.Masses.{size, majorant-size}
use Rattle.lie_bracket.proofs.NonzeroLaws.{is_zero-true, coefficient-nonzero, nonzero-Numbers, sizes-nonzero}
use Rattle.dynkin_map.specs.Coordinates.{image, greatest_member, growth}
use Rattle.dynkin_map.specs.Table.{growth_of, majorant_sum, majorant_sum_with}
use Rattle.lie_bracket.proofs.TableSteps.{coefficient-other}
use Rattle.dynkin_map.proofs.CoordinateLaws.{image-terms, sum_words-same_letters, exchange_words}
use Rattle.dynkin_map.proofs.Letters.{hall_list-HasLetters}
use Rattle.dynkin_map.proofs.GrowthBounds.{image-size, le-greatest_member}
use Rattle.dynkin_map.proofs.CoordinateSteps.{members_of}
use Rattle.dynkin_map.proofs.LongerWords.{image-longer, terms-Numbers, count_below-all}

-- the majorants of the members of a shape
abbrev pub majorants_of : Extent → ℕ → ℕ → List Term
majorants_of extent = majorant extent.depth (members_of extent)

majorant-terms : (extent : Extent) (u : List ℕ) → 1 ≤ extent.depth → All (IsLetter extent.width) u → All (IsTermOf (members_of extent) (length u)) (image (majorants_of extent) u)
majorant-terms extent u deep letters =
    let hall : List Member = members_of extent in
    subst (λ (ts : List Term). All (IsTermOf hall (length u)) ts) (sym (image-size (majorants_of extent) (bracket extent.depth hall) (majorant-size extent.depth hall) u))
    (terms-scaled hall (length u) size (image (bracket extent.depth hall) u)
    (image-terms extent.width extent.depth hall (hall_list-IsHall extent.width extent.depth deep) (hall_list-HasLetters extent.width extent.depth) u letters))

-- the majorants with the sum over words are the sum over words of one letter more
pub next-sum : (extent : Extent) (k a h : ℕ) → 1 ≤ extent.depth → 1 ≤ k
    → coefficient h (over_terms (nonzero (length (members_of extent)) (majorant_sum extent k)) (majorants_of extent a)) ≡ majorant_sum_with extent k a h
next-sum extent k a h deep some =
    let n : ℕ = length (members_of extent) in
    let br : ℕ → ℕ → List Term = majorants_of extent in
    let m : ℕ → ℤ = λ i. coefficient h (br a (suc i)) in
    coefficient-over n h (nonzero n (majorant_sum extent k)) (br a) (nonzero-Numbers n (majorant_sum extent k))
    ∙ sum_below-same n (λ i. coefficient (suc i) (nonzero n (majorant_sum extent k)) *ℤ m i) (λ i. sum_words extent.width k (λ u. coefficient (suc i) (image br u) *ℤ m i))
    (λ i lt.
    ap (λ (z : ℤ). z *ℤ m i) (coefficient-nonzero n (majorant_sum extent k) (suc i) (omega arith) lt)
    ∙ *ℤ_comm (majorant_sum extent k (suc i)) (m i)
    ∙ sym (sum_words-mul extent.width k (m i) (λ u. coefficient (suc i) (image br u)))
    ∙ sum_words-same extent.width k (λ u. m i *ℤ coefficient (suc i) (image br u)) (λ u. coefficient (suc i) (image br u) *ℤ m i) (λ u len. *ℤ_comm (m i) (coefficient (suc i) (image br u))))
    ∙ exchange_words n extent.width k (λ i u. coefficient (suc i) (image br u) *ℤ m i)
    ∙ sum_words-same_letters extent.width k (λ u. sum_below n (λ i. coefficient (suc i) (image br u) *ℤ m i)) (λ u. coefficient h (image br (a ∷ u)))
    (λ u len letters.
    sym (coefficient-over n h (image br u) (br a) (terms-Numbers (members_of extent) (length u) (image br u) (majorant-terms extent u deep letters)))
    ∙ sym (ap (coefficient h) (image-longer br a u (omega (arith, len)))))

-- ---- the greatest factor
top-append : (xs ys : List Term) → top (xs ++ ys) ≡ max (top xs) (top ys)
top-append [] ys = omega arith
top-append (t ∷ xs) ys = omega (arith, top-append xs ys)

-- the greatest factor of one term that stands where it isn't 0
last-top : (z : ℤ) (n : ℕ) → top (cond (is_zero z) [] (term z n ∷ [])) ≡ unsigned_abs z
last-top z n =
    elim (cases_Bool (is_zero z)) [
      | inl none ↦ ap (λ (b : Bool). top (cond b [] (term z n ∷ []))) none ∙ sym (ap unsigned_abs (is_zero-true z none))
      | inr some ↦ ap (λ (b : Bool). top (cond b [] (term z n ∷ []))) some ∙ omega arith
    ]

top-members : (hall : List Member) (k : ℕ) (f : ℕ → ℤ) → ((h : ℕ) → degree hall h ≢ k → f h ≡ pos 0) → (n : ℕ) → top (nonzero n f) ≡ greatest_member hall k (λ h. unsigned_abs (f h)) n
top-members hall k f none zero = refl
top-members hall k f none (suc n) =
    let last : top (cond (is_zero (f (suc n))) [] (term (f (suc n)) (suc n) ∷ [])) ≡ unsigned_abs (f (suc n)) = last-top (f (suc n)) (suc n) in
    let here : unsigned_abs (f (suc n)) ≡ cond (eqb (degree hall (suc n)) k) (unsigned_abs (f (suc n))) 0 =
    elim (cases_eq (degree hall (suc n)) k) [
      | inl own ↦ sym (ap (λ (b : Bool). cond b (unsigned_abs (f (suc n))) 0) (eq-eqb (degree hall (suc n)) k own))
      | inr other ↦ ap unsigned_abs (none (suc n) other) ∙ sym (ap (λ (b : Bool). cond b (unsigned_abs (f (suc n))) 0) (ne_eqb (degree hall (suc n)) k other))
    ] in
    top-append (nonzero n f) (cond (is_zero (f (suc n))) [] (term (f (suc n)) (suc n) ∷ []))
    ∙ ap₂ max (top-members hall k f none n) (last ∙ here)

-- a sum over words of k letters has members of degree k alone
sum-other : (extent : Extent) (k h : ℕ) → 1 ≤ extent.depth → degree (members_of extent) h ≢ k → majorant_sum extent k h ≡ pos 0
sum-other extent k h deep other =
    sum_words-same_letters extent.width k (λ u. coefficient h (image (majorants_of extent) u)) (λ u. pos 0 *ℤ pos 0)
    (λ u len letters. coefficient-other h (members_of extent) (length u) (image (majorants_of extent) u) (majorant-terms extent u deep letters) (λ e. other (e ∙ len)))
    ∙ sum_words-mul extent.width k (pos 0) (λ u. pos 0) ∙ zero-mul_ℤ (sum_words extent.width k (λ u. pos 0))

-- the greatest factor of the sum over the words of k letters is the growth of degree k
pub growth-top : (extent : Extent) (k : ℕ) → 1 ≤ extent.depth → top (nonzero (length (members_of extent)) (majorant_sum extent k)) ≡ growth_of extent k
unfolding growth
growth-top extent k deep = top-members (members_of extent) k (majorant_sum extent k) (λ h other. sum-other extent k h deep other) (length (members_of extent))

-- ---- the size of a sum whose growth is small
sum-within : (extent : Extent) (k h : ℕ) → 1 ≤ extent.depth → InHall (members_of extent) h → unsigned_abs (majorant_sum extent k h) ≤ growth_of extent k
unfolding growth
sum-within extent k h deep inside =
    elim (cases_eq (degree (members_of extent) h) k) [
      | inl own ↦ le-greatest_member (members_of extent) k (λ j. unsigned_abs (majorant_sum extent k j)) (length (members_of extent)) h inside.least inside.most own
      | inr other ↦ omega (arith, ap unsigned_abs (sum-other extent k h deep other))
    ]

-- where the growth is at most 2 ^ 40, the whole sum has at most 50 bits, since there are at most 1024 members
pub sum-sizes : (extent : Extent) (k : ℕ) → IsShape extent → growth_of extent k ≤ 2 ^ 40 → sizes (nonzero (length (members_of extent)) (majorant_sum extent k)) ≤ 2 ^ 50
sum-sizes extent k shape small =
    let n : ℕ = length (members_of extent) in
    let few : n ≤ 1024 = hall_list-short extent shape in
    let each : count_below n (λ i. unsigned_abs (majorant_sum extent k (suc i))) ≤ count_below n (λ i. 2 ^ 40) =
    count_below-le n (λ i. unsigned_abs (majorant_sum extent k (suc i))) (λ i. 2 ^ 40) (λ i lt. le_trans (sum-within extent k (suc i) shape.some_depth (record { least = omega arith; most = lt })) small) in
    omega (arith, sizes-nonzero n (majorant_sum extent k), each, count_below-all n (2 ^ 40), mul-le-mul_right (2 ^ 40) few)

-- ---- one growth more
-- the growths of the degrees 1 to k are known, and at most 2 ^ 40
pub record AreGrowthsTo (extent : Extent) (growths : List ℕ) (k : ℕ) : Type 0 where
  -- there is a place for each of eight degrees
  pub eight : length growths ≡ 8
  -- that of degree j stands at j - 1
  pub values : (j : ℕ) → 1 ≤ j → j ≤ k → get_or growths (j - 1) 0 ≡ growth_of extent j
  -- none is above 2 ^ 40
  pub small : (j : ℕ) → 1 ≤ j → j ≤ k → growth_of extent j ≤ 2 ^ 40

-- the growth of one degree more
pub growths-more : (extent : Extent) (growths : List ℕ) (k n : ℕ) → k < 8 → AreGrowthsTo extent growths k → n ≡ growth_of extent (k + 1) → n ≤ 2 ^ 40 → AreGrowthsTo extent (set growths k n) (k + 1)
growths-more extent growths k n within are e small =
    record {
      eight = length-set growths k n ∙ are.eight;
      values = λ j least most.
          elim (cases_eq j (k + 1)) [
            | inl last ↦
                let at : j - 1 ≡ k = omega arith in
                ap (λ (i : ℕ). get_or (set growths k n) i 0) at ∙ get_or-set_same growths k n 0 (omega (arith, are.eight)) ∙ e ∙ ap (growth_of extent) (sym last)
            | inr other ↦ get_or-set_other growths k (j - 1) n 0 (λ s. other (omega arith)) ∙ are.values j least (omega arith)
          ];
      small = λ j least most. elim (cases_eq j (k + 1)) [ inl last ↦ omega (arith, e, ap (growth_of extent) last) | inr other ↦ are.small j least (omega arith) ];
    }
