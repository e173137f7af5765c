-- The growth of a degree bounds the images of words at its members.
use Rattle.std.proofs.Common.{◌≡◌, inl, inr, ℕ, zero, suc, ◌*◌, ◌≤◌, ◌<◌, ◌^◌, refl, sym, ap, ◌∙◌, arith, ℤ, pos, ◌+ℤ◌, unsigned_abs, List, [], ◌∷◌, length, get_or, cond}
use Rattle.std.specs.Prelude.{Bool}
use Rattle.std.proofs.Math.Nat.{le_trans, le_of_eq, mul-le-mul, mul-le-mul_left, eq-or-lt_of_le}
use Rattle.std.proofs.lemmas.Bool.{eq-eqb}
use Rattle.definitions.specs.Words.{words_of}
use Rattle.definitions.specs.Sums.{sum_below, count_below}
use Rattle.definitions.specs.Commutators.{sum_words}
use Rattle.definitions.proofs.SumLaws.{sum_below-pos, sum_below-same, count_below-le, count_below-mul}
use Rattle.definitions.specs.Hall.{InHall, degree}
use Rattle.definitions.specs.declared.member.Member.{Member}
use Rattle.lie_bracket.specs.declared.term.Term.{Term}
use Rattle.lie_bracket.specs.Brackets.{scaled, over_terms, coefficient, bracket, majorant}
use Rattle.lie_bracket.specs.Entries.{size_at}
use Rattle.lie_bracket.proofs.SumSteps.{abs-coefficient_at}
use Rattle.lie_bracket.proofs.Masses.{size, Sizes, over-size, majorant-size, coefficient-size}
use Rattle.dynkin_map.specs.Coordinates.{image_with, image, greatest_member, growth}
use Rattle.dynkin_map.proofs.WordSums.{sum_words-numbered}

-- ---- the image with the majorant has the terms of the image without their signs
image-size-with : (plus rest : ℕ → ℕ → List Term) → Sizes plus rest → (a : ℕ) (u : List ℕ) (x y : List Term) → x ≡ scaled size y → image_with plus a u x ≡ scaled size (image_with rest a u y)
image-size-with plus rest same a [] x y e = refl
image-size-with plus rest same a (b ∷ u) x y e = ap (λ (z : List Term). over_terms z (plus a)) e ∙ over-size y (rest a) (plus a) (same a)

-- by the majorant the image of a word is that by the bracket with all factors made absolute
pub image-size : (plus rest : ℕ → ℕ → List Term) → Sizes plus rest → (u : List ℕ) → image plus u ≡ scaled size (image rest u)
image-size plus rest same [] = refl
image-size plus rest same (a ∷ u) = image-size-with plus rest same a u (image plus u) (image rest u) (image-size plus rest same u)

-- the coefficient in the image with the majorant is the size in the image
pub majorant-coefficient : (depth : ℕ) (hall : List Member) (h : ℕ) (u : List ℕ) → coefficient h (image (majorant depth hall) u) ≡ pos (size_at h (image (bracket depth hall) u))
majorant-coefficient depth hall h u =
    ap (coefficient h) (image-size (majorant depth hall) (bracket depth hall) (majorant-size depth hall) u) ∙ coefficient-size h (image (bracket depth hall) u)

-- ---- the growth
-- no value at a member of degree k is above the greatest
pub le-greatest_member : (hall : List Member) (k : ℕ) (f : ℕ → ℕ) (n h : ℕ) → 1 ≤ h → h ≤ n → degree hall h ≡ k → f h ≤ greatest_member hall k f n
le-greatest_member hall k f zero h least most e = absurd (omega arith)
le-greatest_member hall k f (suc n) h least most e =
    elim (eq-or-lt_of_le most) [
      | inl same ↦
          let d : degree hall (suc n) ≡ k = ap (degree hall) (sym same) ∙ e in
          omega (arith, ap (λ (b : Bool). cond b (f (suc n)) 0) (eq-eqb (degree hall (suc n)) k d), ap f same)
      | inr l ↦ omega (arith, le-greatest_member hall k f n h least (omega arith) e)
    ]

-- the sizes of all words' images at a member come to at most the growth of its degree
pub sizes-growth : (width depth : ℕ) (hall : List Member) (h : ℕ) → InHall hall h
    → count_below (width ^ degree hall h) (λ i. size_at h (image (bracket depth hall) (get_or (words_of width (degree hall h)) i []))) ≤ growth width depth hall (degree hall h)
unfolding growth
sizes-growth width depth hall h inside =
    let k : ℕ = degree hall h in
    let g : ℕ → ℕ = λ i. size_at h (image (bracket depth hall) (get_or (words_of width k) i [])) in
    let here : sum_words width k (λ u. coefficient h (image (majorant depth hall) u)) ≡ pos (count_below (width ^ k) g) =
    sum_words-numbered width k (λ u. coefficient h (image (majorant depth hall) u))
    ∙ sum_below-same (width ^ k) (λ i. coefficient h (image (majorant depth hall) (get_or (words_of width k) i []))) (λ i. pos (g i)) (λ i l. majorant-coefficient depth hall h (get_or (words_of width k) i []))
    ∙ sum_below-pos (width ^ k) g in
    le_trans (le_of_eq (sym (ap unsigned_abs here)))
    (le-greatest_member hall k (λ j. unsigned_abs (sum_words width k (λ u. coefficient j (image (majorant depth hall) u)))) (length hall) h inside.least inside.most refl)

-- what the images of all words add at a member, each at most so many times
pub weighted-growth : (width depth : ℕ) (hall : List Member) (h bound : ℕ) (f : ℕ → ℕ) → InHall hall h → ((i : ℕ) → i < width ^ degree hall h → f i ≤ bound)
    → count_below (width ^ degree hall h) (λ i. f i * unsigned_abs (coefficient h (image (bracket depth hall) (get_or (words_of width (degree hall h)) i [])))) ≤ bound * growth width depth hall (degree hall h)
weighted-growth width depth hall h bound f inside within =
    let k : ℕ = degree hall h in
    let c : ℕ → List Term = λ i. image (bracket depth hall) (get_or (words_of width k) i []) in
    le_trans (count_below-le (width ^ k) (λ i. f i * unsigned_abs (coefficient h (c i))) (λ i. bound * size_at h (c i)) (λ i l. mul-le-mul (within i l) (abs-coefficient_at h (c i))))
    (le_trans (le_of_eq (count_below-mul (width ^ k) bound (λ i. size_at h (c i)))) (mul-le-mul_left bound (sizes-growth width depth hall h inside)))
