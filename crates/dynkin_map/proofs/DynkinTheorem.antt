-- The Dynkin theorem: the Hall coordinates of a series that vanishes on shuffles, expanded, are k times the series.
use Rattle.std.proofs.Common.{◌≡◌, inl, inr, ℕ, zero, suc, ◌-◌, ◌≤◌, ◌^◌, refl, sym, ap, ap₂, ◌∙◌, arith, ℤ, pos, ◌+ℤ◌, ◌*ℤ◌, List, [], ◌∷◌, length, eqb, cond}
use Rattle.std.specs.Prelude.{All, Bool}
use Rattle.std.proofs.lemmas.Bool.{eq-eqb, ne_eqb, cases_eq}
use Rattle.std.proofs.Math.IntN.{*ℤ-zero}
use Rattle.std.proofs.lemmas.List.Elements.{All-weaker}
use Rattle.definitions.specs.Words.{Extent, IsLetter, IsWord}
use Rattle.definitions.specs.Sums.{sum_below}
use Rattle.definitions.specs.Commutators.{VanishesAt}
use Rattle.definitions.proofs.SumLaws.{sum_below-same}
use Rattle.definitions.specs.Hall.{InHall, hall_list, degree, expansion}
use Rattle.definitions.specs.declared.member.Member.{Member}
use Rattle.hall_set.proofs.GrownLists.{IsHall, hall_list-IsHall}
use Rattle.lie_bracket.specs.Brackets.{term, coefficient, expanded, bracket}
use Rattle.lie_bracket.specs.Tables.{is_zero, nonzero}
use Rattle.lie_bracket.proofs.NonzeroLaws.{nonzero-same, nonzero-Numbers}
use Rattle.lie_bracket.proofs.TermSums.{expanded-append}
use Rattle.lie_steps.proofs.Expansions.{IsPart, expansion-IsPart}
use Rattle.lie_bracket.proofs.Expansions.{expansion-Expansions}
use Rattle.dynkin_map.specs.Coordinates.{image, coordinate, coordinates}
use Rattle.dynkin_map.proofs.CoordinateLaws.{sum_words-same_letters, coordinates-expand, sum_members}
use Rattle.dynkin_map.proofs.Letters.{hall_list-HasLetters, hall_list-LetterExpansions}
use Rattle.lie_bracket.proofs.MoveTerms.{expanded-one}

-- the list of the factors that aren't 0 expands to the sum over all numbers
pub expanded-nonzero : (e : ℕ → List ℕ → ℤ) (n : ℕ) (f : ℕ → ℤ) (w : List ℕ) → expanded e (nonzero n f) w ≡ sum_below n (λ i. f (suc i) *ℤ e (suc i) w)
unfolding sum_below
expanded-nonzero e zero f w = refl
expanded-nonzero e (suc n) f w =
    expanded-append e (nonzero n f) (cond (is_zero (f (suc n))) [] (term (f (suc n)) (suc n) ∷ [])) w
    ∙ ap₂ ◌+ℤ◌ (expanded-nonzero e n f w) (expanded-one e (f (suc n)) (suc n) w)

-- a word meets the members of its degree alone
by-degree : (width depth : ℕ) → 1 ≤ depth → (f : ℕ → ℤ) (w : List ℕ)
    → sum_members (hall_list width depth) (length w) (λ h. f h *ℤ expansion (hall_list width depth) h w) ≡ sum_below (length (hall_list width depth)) (λ i. f (suc i) *ℤ expansion (hall_list width depth) (suc i) w)
unfolding sum_members
by-degree width depth some f w =
    let hall : List Member = hall_list width depth in
    sum_below-same (length hall) (λ i. cond (eqb (degree hall (suc i)) (length w)) (f (suc i) *ℤ expansion hall (suc i) w) (pos 0)) (λ i. f (suc i) *ℤ expansion hall (suc i) w)
    (λ i lt. elim (cases_eq (degree hall (suc i)) (length w)) [
      | inl e ↦ ap (λ (b : Bool). cond b (f (suc i) *ℤ expansion hall (suc i) w) (pos 0)) (eq-eqb (degree hall (suc i)) (length w) e)
      | inr ne ↦
          let p : IsPart (degree hall (suc i)) (2 ^ (degree hall (suc i) - 1)) (expansion hall (suc i)) = expansion-IsPart depth hall (hall_list-IsHall width depth some) (suc i) (record { least = omega arith; most = omega arith }) in
          ap (λ (b : Bool). cond b (f (suc i) *ℤ expansion hall (suc i) w) (pos 0)) (ne_eqb (degree hall (suc i)) (length w) ne)
          ∙ sym (ap (λ (z : ℤ). f (suc i) *ℤ z) (p.only w (λ e. ne (sym e))) ∙ *ℤ-zero (f (suc i)))
    ])

-- the coordinates of a series that vanishes on shuffles expand to k times the series
pub coordinates-theorem : (extent : Extent) (series : List ℕ → ℤ) (w : List ℕ) → 1 ≤ length w → length w ≤ extent.depth → All (IsLetter extent.width) w
    → VanishesAt extent.width series (length w)
    → expanded (expansion (hall_list extent.width extent.depth)) (coordinates extent series) w ≡ pos (length w) *ℤ series w
unfolding coordinates
coordinates-theorem extent series w some short letters none =
    let hall : List Member = hall_list extent.width extent.depth in
    let deep : 1 ≤ extent.depth = omega arith in
    let ok : IsHall extent.depth hall = hall_list-IsHall extent.width extent.depth deep in
    expanded-nonzero (expansion hall) (length hall) (coordinate extent.width extent.depth hall series) w
    ∙ sym (by-degree extent.width extent.depth deep (coordinate extent.width extent.depth hall series) w)
    ∙ coordinates-expand extent.width extent.depth hall (expansion hall) ok (hall_list-HasLetters extent.width extent.depth)
    (expansion-Expansions extent.depth hall ok) (hall_list-LetterExpansions extent.width extent.depth) series w some short letters none

-- ---- what coordinates depend on
-- the coordinates depend on the values at the words of the extent alone
pub coordinates-same : (extent : Extent) (s t : List ℕ → ℤ) → 1 ≤ extent.depth → ((w : List ℕ) → IsWord extent w → s w ≡ t w) → coordinates extent s ≡ coordinates extent t
unfolding coordinates coordinate
coordinates-same extent s t deep same =
    let hall : List Member = hall_list extent.width extent.depth in
    let ok : IsHall extent.depth hall = hall_list-IsHall extent.width extent.depth deep in
    nonzero-same (length hall) (coordinate extent.width extent.depth hall s) (coordinate extent.width extent.depth hall t)
    (λ h least most.
    let topped : degree hall h ≤ extent.depth = ok.topped h (record { least = least; most = most }) in
    sum_words-same_letters extent.width (degree hall h) (λ u. s u *ℤ coefficient h (image (bracket extent.depth hall) u)) (λ u. t u *ℤ coefficient h (image (bracket extent.depth hall) u))
    (λ u len letters. ap (λ (z : ℤ). z *ℤ coefficient h (image (bracket extent.depth hall) u)) (same u (record { short = omega (arith, len, topped); letters = letters }))))

-- ---- the numbers of coordinates
-- the numbers of coordinates are those of members
pub coordinates-members : (extent : Extent) (s : List ℕ → ℤ) → All (λ t. InHall (hall_list extent.width extent.depth) t.number) (coordinates extent s)
unfolding coordinates
coordinates-members extent s =
    let hall : List Member = hall_list extent.width extent.depth in
    All-weaker (λ t. (1 ≤ t.number) × (t.number ≤ length hall)) (λ t. InHall hall t.number) (λ t h. record { least = h.0; most = h.1 }) (coordinates extent s)
    (nonzero-Numbers (length hall) (coordinate extent.width extent.depth hall s))
