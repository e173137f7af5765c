-- The Hall coordinates of a series that vanishes on shuffles expand to k times the series.
use Rattle.std.proofs.Common.{◌≡◌, inl, inr, ℕ, zero, suc, ◌+◌, ◌≤◌, refl, sym, ap, ◌∙◌, subst, arith, ℤ, pos, ◌+ℤ◌, ◌*ℤ◌, List, [], ◌∷◌, length, eqb, cond}
use Rattle.std.specs.Prelude.{All, Bool}
use Rattle.std.proofs.lemmas.Bool.{eq-eqb, ne_eqb, cases_eq}
use Rattle.std.proofs.lemmas.List.Elements.{All-nil, All-cons, All-head, All-tail, All-weaker}
use Rattle.std.proofs.lemmas.Int.{ints}
use Rattle.std.proofs.Math.IntN.{*ℤ_comm, *ℤ-zero}
use Rattle.definitions.specs.Words.{IsLetter}
use Rattle.definitions.specs.Sums.{sum_below}
use Rattle.definitions.specs.Commutators.{VanishesAt, letter, commutator, right_normed, sum_words, dual}
use Rattle.definitions.proofs.Integers.{mul_assoc_ℤ, zero-mul_ℤ, one-mul_ℤ}
use Rattle.definitions.proofs.SumLaws.{sum_below-mul, sum_below-same}
use Rattle.shuffle.proofs.ShuffleSums.{exchange}
use Rattle.shuffle.proofs.DualLaws.{sum_words-same, sum_words-mul, dual-whole}
use Rattle.definitions.specs.Hall.{InHall, member, degree, degree_of}
use Rattle.definitions.specs.declared.member.Member.{Member}
use Rattle.definitions.specs.declared.member.Member.TheVariants.{Letter}
use Rattle.hall_set.proofs.GrownLists.{IsHall}
use Rattle.lie_bracket.specs.declared.term.Term.{Term}
use Rattle.lie_bracket.specs.Brackets.{term, bracket, coefficient, expanded}
use Rattle.lie_bracket.proofs.TermSums.{expanded-over, expanded-same, SameAt, commutator-expanded_right, by-coefficients-all}
use Rattle.lie_bracket.proofs.TableSteps.{coefficient-other}
use Rattle.lie_bracket.proofs.BracketTerms.{IsTermOf, terms-over, bracket-terms}
use Rattle.lie_bracket.proofs.CommutatorLaws.{commutator-same}
use Rattle.lie_bracket.proofs.BracketExpansion.{Expansions, bracket-expands}
use Rattle.dynkin_map.specs.Coordinates.{image_with, image, coordinate}

-- the sum over the members of degree k
unfoldable pub sum_members : List Member → ℕ → (ℕ → ℤ) → ℤ
sum_members hall k f = sum_below (length hall) (λ i. cond (eqb (degree hall (suc i)) k) (f (suc i)) (pos 0))

-- 0 is neutral on the right
pub add-zero_ℤ : (z : ℤ) → z +ℤ pos 0 ≡ z
add-zero_ℤ z = omega (arith, ints)

-- ---- sums over words of letters
-- sums over words of k letters agree where their terms do at words out of 1 .. width
pub sum_words-same_letters : (width k : ℕ) (f g : List ℕ → ℤ) → ((u : List ℕ) → length u ≡ k → All (IsLetter width) u → f u ≡ g u) → sum_words width k f ≡ sum_words width k g
sum_words-same_letters width zero f g same = same [] refl (All-nil (IsLetter width))
sum_words-same_letters width (suc k) f g same =
    sum_below-same width (λ i. sum_words width k (λ u. f (suc i ∷ u))) (λ i. sum_words width k (λ u. g (suc i ∷ u)))
    (λ i h. sum_words-same_letters width k (λ u. f (suc i ∷ u)) (λ u. g (suc i ∷ u))
    (λ u e all. same (suc i ∷ u) (ap suc e) (All-cons (IsLetter width) (suc i) u (omega arith, omega arith) all)))

-- a finite sum and a sum over words, in either order
pub exchange_words : (n width k : ℕ) (g : ℕ → List ℕ → ℤ) → sum_below n (λ i. sum_words width k (g i)) ≡ sum_words width k (λ u. sum_below n (λ i. g i u))
exchange_words n width zero g = refl
exchange_words n width (suc k) g =
    exchange n width (λ i j. sum_words width k (λ u. g i (suc j ∷ u)))
    ∙ sum_below-same width (λ j. sum_below n (λ i. sum_words width k (λ u. g i (suc j ∷ u)))) (λ j. sum_words width k (λ u. sum_below n (λ i. g i (suc j ∷ u))))
    (λ j h. exchange_words n width k (λ i u. g i (suc j ∷ u)))

-- ---- the image of a word
-- the letters are members of the list under their own numbers
pub record HasLetters (width : ℕ) (hall : List Member) : Type 0 where
  -- each letter is the number of a member
  pub inside : (a : ℕ) → IsLetter width a → InHall hall a
  -- and this member is a letter
  pub letters : (a : ℕ) → IsLetter width a → member hall a ≡ Letter

-- one letter more, by whether the word before was empty
image-terms-with : (width depth : ℕ) (hall : List Member) → IsHall depth hall → HasLetters width hall → (a : ℕ) (u : List ℕ) (rest : List Term) → IsLetter width a
    → (1 ≤ length u → All (IsTermOf hall (length u)) rest) → All (IsTermOf hall (suc (length u))) (image_with (bracket depth hall) a u rest)
image-terms-with width depth hall ok letters a [] rest ha before =
    All-cons (IsTermOf hall 1) (term (pos 1) a) [] (record { inside = letters.inside a ha; degree_is = ap degree_of (letters.letters a ha) }) (All-nil (IsTermOf hall 1))
image-terms-with width depth hall ok letters a (b ∷ u) rest ha before =
    let d : degree hall a ≡ 1 = ap degree_of (letters.letters a ha) in
    terms-over hall (suc (length u)) (suc (suc (length u))) (bracket depth hall a) rest (before (omega arith))
    (λ c hc dc. subst (λ (k : ℕ). All (IsTermOf hall k) (bracket depth hall a c)) (let s : degree hall a + degree hall c ≡ suc (suc (length u)) = omega arith in s)
    (bracket-terms depth hall ok a c (letters.inside a ha) hc))

-- the image of a word has members of as many letters as the word alone
pub image-terms : (width depth : ℕ) (hall : List Member) → IsHall depth hall → HasLetters width hall → (u : List ℕ) → All (IsLetter width) u
    → All (IsTermOf hall (length u)) (image (bracket depth hall) u)
image-terms width depth hall ok letters [] all = All-nil (IsTermOf hall 0)
image-terms width depth hall ok letters (a ∷ u) all =
    image-terms-with width depth hall ok letters a u (image (bracket depth hall) u) (All-head (IsLetter width) a u all)
    (λ some. image-terms width depth hall ok letters u (All-tail (IsLetter width) a u all))

-- each letter expands to itself
abbrev pub LetterExpansions : ℕ → (ℕ → List ℕ → ℤ) → Type 0
LetterExpansions width e = (a : ℕ) → IsLetter width a → (w : List ℕ) → e a w ≡ letter a w

-- the same for expansions
image-expands-with : (width depth : ℕ) (hall : List Member) (e : ℕ → List ℕ → ℤ) → IsHall depth hall → HasLetters width hall → Expansions hall e → LetterExpansions width e
    → (a : ℕ) (u : List ℕ) → All (IsLetter width) (a ∷ u) → length (a ∷ u) ≤ depth
    → ((w : List ℕ) → 1 ≤ length u → expanded e (image (bracket depth hall) u) w ≡ right_normed u w)
    → (w : List ℕ) → expanded e (image_with (bracket depth hall) a u (image (bracket depth hall) u)) w ≡ right_normed (a ∷ u) w
image-expands-with width depth hall e ok letters ex lex a [] all short before w =
    ap (λ (z : ℤ). z +ℤ pos 0) (one-mul_ℤ (e a w)) ∙ add-zero_ℤ (e a w) ∙ lex a (All-head (IsLetter width) a [] all) w
image-expands-with width depth hall e ok letters ex lex a (b ∷ u) all short before w =
    let br : ℕ → ℕ → List Term = bracket depth hall in
    let ha : IsLetter width a = All-head (IsLetter width) a (b ∷ u) all in
    let d : degree hall a ≡ 1 = ap degree_of (letters.letters a ha) in
    let terms : All (IsTermOf hall (suc (length u))) (image br (b ∷ u)) = image-terms width depth hall ok letters (b ∷ u) (All-tail (IsLetter width) a (b ∷ u) all) in
    expanded-over e (image br (b ∷ u)) (br a) w
    ∙ expanded-same (λ c. expanded e (br a c)) (λ c. commutator (e a) (e c)) (image br (b ∷ u)) w
    (All-weaker (IsTermOf hall (suc (length u))) (SameAt (λ c. expanded e (br a c)) (λ c. commutator (e a) (e c)))
    (λ t ht. let dt : degree hall t.number ≡ suc (length u) = ht.degree_is in bracket-expands depth hall e ok ex a t.number (letters.inside a ha) ht.inside (omega arith))
    (image br (b ∷ u)) terms)
    ∙ sym (commutator-expanded_right e (image br (b ∷ u)) (e a) w)
    ∙ commutator-same (e a) (letter a) (expanded e (image br (b ∷ u))) (right_normed (b ∷ u)) w (lex a ha) (λ v. before v (omega arith))

-- the expansion of the image of a word is its right-normed commutator
pub image-expands : (width depth : ℕ) (hall : List Member) (e : ℕ → List ℕ → ℤ) → IsHall depth hall → HasLetters width hall → Expansions hall e → LetterExpansions width e
    → (u : List ℕ) → All (IsLetter width) u → length u ≤ depth → (w : List ℕ) → expanded e (image (bracket depth hall) u) w ≡ right_normed u w
image-expands width depth hall e ok letters ex lex [] all short w = refl
image-expands width depth hall e ok letters ex lex (a ∷ u) all short w =
    image-expands-with width depth hall e ok letters ex lex a u all short
    (λ v some. image-expands width depth hall e ok letters ex lex u (All-tail (IsLetter width) a u all) (omega arith) v) w

-- expanded at a word, terms depend on the values of their members at this word alone
pub expanded-at : (e : ℕ → List ℕ → ℤ) (ts : List Term) (w : List ℕ) → expanded (λ h v. e h w) ts [] ≡ expanded e ts w
expanded-at e [] w = refl
expanded-at e (t ∷ ts) w = ap (λ (z : ℤ). (t.factor *ℤ e t.number w) +ℤ z) (expanded-at e ts w)

-- members of other degrees have no factor, so they needn't be tested
member-cell : (hall : List Member) (k h : ℕ) (ts : List Term) (x : ℤ) → All (IsTermOf hall k) ts → cond (eqb (degree hall h) k) (coefficient h ts *ℤ x) (pos 0) ≡ coefficient h ts *ℤ x
member-cell hall k h ts x all =
    elim (cases_eq (degree hall h) k) [
      | inl e ↦ ap (λ (b : Bool). cond b (coefficient h ts *ℤ x) (pos 0)) (eq-eqb (degree hall h) k e)
      | inr ne ↦ ap (λ (b : Bool). cond b (coefficient h ts *ℤ x) (pos 0)) (ne_eqb (degree hall h) k ne)
          ∙ sym (ap (λ (z : ℤ). z *ℤ x) (coefficient-other h hall k ts all ne) ∙ zero-mul_ℤ x)
    ]

-- a sum of terms of degree k, by the members of degree k
pub by-members : (hall : List Member) (k : ℕ) (e : ℕ → List ℕ → ℤ) (ts : List Term) (w : List ℕ) → All (IsTermOf hall k) ts
    → sum_members hall k (λ h. coefficient h ts *ℤ e h w) ≡ expanded e ts w
unfolding sum_members
by-members hall k e ts w all =
    sum_below-same (length hall) (λ i. cond (eqb (degree hall (suc i)) k) (coefficient (suc i) ts *ℤ e (suc i) w) (pos 0)) (λ i. coefficient (suc i) ts *ℤ e (suc i) w)
    (λ i l. member-cell hall k (suc i) ts (e (suc i) w) all)
    ∙ by-coefficients-all (length hall) (λ h. e h w) ts (All-weaker (IsTermOf hall k) (λ t. (1 ≤ t.number) × (t.number ≤ length hall)) (λ t h. (h.inside.least, h.inside.most)) ts all)
    ∙ expanded-at e ts w

-- ---- the coordinates
coordinate-cell : (width depth : ℕ) (hall : List Member) (series : List ℕ → ℤ) (k h : ℕ) (x : ℤ)
    → cond (eqb (degree hall h) k) (coordinate width depth hall series h *ℤ x) (pos 0)
    ≡ sum_words width k (λ u. series u *ℤ cond (eqb (degree hall h) k) (coefficient h (image (bracket depth hall) u) *ℤ x) (pos 0))
unfolding coordinate
coordinate-cell width depth hall series k h x =
    let c : List ℕ → ℤ = λ u. coefficient h (image (bracket depth hall) u) in
    elim (cases_eq (degree hall h) k) [
      | inl e ↦
          ap (λ (b : Bool). cond b (sum_words width (degree hall h) (λ u. series u *ℤ c u) *ℤ x) (pos 0)) (eq-eqb (degree hall h) k e)
          ∙ ap (λ (n : ℕ). sum_words width n (λ u. series u *ℤ c u) *ℤ x) e
          ∙ *ℤ_comm (sum_words width k (λ u. series u *ℤ c u)) x
          ∙ sym (sum_words-mul width k x (λ u. series u *ℤ c u))
          ∙ sum_words-same width k (λ u. x *ℤ (series u *ℤ c u)) (λ u. series u *ℤ cond (eqb (degree hall h) k) (c u *ℤ x) (pos 0))
          (λ u l. *ℤ_comm x (series u *ℤ c u) ∙ mul_assoc_ℤ (series u) (c u) x ∙ sym (ap (λ (b : Bool). series u *ℤ cond b (c u *ℤ x) (pos 0)) (eq-eqb (degree hall h) k e)))
      | inr ne ↦
          ap (λ (b : Bool). cond b (sum_words width (degree hall h) (λ u. series u *ℤ c u) *ℤ x) (pos 0)) (ne_eqb (degree hall h) k ne)
          ∙ sym (sum_words-same width k (λ u. series u *ℤ cond (eqb (degree hall h) k) (c u *ℤ x) (pos 0)) (λ u. pos 0 *ℤ pos 0)
          (λ u l. ap (λ (b : Bool). series u *ℤ cond b (c u *ℤ x) (pos 0)) (ne_eqb (degree hall h) k ne) ∙ *ℤ-zero (series u))
          ∙ sum_words-mul width k (pos 0) (λ u. pos 0) ∙ zero-mul_ℤ (sum_words width k (λ u. pos 0)))
    ]

-- the coordinates, expanded
pub coordinates-dual : (width depth : ℕ) (hall : List Member) (e : ℕ → List ℕ → ℤ) → IsHall depth hall → HasLetters width hall → Expansions hall e → LetterExpansions width e
    → (series : List ℕ → ℤ) (w : List ℕ) → length w ≤ depth → sum_members hall (length w) (λ h. coordinate width depth hall series h *ℤ e h w) ≡ dual width series w
unfolding sum_members
coordinates-dual width depth hall e ok letters ex lex series w short =
    let k : ℕ = length w in
    let br : ℕ → ℕ → List Term = bracket depth hall in
    sum_below-same (length hall) (λ i. cond (eqb (degree hall (suc i)) k) (coordinate width depth hall series (suc i) *ℤ e (suc i) w) (pos 0))
    (λ i. sum_words width k (λ u. series u *ℤ cond (eqb (degree hall (suc i)) k) (coefficient (suc i) (image br u) *ℤ e (suc i) w) (pos 0)))
    (λ i l. coordinate-cell width depth hall series k (suc i) (e (suc i) w))
    ∙ exchange_words (length hall) width k (λ i u. series u *ℤ cond (eqb (degree hall (suc i)) k) (coefficient (suc i) (image br u) *ℤ e (suc i) w) (pos 0))
    ∙ sum_words-same_letters width k
    (λ u. sum_below (length hall) (λ i. series u *ℤ cond (eqb (degree hall (suc i)) k) (coefficient (suc i) (image br u) *ℤ e (suc i) w) (pos 0)))
    (λ u. series u *ℤ right_normed u w)
    (λ u len all.
    sum_below-mul (length hall) (series u) (λ i. cond (eqb (degree hall (suc i)) k) (coefficient (suc i) (image br u) *ℤ e (suc i) w) (pos 0))
    ∙ ap (λ (z : ℤ). series u *ℤ z)
    (by-members hall k e (image br u) w (subst (λ (n : ℕ). All (IsTermOf hall n) (image br u)) len (image-terms width depth hall ok letters u all))
    ∙ image-expands width depth hall e ok letters ex lex u all (omega arith) w))

-- where the series vanishes on shuffles, its coordinates expand to k times the series
pub coordinates-expand : (width depth : ℕ) (hall : List Member) (e : ℕ → List ℕ → ℤ) → IsHall depth hall → HasLetters width hall → Expansions hall e → LetterExpansions width e
    → (series : List ℕ → ℤ) (w : List ℕ) → 1 ≤ length w → length w ≤ depth → All (IsLetter width) w
    → VanishesAt width series (length w)
    → sum_members hall (length w) (λ h. coordinate width depth hall series h *ℤ e h w) ≡ pos (length w) *ℤ series w
coordinates-expand width depth hall e ok letters ex lex series w some short all none =
    coordinates-dual width depth hall e ok letters ex lex series w short ∙ dual-whole width series w some all none
