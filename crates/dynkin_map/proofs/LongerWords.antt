-- The image of a word with one letter more before it.
use Rattle.std.proofs.Common.{◌≡◌, inl, inr, ℕ, zero, suc, ◌*◌, ◌≤◌, ◌<◌, ◌^◌, refl, sym, ap, ◌∙◌, subst, arith, ℤ, pos, ◌*ℤ◌, unsigned_abs, List, [], ◌∷◌, length, get_or}
use Rattle.std.specs.Prelude.{All}
use Rattle.std.proofs.Math.Nat.{mul-le-mul_right}
use Rattle.std.proofs.lemmas.Bool.{cases_eq}
use Rattle.std.proofs.lemmas.List.Elements.{All-cons, All-nil, All-weaker}
use Rattle.definitions.specs.Words.{Extent, IsShape, IsLetter, number, words_of}
use Rattle.definitions.specs.Sums.{count_below}
use Rattle.definitions.proofs.SumLaws.{sum_below-same, count_below-le, term-le-count_below}
use Rattle.definitions.proofs.WordLaws.{number-lt}
use Rattle.definitions.proofs.WordLists.{word-of-number}
use Rattle.definitions.specs.Hall.{InHall, degree}
use Rattle.definitions.specs.declared.member.Member.{Member}
use Rattle.hall_set.proofs.GrownLists.{hall_list-IsHall}
use Rattle.hall_set.proofs.Sizes.{hall_list-short}
use Rattle.lie_bracket.specs.declared.term.Term.{Term}
use Rattle.lie_bracket.specs.Brackets.{term, over_terms, coefficient, bracket}
use Rattle.lie_bracket.specs.Entries.{Numbers, sizes, size_at}
use Rattle.lie_bracket.proofs.BracketTerms.{IsTermOf}
use Rattle.lie_bracket.proofs.TermSums.{coefficient-over}
use Rattle.lie_bracket.proofs.SumSteps.{abs-coefficient_at}
use Rattle.lie_bracket.proofs.NonzeroLaws.{coefficient-nonzero, sizes-nonzero}
use Rattle.dynkin_map.specs.Coordinates.{image}
use Rattle.dynkin_map.specs.Table.{row_of, growth_of}
use Rattle.dynkin_map.proofs.CoordinateLaws.{image-terms}
use Rattle.dynkin_map.proofs.Letters.{hall_list-HasLetters}
use Rattle.dynkin_map.proofs.GrowthBounds.{sizes-growth}
use Rattle.dynkin_map.proofs.CoordinateSteps.{members_of, at_image, row-Numbers, image-other}

-- the brackets of the members of a shape
abbrev pub brackets_of : Extent → ℕ → ℕ → List Term
brackets_of extent = bracket extent.depth (members_of extent)

-- the image of a letter before a nonempty word is the bracket of the letter with the image of the word
pub image-longer : (br : ℕ → ℕ → List Term) (a : ℕ) (u : List ℕ) → 1 ≤ length u → image br (a ∷ u) ≡ over_terms (image br u) (br a)
image-longer br a [] some = absurd (omega arith)
image-longer br a (b ∷ u) some = refl

-- each letter is the number of a member
pub letter-inside : (extent : Extent) (a : ℕ) → IsLetter extent.width a → InHall (members_of extent) a
letter-inside extent a h = (hall_list-HasLetters extent.width extent.depth).inside a h

-- so is the number of the term of a letter
pub letter-Numbers : (extent : Extent) (n a : ℕ) → IsLetter extent.width a → n ≡ length (members_of extent) → Numbers n (term (pos 1) a ∷ [])
letter-Numbers extent n a h e =
    All-cons (λ t. (1 ≤ t.number) × (t.number ≤ n)) (term (pos 1) a) [] (h.0, omega (arith, e, (letter-inside extent a h).most)) (All-nil (λ (t : Term). (1 ≤ t.number) × (t.number ≤ n)))

-- numbers of members, as the Hall list says it
pub numbers-inside : (hall : List Member) (ts : List Term) → Numbers (length hall) ts → All (λ t. InHall hall t.number) ts
numbers-inside hall ts all = All-weaker (λ t. (1 ≤ t.number) × (t.number ≤ length hall)) (λ t. InHall hall t.number) (λ t h. record { least = h.0; most = h.1 }) ts all

-- terms of members have their numbers
pub terms-Numbers : (hall : List Member) (k : ℕ) (ts : List Term) → All (IsTermOf hall k) ts → Numbers (length hall) ts
terms-Numbers hall k ts all = All-weaker (IsTermOf hall k) (λ t. (1 ≤ t.number) × (t.number ≤ length hall)) (λ t h. (h.inside.least, h.inside.most)) ts all

-- the brackets with the row of a word are those with its image
pub image-added : (extent : Extent) (a h : ℕ) (word : List ℕ) → 1 ≤ extent.depth → All (IsLetter extent.width) word → 1 ≤ length word
    → coefficient h (over_terms (row_of extent word) (brackets_of extent a)) ≡ coefficient h (image (brackets_of extent) (a ∷ word))
image-added extent a h word deep letters some =
    let n : ℕ = length (members_of extent) in
    let br : ℕ → ℕ → List Term = brackets_of extent in
    coefficient-over n h (row_of extent word) (br a) (row-Numbers extent word)
    ∙ sum_below-same n (λ i. coefficient (suc i) (row_of extent word) *ℤ coefficient h (br a (suc i))) (λ i. coefficient (suc i) (image br word) *ℤ coefficient h (br a (suc i)))
    (λ i lt. ap (λ (z : ℤ). z *ℤ coefficient h (br a (suc i))) (coefficient-nonzero n (λ j. at_image extent j word) (suc i) (omega arith) lt))
    ∙ sym (coefficient-over n h (image br word) (br a)
    (terms-Numbers (members_of extent) (length word) (image br word)
    (image-terms extent.width extent.depth (members_of extent) (hall_list-IsHall extent.width extent.depth deep) (hall_list-HasLetters extent.width extent.depth) word letters)))
    ∙ sym (ap (coefficient h) (image-longer br a word some))

-- ---- the sizes of rows
-- a coefficient in the image of a word is at most the growth of its length
image-small : (extent : Extent) (h : ℕ) (word : List ℕ) → 1 ≤ extent.depth → InHall (members_of extent) h → All (IsLetter extent.width) word → unsigned_abs (at_image extent h word) ≤ growth_of extent (length word)
image-small extent h word deep inside letters =
    elim (cases_eq (degree (members_of extent) h) (length word)) [
      | inl own ↦
          let i : ℕ = number extent.width word in
          let lt : i < extent.width ^ length word = number-lt extent.width word letters in
          let here : get_or (words_of extent.width (length word)) i [] ≡ word = word-of-number extent.width (length word) i word lt (record { letters = letters; len = refl; number_is = refl }) in
          let all : count_below (extent.width ^ length word) (λ j. size_at h (image (brackets_of extent) (get_or (words_of extent.width (length word)) j []))) ≤ growth_of extent (length word) =
          subst (λ (k : ℕ). count_below (extent.width ^ k) (λ j. size_at h (image (brackets_of extent) (get_or (words_of extent.width k) j []))) ≤ growth_of extent k) own (sizes-growth extent.width extent.depth (members_of extent) h inside) in
          omega (
            arith,
            abs-coefficient_at h (image (brackets_of extent) word),
            ap (λ (u : List ℕ). size_at h (image (brackets_of extent) u)) here,
            term-le-count_below (extent.width ^ length word) i (λ j. size_at h (image (brackets_of extent) (get_or (words_of extent.width (length word)) j []))) lt,
            all,
          )
      | inr other ↦ omega (arith, ap unsigned_abs (image-other extent h word deep letters other))
    ]

image-within : (extent : Extent) (h : ℕ) (word : List ℕ) → 1 ≤ extent.depth → InHall (members_of extent) h → All (IsLetter extent.width) word → (1 ≤ length word → growth_of extent (length word) ≤ 2 ^ 40) → unsigned_abs (at_image extent h word) ≤ 2 ^ 40
image-within extent h [] deep inside letters small = omega arith
image-within extent h (a ∷ word) deep inside letters small = omega (arith, image-small extent h (a ∷ word) deep inside letters, small (omega arith))

-- the sum of n times the same number
pub count_below-all : (n c : ℕ) → count_below n (λ i. c) ≡ n * c
unfolding count_below
count_below-all zero c = omega arith
count_below-all (suc n) c = omega (arith, count_below-all n c)

-- a row has a size of at most 2 ^ 50, where the growth of its word's length is at most 2 ^ 40
pub row-sizes : (extent : Extent) (k : ℕ) (word : List ℕ) → IsShape extent → All (IsLetter extent.width) word → length word ≡ k → (1 ≤ k → growth_of extent k ≤ 2 ^ 40) → sizes (row_of extent word) ≤ 2 ^ 50
row-sizes extent k word shape letters len small =
    let n : ℕ = length (members_of extent) in
    let few : n ≤ 1024 = hall_list-short extent shape in
    let each : count_below n (λ i. unsigned_abs (at_image extent (suc i) word)) ≤ count_below n (λ i. 2 ^ 40) =
    count_below-le n (λ i. unsigned_abs (at_image extent (suc i) word)) (λ i. 2 ^ 40)
    (λ i lt. image-within extent (suc i) word shape.some_depth (record { least = omega arith; most = lt }) letters (subst (λ (m : ℕ). 1 ≤ m → growth_of extent m ≤ 2 ^ 40) (sym len) small)) in
    omega (arith, sizes-nonzero n (λ j. at_image extent j word), each, count_below-all n (2 ^ 40), mul-le-mul_right (2 ^ 40) few)
