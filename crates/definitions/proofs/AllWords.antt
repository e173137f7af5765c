-- The list of all words of fewer than k letters, by their places.
use Rattle.std.proofs.Common.{◌≡◌, inl, inr, ℕ, zero, suc, ◌+◌, ◌<◌, ◌^◌, refl, ap, ◌∙◌, subst, arith, [], ◌++◌, length, get_or, length-append}
use Rattle.std.proofs.Math.Nat.{eq-or-lt_of_le}
use Rattle.std.proofs.lemmas.List.{get_or_append_left, get_or-append-add}
use Rattle.definitions.specs.Words.{shorter, words_of}
use Rattle.definitions.specs.AllWords.{words_below}
use Rattle.definitions.proofs.WordLists.{length-words_of}
use Rattle.definitions.proofs.WordLaws.{shorter_part}

-- as many words as are shorter than k letters
pub length-words_below : (width k : ℕ) → length (words_below width k) ≡ shorter width k
length-words_below width zero = refl
length-words_below width (suc k) = omega (arith, length-append (words_below width k) (words_of width k), length-words_below width k, length-words_of width k)

-- the words of k letters stand from the count of the shorter ones on
pub words_below-at : (width k n i : ℕ) → k < n → i < width ^ k → get_or (words_below width n) (shorter width k + i) [] ≡ get_or (words_of width k) i []
words_below-at width k zero i lt within = absurd (omega arith)
words_below-at width k (suc n) i lt within =
    elim (eq-or-lt_of_le lt) [
      | inl e ↦
          let same : k ≡ n = omega arith in
          subst (λ (m : ℕ). get_or (words_below width m ++ words_of width m) (shorter width k + i) [] ≡ get_or (words_of width k) i []) same
          ((let place : shorter width k + i ≡ length (words_below width k) + i = omega (arith, length-words_below width k) in ap (λ (j : ℕ). get_or (words_below width k ++ words_of width k) j []) place)
          ∙ get_or-append-add (words_below width k) (words_of width k) i [])
      | inr l ↦
          get_or_append_left (words_below width n) (words_of width n) [] (shorter width k + i) (omega (arith, length-words_below width n, shorter_part width (suc k) n (omega arith)))
          ∙ words_below-at width k n i (omega arith) within
    ]
