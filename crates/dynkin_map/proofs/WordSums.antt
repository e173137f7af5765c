-- Sums over the words of one length, by their numbers.
use Rattle.std.proofs.Common.{◌≡◌, ℕ, zero, suc, ◌+◌, ◌*◌, ◌^◌, sym, ap, ◌∙◌, arith, ℤ, pos, ◌+ℤ◌, List, [], ◌∷◌, get_or}
use Rattle.std.proofs.Math.Nat.{pow-suc, pow-zero}
use Rattle.std.proofs.lemmas.Int.{ints}
use Rattle.definitions.specs.Words.{words_of}
use Rattle.definitions.specs.Sums.{sum_below}
use Rattle.definitions.specs.Commutators.{sum_words}
use Rattle.definitions.proofs.SumLaws.{sum_below-same}
use Rattle.definitions.proofs.WordLists.{word-at}

-- a sum in two runs
sum_below-runs : (m n : ℕ) (f : ℕ → ℤ) → sum_below (m + n) f ≡ sum_below m f +ℤ sum_below n (λ j. f (m + j))
unfolding sum_below
sum_below-runs m zero f = (let e : m + 0 ≡ m = omega arith in ap (λ (k : ℕ). sum_below k f) e) ∙ omega (arith, ints)
sum_below-runs m (suc n) f =
    (let e : m + suc n ≡ suc (m + n) = omega arith in ap (λ (k : ℕ). sum_below k f) e)
    ∙ ap (λ (z : ℤ). z +ℤ f (m + n)) (sum_below-runs m n f)
    ∙ omega (arith, ints)

-- a sum by places
sum_below-places : (m n : ℕ) (f : ℕ → ℤ) → sum_below (m * n) f ≡ sum_below m (λ i. sum_below n (λ j. f (i * n + j)))
unfolding sum_below
sum_below-places zero n f = (let e : 0 * n ≡ 0 = omega arith in ap (λ (k : ℕ). sum_below k f) e)
sum_below-places (suc m) n f =
    (let e : suc m * n ≡ m * n + n = omega arith in ap (λ (k : ℕ). sum_below k f) e)
    ∙ sum_below-runs (m * n) n f
    ∙ ap (λ (z : ℤ). z +ℤ sum_below n (λ j. f (m * n + j))) (sum_below-places m n f)

-- a sum over words, by their numbers
pub sum_words-numbered : (width k : ℕ) (f : List ℕ → ℤ) → sum_words width k f ≡ sum_below (width ^ k) (λ i. f (get_or (words_of width k) i []))
unfolding sum_below
sum_words-numbered width zero f =
    sym (ap (λ (m : ℕ). sum_below m (λ i. f (get_or (words_of width zero) i []))) (pow-zero width) ∙ (let e : pos 0 +ℤ f [] ≡ f [] = omega (arith, ints) in e))
sum_words-numbered width (suc k) f =
    sum_below-same width (λ i. sum_words width k (λ u. f (suc i ∷ u))) (λ i. sum_below (width ^ k) (λ j. f (get_or (words_of width (suc k)) (i * width ^ k + j) [])))
    (λ i h. sum_words-numbered width k (λ u. f (suc i ∷ u))
    ∙ sum_below-same (width ^ k) (λ j. f (suc i ∷ get_or (words_of width k) j [])) (λ j. f (get_or (words_of width (suc k)) (i * width ^ k + j) [])) (λ j l. ap f (sym (word-at width k i j h l))))
    ∙ sym (sum_below-places width (width ^ k) (λ n. f (get_or (words_of width (suc k)) n [])))
    ∙ (let e : width * width ^ k ≡ width ^ suc k = omega (arith, pow-suc width k) in ap (λ (m : ℕ). sum_below m (λ n. f (get_or (words_of width (suc k)) n []))) e)
