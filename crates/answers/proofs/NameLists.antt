-- The texts of words and of members of the Hall set, one after another.
use Rattle.std.proofs.Common.{add-one, ◌≡◌, ℕ, zero, suc, ◌+◌, ◌<◌, ◌^◌, refl, sym, ap, ◌∙◌, arith, List, [], ◌∷◌, ◌++◌, length, take, get_or, append_assoc, inl, inr}
use Rattle.std.specs.Prelude.{map}
use Rattle.std.proofs.lemmas.Bool.{cases_lt}
use Rattle.std.proofs.lemmas.List.{length-map, map-append, map_more, map_push, get_or-map, get_or_append_left, get_or_push, length_push}
use Rattle.definitions.specs.Words.{up_to, words_of, shorter}
use Rattle.definitions.specs.AllWords.{words_below}
use Rattle.definitions.proofs.AllWords.{length-words_below, words_below-at}
use Rattle.definitions.proofs.WordLaws.{shorter_part}
use Rattle.definitions.proofs.WordLists.{IsNumbered, length-words_of, word-of-number}
use Rattle.answers.specs.Text.{word_text}

-- the text of one word more
pub words-more : (width k i : ℕ) (word : List ℕ) (start texts next : List (List ℕ)) → i < width ^ k → IsNumbered width k i word
    → texts ≡ start ++ map word_text (take i (words_of width k)) → next ≡ texts ++ word_text word ∷ []
    → next ≡ start ++ map word_text (take (i + 1) (words_of width k))
words-more width k i word start texts next within is before step =
    step ∙ ap (λ (ts : List (List ℕ)). ts ++ word_text word ∷ []) before
    ∙ append_assoc start (map word_text (take i (words_of width k))) (word_text word ∷ [])
    ∙ ap (λ (w : List ℕ). start ++ (map word_text (take i (words_of width k)) ++ word_text w ∷ [])) (sym (word-of-number width k i word within is))
    ∙ ap (λ (ts : List (List ℕ)). start ++ ts) (sym (map_more word_text (words_of width k) i [] (omega (arith, length-words_of width k))))

-- those of one length more
pub lengths-more : (width k : ℕ) (texts next : List (List ℕ)) → texts ≡ map word_text (words_below width k) → next ≡ texts ++ map word_text (words_of width k)
    → next ≡ map word_text (words_below width (k + 1))
lengths-more width k texts next before step =
    step ∙ ap (λ (ts : List (List ℕ)). ts ++ map word_text (words_of width k)) before
    ∙ sym (map-append word_text (words_below width k) (words_of width k))
    ∙ ap (λ (n : ℕ). map word_text (words_below width n)) (sym (add-one k))

-- where the text of a word stands
pub word-within : (width k n i : ℕ) → k < n → i < width ^ k → shorter width k + i < length (map word_text (words_below width n))
word-within width k n i lt within =
    omega (arith, length-map (words_below width n) word_text, length-words_below width n, shorter_part width (suc k) n (omega arith))

pub word-there : (width k n i : ℕ) → k < n → i < width ^ k → get_or (map word_text (words_below width n)) (shorter width k + i) [] ≡ word_text (get_or (words_of width k) i [])
word-there width k n i lt within =
    get_or-map word_text (words_below width n) (shorter width k + i) [] [] (omega (arith, word-within width k n i lt within, length-map (words_below width n) word_text))
    ∙ ap word_text (words_below-at width k n i lt within)

-- ---- members
length-numbers : (n : ℕ) → length (up_to n) ≡ n
length-numbers zero = refl
length-numbers (suc n) = omega (arith, length-numbers n, length_push (up_to n) (suc n))

-- what there is for one number more
pub numbers-more : (f : ℕ → List ℕ) (n : ℕ) (texts next : List (List ℕ)) → texts ≡ map f (up_to n) → next ≡ texts ++ f (n + 1) ∷ [] → next ≡ map f (up_to (n + 1))
numbers-more f n texts next before step =
    step ∙ ap (λ (ts : List (List ℕ)). ts ++ f (n + 1) ∷ []) before
    ∙ ap (λ (m : ℕ). map f (up_to n) ++ f m ∷ []) (add-one n)
    ∙ sym (map_push f (up_to n) (suc n))
    ∙ ap (λ (m : ℕ). map f (up_to m)) (sym (add-one n))

-- and for a number by its place
pub number-within : (f : ℕ → List ℕ) (n i : ℕ) → i < n → i < length (map f (up_to n))
number-within f n i within = omega (arith, length-map (up_to n) f, length-numbers n)

pub number-there : (f : ℕ → List ℕ) (n i : ℕ) → i < n → get_or (map f (up_to n)) i [] ≡ f (suc i)
number-there f zero i within = absurd (omega arith)
number-there f (suc n) i within =
    ap (λ (ts : List (List ℕ)). get_or ts i []) (map_push f (up_to n) (suc n))
    ∙ elim (cases_lt i n) [
      | inl lt ↦ get_or_append_left (map f (up_to n)) (f (suc n) ∷ []) [] i (number-within f n i lt) ∙ number-there f n i lt
      | inr le ↦
          let same : i ≡ n = omega arith in
          get_or_push (map f (up_to n)) (f (suc n)) [] i (omega (arith, length-map (up_to n) f, length-numbers n, same)) ∙ ap (λ (m : ℕ). f (suc m)) (sym same)
    ]
