-- What is collected is a functional.
use Rattle.std.proofs.Common.{inl, inr, ◌≡◌, ◌≢◌, ℕ, zero, suc, ◌+◌, ◌*◌, ◌-◌, ◌≤◌, ◌<◌, sym, ap, ◌∙◌, subst, arith, ℤ, pos, negsuc, List, [], ◌∷◌, ◌++◌, length, get_or}
use Rattle.std.specs.Prelude.{All}
use Rattle.std.proofs.lemmas.Bool.{cases_lt}
use Rattle.std.proofs.lemmas.List.{get_or_append_left, get_or-append-add, get_or_default}
use Rattle.std.proofs.lemmas.List.Elements.{All-nil, All-cons, All-head, All-tail}
use Rattle.definitions.specs.Words.{Extent, IsShape, IsWord, IsLetter, shorter, number, words_of}
use Rattle.definitions.specs.Signature.{limit}
use Rattle.definitions.proofs.AllWords.{length-words_below}
use Rattle.definitions.proofs.WordLists.{IsNumbered, word-numbered}
use Rattle.functionals.specs.declared.term.WordTerm.{WordTerm}
use Rattle.scaled_tensor.specs.Tensors.{place}
use Rattle.definitions.specs.AllWords.{words_below}
use Rattle.functionals.specs.Functionals.{word_at, norm, reach, coefficient_at, with_term, gathered, collected, shuffled, shuffle_product, IsFunctional}
use Rattle.functionals.specs.Tables.{IsTableOf}
use Rattle.functionals.proofs.ProductNorms.{shuffle_product-norm}

-- ---- the list of words, by place
record IsPlaced (width k i : ℕ) (word : List ℕ) : Type 0 where
  -- its letters are from 1 to the width
  pub letters : All (IsLetter width) word
  -- it has fewer than k of them
  pub short : length word < k
  -- its place among all words is i
  pub place_is : shorter width (length word) + number width word ≡ i

longer : (width k i : ℕ) (word : List ℕ) → IsPlaced width k i word → IsPlaced width (suc k) i word
longer width k i word is = record { letters = is.letters; short = omega (arith, is.short); place_is = is.place_is }

word-placed : (width k i : ℕ) → i < shorter width k → IsPlaced width k i (get_or (words_below width k) i [])
word-placed width zero i h = absurd (omega arith)
word-placed width (suc k) i h =
    let front : List (List ℕ) = words_below width k in
    let last : List (List ℕ) = words_of width k in
    elim (cases_lt i (shorter width k)) [
      | inl low ↦ subst (λ (w : List ℕ). IsPlaced width (suc k) i w) (sym (get_or_append_left front last [] i (omega (arith, length-words_below width k))))
          (longer width k i (get_or front i []) (word-placed width k i low))
      | inr high ↦
          let j : ℕ = i - shorter width k in
          let here : i ≡ length front + j = omega (arith, length-words_below width k) in
          let is : IsNumbered width k j (get_or last j []) = word-numbered width k j (omega arith) in
          let found : get_or (front ++ last) i [] ≡ get_or last j [] = ap (λ (n : ℕ). get_or (front ++ last) n []) here ∙ get_or-append-add front last j [] in
          subst (λ (w : List ℕ). IsPlaced width (suc k) i w) (sym found)
          (record {
            letters = is.letters;
            short = omega (arith, is.len);
            place_is = omega (arith, ap (shorter width) is.len, is.number_is);
          })
    ]

-- ---- lists of words whose places rise
abbrev Rise : Extent → List (List ℕ) → Type 0
Rise extent [] = Unit {0}
Rise extent (w ∷ ws) = All (λ v. place extent w < place extent v) ws × Rise extent ws

rise-by_index : (extent : Extent) (ws : List (List ℕ)) → ((i j : ℕ) → i < j → j < length ws → place extent (get_or ws i []) < place extent (get_or ws j [])) → Rise extent ws
rise-by_index extent [] up = tt
rise-by_index extent (w ∷ ws) up = (
  λ i d h. subst (λ (v : List ℕ). place extent w < place extent v) (sym (get_or_default ws i d [] h)) (up 0 (suc i) (omega arith) (omega arith)),
  rise-by_index extent ws (λ i j l h. up (suc i) (suc j) (omega arith) (omega arith)),
)

words-rise : (extent : Extent) (k : ℕ) → Rise extent (words_below extent.width k)
words-rise extent k =
    rise-by_index extent (words_below extent.width k)
    (λ i j l h.
    let later : j < shorter extent.width k = omega (arith, length-words_below extent.width k) in
    omega (arith, l, (word-placed extent.width k i (omega arith)).place_is, (word-placed extent.width k j later).place_is))

words-are : (extent : Extent) → All (IsWord extent) (words_below extent.width (suc extent.depth))
words-are extent i d h =
    let is : IsPlaced extent.width (suc extent.depth) i (get_or (words_below extent.width (suc extent.depth)) i []) =
    word-placed extent.width (suc extent.depth) i (omega (arith, length-words_below extent.width (suc extent.depth))) in
    subst (λ (w : List ℕ). IsWord extent w) (sym (get_or_default (words_below extent.width (suc extent.depth)) i d [] h)) (record { short = omega (arith, is.short); letters = is.letters })

-- ---- what is gathered
with_term-all : (P : List ℕ → Type 0) (w : List ℕ) (z : ℤ) (terms : List WordTerm) → P w → All (λ t. P t.word) terms → All (λ t. P t.word) (with_term w z terms)
with_term-all P w (pos zero) terms h rest = rest
with_term-all P w (pos (suc n)) terms h rest = All-cons (λ t. P t.word) (record { word = w; coefficient = pos (suc n) }) terms h rest
with_term-all P w (negsuc n) terms h rest = All-cons (λ t. P t.word) (record { word = w; coefficient = negsuc n }) terms h rest

gathered-all : (P : List ℕ → Type 0) (ws : List (List ℕ)) (terms : List WordTerm) → All P ws → All (λ t. P t.word) (gathered ws terms)
gathered-all P [] terms h = All-nil (λ t. P t.word)
gathered-all P (w ∷ ws) terms h = with_term-all P w (coefficient_at terms w) (gathered ws terms) (All-head P w ws h) (gathered-all P ws terms (All-tail P w ws h))

abbrev IsSome : WordTerm → Type 0
IsSome t = t.coefficient ≢ pos 0

with_term-some : (w : List ℕ) (z : ℤ) (terms : List WordTerm) → All IsSome terms → All IsSome (with_term w z terms)
with_term-some w (pos zero) terms rest = rest
with_term-some w (pos (suc n)) terms rest = All-cons IsSome (record { word = w; coefficient = pos (suc n) }) terms (λ e. cc) rest
with_term-some w (negsuc n) terms rest = All-cons IsSome (record { word = w; coefficient = negsuc n }) terms (λ e. cc) rest

gathered-some : (ws : List (List ℕ)) (terms : List WordTerm) → All IsSome (gathered ws terms)
gathered-some [] terms = All-nil IsSome
gathered-some (w ∷ ws) terms = with_term-some w (coefficient_at terms w) (gathered ws terms) (gathered-some ws terms)

-- terms whose words rise
abbrev Rises : Extent → List WordTerm → Type 0
Rises extent [] = Unit {0}
Rises extent (t ∷ terms) = All (λ r. place extent t.word < place extent r.word) terms × Rises extent terms

with_term-rises : (extent : Extent) (w : List ℕ) (z : ℤ) (terms : List WordTerm) → All (λ r. place extent w < place extent r.word) terms → Rises extent terms → Rises extent (with_term w z terms)
with_term-rises extent w (pos zero) terms above rest = rest
with_term-rises extent w (pos (suc n)) terms above rest = (above, rest)
with_term-rises extent w (negsuc n) terms above rest = (above, rest)

gathered-rises : (extent : Extent) (ws : List (List ℕ)) (terms : List WordTerm) → Rise extent ws → Rises extent (gathered ws terms)
gathered-rises extent [] terms up = tt
gathered-rises extent (w ∷ ws) terms up =
    with_term-rises extent w (coefficient_at terms w) (gathered ws terms) (gathered-all (λ v. place extent w < place extent v) ws terms up.0) (gathered-rises extent ws terms up.1)

rising : (extent : Extent) (terms : List WordTerm) (i : ℕ) → Rises extent terms → suc i < length terms → place extent (word_at terms i) < place extent (word_at terms (suc i))
rising extent [] i up h = absurd (omega arith)
rising extent (t ∷ terms) zero up h = up.0 0 (record { word = []; coefficient = pos 0 }) (omega arith)
rising extent (t ∷ terms) (suc i) up h = rising extent terms i up.1 (omega arith)

collected-functional : (extent : Extent) (terms : List WordTerm) → IsShape extent → norm (collected extent terms) ≤ limit → IsFunctional extent (collected extent terms)
unfolding collected
collected-functional extent terms shape fits = record {
  shape = shape;
  words = gathered-all (IsWord extent) (words_below extent.width (suc extent.depth)) terms (words-are extent);
  rising = λ i h. rising extent (gathered (words_below extent.width (suc extent.depth)) terms) i (gathered-rises extent (words_below extent.width (suc extent.depth)) terms (words-rise extent (suc extent.depth))) h;
  no_zero = gathered-some (words_below extent.width (suc extent.depth)) terms;
  fits = fits;
}

-- the shuffle product is a functional where its norm fits
pub shuffle_product-functional : (extent : Extent) (f g : List WordTerm) → IsFunctional extent f → IsFunctional extent g → reach f + reach g ≤ extent.depth → 70 * (norm f * norm g) ≤ limit
    → IsFunctional extent (shuffle_product extent f g)
shuffle_product-functional extent f g isf isg within room =
    collected-functional extent (shuffled f g) isf.shape (omega (arith, shuffle_product-norm extent f g isf isg within, room))

-- what is collected from a table of all shuffles is a functional, and has the norm of the product
pub table-functional : (extent : Extent) (table : List ℤ) (f g items : List WordTerm) → IsFunctional extent f → IsFunctional extent g → reach f + reach g ≤ extent.depth → 70 * (norm f * norm g) ≤ limit
    → IsTableOf extent table (shuffled f g) → ((terms : List WordTerm) → IsTableOf extent table terms → items ≡ collected extent terms) → IsFunctional extent items
table-functional extent table f g items isf isg within room is from =
    subst (λ (terms : List WordTerm). IsFunctional extent terms) (sym (from (shuffled f g) is)) (shuffle_product-functional extent f g isf isg within room)

-- the norm of what is collected from a table of all shuffles
pub table-norm : (extent : Extent) (table : List ℤ) (f g items : List WordTerm) → IsFunctional extent f → IsFunctional extent g → reach f + reach g ≤ extent.depth
    → IsTableOf extent table (shuffled f g) → ((terms : List WordTerm) → IsTableOf extent table terms → items ≡ collected extent terms) → norm items ≤ 70 * (norm f * norm g)
table-norm extent table f g items isf isg within is from = omega (arith, ap norm (from (shuffled f g) is), shuffle_product-norm extent f g isf isg within)
