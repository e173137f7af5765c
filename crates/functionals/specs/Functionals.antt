-- Linear functionals of series: lists of words with whole numbers, their values, and their shuffle product.
use Rattle.std.specs.Prelude.{◌≢◌, ℕ, zero, suc, ◌*◌, ◌^◌, ◌/◌, ◌≤◌, ◌<◌, max, nat_eq, cond, List, [], ◌∷◌, ◌++◌, map, length, slice_index_or, sum_by, All, ℤ, pos, negsuc, ◌+ℤ◌, ◌*ℤ◌, unsigned_abs}
use Rattle.std.specs.Str.{bytes_eq}
use Rattle.definitions.specs.Words.{Extent, IsShape, IsWord, factorial}
use Rattle.definitions.specs.AllWords.{words_below}
use Rattle.definitions.specs.Shuffles.{shuffles}
use Rattle.definitions.specs.Signature.{limit}
use Rattle.scaled_tensor.specs.Tensors.{place}
use Rattle.functionals.specs.declared.term.WordTerm.{WordTerm}

abbrev pub term : List ℕ → ℤ → WordTerm
term word c = record { word = word; coefficient = c }

-- ---- what a list of terms is
-- the sum of the coefficients of a word
abbrev pub coefficient_at : List WordTerm → List ℕ → ℤ
coefficient_at [] word = pos 0
coefficient_at (t ∷ terms) word = cond (bytes_eq t.word word) t.coefficient (pos 0) +ℤ coefficient_at terms word

-- what a term adds to the value
abbrev pub term_value : ℕ → (List ℕ → ℤ) → WordTerm → ℤ
term_value depth series t = t.coefficient *ℤ (series t.word *ℤ pos (factorial depth / factorial (length t.word)))

-- the value at a series, whose number at a word of k letters is over k!: the value is over depth!
abbrev pub value : ℕ → (List ℕ → ℤ) → List WordTerm → ℤ
value depth series [] = pos 0
value depth series (t ∷ terms) = term_value depth series t +ℤ value depth series terms

-- the absolute value of a term's value, and their sum
abbrev pub term_size : ℕ → (List ℕ → ℤ) → WordTerm → ℕ
term_size depth series t = unsigned_abs t.coefficient * unsigned_abs (series t.word) * (factorial depth / factorial (length t.word))

abbrev pub size : ℕ → (List ℕ → ℤ) → List WordTerm → ℕ
size depth series terms = sum_by (term_size depth series) terms

-- the greatest value of a term at a signature of this weight, and the sum of these
abbrev pub term_bound : ℕ → ℕ → WordTerm → ℕ
term_bound depth weight t = weight ^ length t.word * (factorial depth / factorial (length t.word)) * unsigned_abs t.coefficient

abbrev pub value_bound : ℕ → ℕ → List WordTerm → ℕ
value_bound depth weight terms = sum_by (term_bound depth weight) terms

-- the sum of the absolute values of the coefficients
abbrev pub norm : List WordTerm → ℕ
norm terms = sum_by (λ t. unsigned_abs t.coefficient) terms

-- that sum over the words of k letters
abbrev pub mass : ℕ → List WordTerm → ℕ
mass k terms = sum_by (λ t. cond (nat_eq (length t.word) k) (unsigned_abs t.coefficient) 0) terms

-- the greatest number of letters, 0 for no terms
abbrev pub reach : List WordTerm → ℕ
reach [] = 0
reach (t ∷ terms) = max (length t.word) (reach terms)

-- ---- functionals
abbrev pub term_at : List WordTerm → ℕ → WordTerm
term_at terms i = slice_index_or terms i (term [] (pos 0))

abbrev pub word_at : List WordTerm → ℕ → List ℕ
word_at terms i = (term_at terms i).word

-- the extent is served, the words are of it and rise, no coefficient is 0, and the absolute values add up to at most 2^127 - 1
pub record IsFunctional (extent : Extent) (terms : List WordTerm) : Type 0 where
  pub shape : IsShape extent
  pub words : All (λ t. IsWord extent t.word) terms
  pub rising : (i : ℕ) → suc i < length terms → place extent (word_at terms i) < place extent (word_at terms (suc i))
  pub no_zero : All (λ t. t.coefficient ≢ pos 0) terms
  pub fits : norm terms ≤ limit

-- a list of terms with its extent
pub record FunctionalValue : Type 0 where
  pub extent : Extent
  pub terms : List WordTerm

-- ---- the shuffle product
-- these words, each with this coefficient
abbrev pub each_with : ℤ → List (List ℕ) → List WordTerm
each_with c words = map (λ w. term w c) words

-- the words behind a prefix
abbrev pub behind : List ℕ → List (List ℕ) → List (List ℕ)
behind p ws = map (λ w. p ++ w) ws

-- the shuffles of the words of two terms, each with the product of the coefficients
abbrev pub shuffled_pair : WordTerm → WordTerm → List WordTerm
shuffled_pair t r = each_with (t.coefficient *ℤ r.coefficient) (shuffles t.word r.word)

-- one term with each of a list
abbrev pub shuffled_by : WordTerm → List WordTerm → List WordTerm
shuffled_by t [] = []
shuffled_by t (r ∷ g) = shuffled_pair t r ++ shuffled_by t g

-- each shuffle of a word of f and one of g, with the product of their coefficients; the same word may stand in several places
abbrev pub shuffled : List WordTerm → List WordTerm → List WordTerm
shuffled [] g = []
shuffled (t ∷ f) g = shuffled_by t g ++ shuffled f g

-- a term before these, where it isn't 0
abbrev pub with_term : List ℕ → ℤ → List WordTerm → List WordTerm
with_term word (pos zero) terms = terms
with_term word (pos (suc n)) terms = term word (pos (suc n)) ∷ terms
with_term word (negsuc n) terms = term word (negsuc n) ∷ terms

-- these words with the sums of their coefficients, those that are 0 left out
abbrev pub gathered : List (List ℕ) → List WordTerm → List WordTerm
gathered [] terms = []
gathered (w ∷ ws) terms = with_term w (coefficient_at terms w) (gathered ws terms)

-- the words of the extent with the sums of their coefficients
unfoldable pub collected : Extent → List WordTerm → List WordTerm
collected extent terms = gathered (words_below extent.width (suc extent.depth)) terms

abbrev pub shuffle_product : Extent → List WordTerm → List WordTerm → List WordTerm
shuffle_product extent f g = collected extent (shuffled f g)
