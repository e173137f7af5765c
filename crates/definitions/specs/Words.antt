-- Words, their order, and binomials.
use Rattle.std.specs.Prelude.{ℕ, zero, suc, ◌+◌, ◌-◌, ◌*◌, ◌^◌, ◌≤◌, List, [], ◌∷◌, ◌++◌, All, length, map, flat_map}

-- how many letters there are, and how many of them a word has at most
pub record Extent : Type 0 where
  pub width : ℕ
  pub depth : ℕ

-- how many words have fewer than k letters
abbrev pub shorter : ℕ → ℕ → ℕ
shorter width zero = 0
shorter width (suc k) = shorter width k + width ^ k

-- the extents that are served
pub record IsShape (extent : Extent) : Type 0 where
  pub some_width : 1 ≤ extent.width
  pub within_width : extent.width ≤ 12
  pub some_depth : 1 ≤ extent.depth
  pub within_depth : extent.depth ≤ 8
  pub within_words : shorter extent.width (suc extent.depth) ≤ 2000

-- the letters are 1 .. width
abbrev pub IsLetter : ℕ → ℕ → Type 0
IsLetter width a = (1 ≤ a) × (a ≤ width)

-- at most as many letters as the depth, each from 1 to the width
pub record IsWord (extent : Extent) (word : List ℕ) : Type 0 where
  pub short : length word ≤ extent.depth
  pub letters : All (IsLetter extent.width) word

-- 1 .. n
abbrev pub up_to : ℕ → List ℕ
up_to zero = []
up_to (suc n) = up_to n ++ suc n ∷ []

-- the words of k letters, in lexicographic order
abbrev pub words_of : ℕ → ℕ → List (List ℕ)
words_of width zero = [] ∷ []
words_of width (suc k) = flat_map (λ a. map (λ word. a ∷ word) (words_of width k)) (up_to width)

-- the number of a word among those of its length in that order, from 0
abbrev pub number : ℕ → List ℕ → ℕ
number width [] = 0
number width (a ∷ word) = (a - 1) * width ^ length word + number width word

-- Pascal's rule
abbrev pub binom : ℕ → ℕ → ℕ
binom n zero = 1
binom zero (suc k) = 0
binom (suc n) (suc k) = binom n k + binom n (suc k)

-- n! = 1 * 2 * .. * n
abbrev pub factorial : ℕ → ℕ
factorial zero = 1
factorial (suc n) = suc n * factorial n
