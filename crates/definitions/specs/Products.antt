-- Series, which have a whole number for each word, and their scaled product. At a word of k letters the number is over k!.
use Rattle.std.specs.Prelude.{ℕ, suc, List, [], ◌∷◌, length, take, drop, ℤ, pos, ◌*ℤ◌}
use Rattle.definitions.specs.Words.{binom}
use Rattle.definitions.specs.Sums.{sum_below}

-- the series of 1
abbrev pub unit : List ℕ → ℤ
unit [] = pos 1
unit (a ∷ word) = pos 0

-- what the cut of a word after i letters adds to the product
unfoldable pub product_term : (List ℕ → ℤ) → (List ℕ → ℤ) → List ℕ → ℕ → ℤ
product_term a b word i = pos (binom (length word) i) *ℤ (a (take i word) *ℤ b (drop i word))

-- the sum over all ways to cut the word in two
unfoldable pub scaled_product : (List ℕ → ℤ) → (List ℕ → ℤ) → List ℕ → ℤ
scaled_product a b word = sum_below (suc (length word)) (product_term a b word)
