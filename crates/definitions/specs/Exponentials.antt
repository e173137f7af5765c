-- The product by plain concatenation, its powers, and the exponential of a series that is 0 at the empty word.
use Rattle.std.specs.Prelude.{ℕ, zero, suc, ◌/◌, List, length, take, drop, ℤ, pos, ◌*ℤ◌}
use Rattle.definitions.specs.Words.{factorial}
use Rattle.definitions.specs.Sums.{sum_below}
use Rattle.definitions.specs.Products.{unit}

-- the sum over all ways to cut the word in two
unfoldable pub plain_product : (List ℕ → ℤ) → (List ℕ → ℤ) → List ℕ → ℤ
plain_product s t word = sum_below (suc (length word)) (λ i. s (take i word) *ℤ t (drop i word))

-- the m-th power
abbrev pub plain_power : (List ℕ → ℤ) → ℕ → List ℕ → ℤ
plain_power z zero = unit
plain_power z (suc m) = plain_product z (plain_power z m)

-- the exponential: at a word of k letters the numerator over k!
unfoldable pub exponential : (List ℕ → ℤ) → List ℕ → ℤ
exponential z word = sum_below (suc (length word)) (λ m. pos (factorial (length word) / factorial m) *ℤ plain_power z m word)
