-- What a table of the Dynkin map keeps.
use Rattle.std.specs.Prelude.{◌≡◌, ℕ, suc, ◌-◌, ◌≤◌, ◌^◌, ℤ, List, ◌∷◌, map, length, slice_index_or}
use Rattle.definitions.specs.Words.{Extent, IsShape}
use Rattle.definitions.specs.AllWords.{words_below}
use Rattle.definitions.specs.Commutators.{sum_words}
use Rattle.definitions.specs.Hall.{hall_list}
use Rattle.lie_bracket.specs.declared.term.Term.{Term}
use Rattle.lie_bracket.specs.Brackets.{coefficient, bracket, majorant}
use Rattle.lie_bracket.specs.Tables.{nonzero}
use Rattle.dynkin_map.specs.Coordinates.{image, growth}

-- the image of a word, by its nonzero coefficients
abbrev pub row_of : Extent → List ℕ → List Term
row_of extent word =
    nonzero (length (hall_list extent.width extent.depth)) (λ h. coefficient h (image (bracket extent.depth (hall_list extent.width extent.depth)) word))

-- the growth of degree k in a shape
abbrev pub growth_of : Extent → ℕ → ℕ
growth_of extent k = growth extent.width extent.depth (hall_list extent.width extent.depth) k

-- the sum over the words of k letters of the coefficients in their images, every sign plus
abbrev pub majorant_sum : Extent → ℕ → ℕ → ℤ
majorant_sum extent k h = sum_words extent.width k (λ u. coefficient h (image (majorant extent.depth (hall_list extent.width extent.depth)) u))

-- the same for those of one letter more, the first of which is a
abbrev pub majorant_sum_with : Extent → ℕ → ℕ → ℕ → ℤ
majorant_sum_with extent k a h = sum_words extent.width k (λ u. coefficient h (image (majorant extent.depth (hall_list extent.width extent.depth)) (a ∷ u)))

-- the growths by degree, which are 2^40 at most
pub record AreGrowths (extent : Extent) (growths : List ℕ) : Type 0 where
  pub eight : length growths ≡ 8
  pub values : (k : ℕ) → 1 ≤ k → k ≤ extent.depth → slice_index_or growths (k - 1) 0 ≡ growth_of extent k
  pub small : (k : ℕ) → 1 ≤ k → k ≤ extent.depth → growth_of extent k ≤ 2 ^ 40

-- the growths by degree from 1, and the images of all words
pub record IsTable (extent : Extent) (members : ℕ) (growths : List ℕ) (rows : List (List Term)) : Type 0 where
  pub shape : IsShape extent
  pub all_members : members ≡ length (hall_list extent.width extent.depth)
  pub few_members : members ≤ 1024
  pub are_growths : AreGrowths extent growths
  pub images : rows ≡ map (row_of extent) (words_below extent.width (suc extent.depth))
