-- The series that the coordinates of a logarithm stand for, and the product of such series.
use Rattle.std.specs.Prelude.{◌≡◌, ℕ, List, All, fold, length, ℤ, pos, int_div}
use Rattle.definitions.specs.Words.{Extent}
use Rattle.definitions.specs.Products.{unit, scaled_product}
use Rattle.definitions.specs.Hall.{hall_list, expansion}
use Rattle.definitions.specs.Moves.{Parts, IsMove}
use Rattle.definitions.specs.Signature.{signature, weight as weight_of}
use Rattle.definitions.specs.Logarithm.{logarithm}
use Rattle.lie_bracket.specs.declared.term.Term.{Term}
use Rattle.lie_bracket.specs.Brackets.{expanded}
use Rattle.dynkin_map.specs.Coordinates.{coordinates}
use Rattle.exp_laws.specs.Unfolded.{unfolded}

-- the sum of the members of the Hall list, with these factors
abbrev pub expansion_of : Extent → List Term → List ℕ → ℤ
expansion_of extent z word = expanded (expansion (hall_list extent.width extent.depth)) z word

-- the logarithm with these coordinates: at a word of k letters the expansion, over k
unfoldable pub log_of : Extent → List Term → List ℕ → ℤ
log_of extent z word = int_div (expansion_of extent z word) (pos (length word))

-- the series with this logarithm
unfoldable pub series_of : Extent → List Term → List ℕ → ℤ
series_of extent z word = unfolded (log_of extent z) extent.depth word

-- the product of the series of parts, from left to right
unfoldable pub product_of : Extent → List (List Term × ℕ) → List ℕ → ℤ
product_of extent parts = fold (λ series part. scaled_product series (series_of extent part.0)) unit parts

-- the coordinates of the logarithm of the signature of these moves, with their weight
pub record AreCoordinates (extent : Extent) (moves : List Parts) (z : List Term) (weight : ℕ) : Type 0 where
  pub moves_are : All (IsMove extent) moves
  pub coordinates_are : z ≡ coordinates extent (logarithm (signature moves))
  pub weight_is : weight ≡ weight_of moves
