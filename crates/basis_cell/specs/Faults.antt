-- When there are no tables of a shape.
use Rattle.std.specs.Prelude.{◌≡◌, Some, None}
use Rattle.definitions.specs.Words.{Extent}
use Rattle.definitions.specs.Hall.{hall_list}
use Rattle.lie_bracket.specs.declared.fault.TableFault.{TableFault}
use Rattle.lie_bracket.specs.declared.fault.TableFault.TheVariants.{Memory, Pair, Level}
use Rattle.lie_bracket.specs.Tables.{heavy_pair}
use Rattle.dynkin_map.specs.Coordinates.{heavy_level}

-- no pair and no degree is too heavy
pub record AreLight (extent : Extent) : Type 0 where
  pub pairs : heavy_pair extent.depth (hall_list extent.width extent.depth) ≡ None
  pub levels : heavy_level extent ≡ None

-- the first pair that is too heavy; where none is, the first degree
abbrev pub IsTablesFault : Extent → TableFault → Type 0
IsTablesFault extent Memory = Unit {0}
IsTablesFault extent (Pair a b) = heavy_pair extent.depth (hall_list extent.width extent.depth) ≡ Some (a, b)
IsTablesFault extent (Level k) = (heavy_pair extent.depth (hall_list extent.width extent.depth) ≡ None) × (heavy_level extent ≡ Some k)
