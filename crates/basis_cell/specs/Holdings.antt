-- Whose tables are held.
use Rattle.definitions.specs.Words.{Extent}
use Rattle.basis_cell.specs.declared.cell.Held.{Held}
use Rattle.basis_cell.specs.declared.cell.Held.TheVariants.{Shared, Own}

-- the extent of the tables that are held
abbrev pub extent_of : Held → Extent
extent_of (Shared tables) = tables.now
extent_of (Own tables) = tables.value
