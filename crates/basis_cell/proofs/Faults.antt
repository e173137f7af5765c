-- The faults of the two tables are those of all tables.
use Rattle.std.proofs.Common.{◌≡◌, ℕ, ◌≤◌, ◌^◌, None}
use Rattle.definitions.specs.Words.{Extent}
use Rattle.definitions.specs.Hall.{hall_list}
use Rattle.lie_bracket.specs.declared.fault.TableFault.{TableFault}
use Rattle.lie_bracket.specs.declared.fault.TableFault.TheVariants.{Memory, Pair, Level}
use Rattle.dynkin_map.specs.Faults.{IsTableFault}
use Rattle.dynkin_map.specs.Table.{growth_of}
use Rattle.dynkin_map.proofs.HeavyLevels.{no-level, past-level}
use Rattle.lie_bracket.specs.Tables.{heavy_pair}
use Rattle.basis_cell.specs.Faults.{AreLight, IsTablesFault}

-- a fault of the table of images is one of all tables, where no pair is too heavy
pub images-fault : (extent : Extent) (fault : TableFault) → heavy_pair extent.depth (hall_list extent.width extent.depth) ≡ None → IsTableFault extent fault → IsTablesFault extent fault
images-fault extent Memory light h = tt
images-fault extent (Pair a b) light h = absurd h
images-fault extent (Level k) light h = (light, past-level extent k h)

-- where no pair and no degree is too heavy, the shape has its tables
pub all-light : (extent : Extent) → heavy_pair extent.depth (hall_list extent.width extent.depth) ≡ None → ((k : ℕ) → 1 ≤ k → k ≤ extent.depth → growth_of extent k ≤ 2 ^ 40) → AreLight extent
all-light extent light small = record { pairs = light; levels = no-level extent small }
