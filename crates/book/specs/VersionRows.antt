-- The rows of a version.
use Rattle.std.specs.Prelude.{◌<◌, ◌^◌, List, All, length}
use Rattle.definitions.specs.Words.{Extent}
use Rattle.definitions.specs.Moves.{IsMove}
use Rattle.definitions.specs.Rows.{RowValue}
use Rattle.increments.specs.Edits.{IsInOrder}

-- they are in order, have moves of the extent, and are fewer than 2 ^ 63
pub record AreVersionRows (extent : Extent) (rows : List RowValue) : Type 0 where
  pub order : IsInOrder rows
  pub moves : All (λ row. IsMove extent row.x) rows
  pub few : length rows < 2 ^ 63
