-- What reading a list of elements line by line keeps.
use Rattle.std.specs.Prelude.{◌≡◌, ℕ, ◌≤◌, List, [], ◌∷◌, ◌++◌, All, length, Option, Some, None, IfSome, Result, MatchResult}
use Rattle.definitions.specs.Words.{Extent, IsShape}
use Rattle.definitions.specs.Moves.{Parts, IsMove}
use Rattle.spellings.specs.Lines.{words_in}
use Rattle.script_reader.specs.Limits.{named}
use Rattle.script_reader.specs.Forms.{extent_of}
use Rattle.cbh_calc.specs.Elements.{move_in}

-- the extent after one line more
abbrev pub extent_with : Option Extent → List ℕ → Extent
extent_with None line = extent_of (words_in line)
extent_with (Some extent) line = extent

-- the moves after one line more
abbrev pub moves_with : Option Extent → List Parts → List ℕ → List Parts
moves_with None moves line = moves
moves_with (Some extent) moves line = moves ++ move_in extent line ∷ []

-- what is kept while a list is read
pub record Keeps (extent : Option Extent) (moves : List Parts) : Type 0 where
  pub shaped : IfSome extent IsShape
  pub few : length moves ≤ 4096
  pub good : All (IsMove (named extent)) moves
