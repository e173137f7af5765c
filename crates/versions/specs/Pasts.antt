-- The rows of each version of a log, beside it.
use Rattle.std.specs.Prelude.{◌≡◌, ℕ, suc, List, [], ◌∷◌, map}
use Rattle.definitions.specs.Words.{Extent}
use Rattle.definitions.specs.Rows.{RowValue}
use Rattle.increments.specs.Edits.{RowsValue}
use Rattle.timeline.specs.Pasts.{PastValue}
use Rattle.versions.specs.declared.log.Accepted.{Accepted}
use Rattle.versions.specs.Versions.{edited, LogValue, IsLog}
use Rattle.versions.specs.Streams.{rows_of}

-- these rows, and those after each of these edits, of which the first makes the version after v
abbrev pub pasts : ℕ → List Accepted → List RowValue → List (List RowValue)
pasts v [] rows = rows ∷ []
pasts v (e ∷ edits) rows = rows ∷ pasts (suc v) edits (edited (suc v) e.edit rows)

-- the tick that each edit touched, and the rows of each version
abbrev pub past_of_log : List Accepted → PastValue
past_of_log edits = record { ticks = map (λ e. e.tick) edits; rows = pasts 0 edits [] }

abbrev pub log_with : Extent → List Accepted → LogValue
log_with shape list = record { extent = shape; edits = list }

-- the rows of each version and those of the current one are those of the log
pub record IsKept (log : LogValue) (line : PastValue) (current : RowsValue) : Type 0 where
  pub log_is : IsLog log
  pub past : line ≡ past_of_log log.edits
  pub rows : current ≡ rows_of log
