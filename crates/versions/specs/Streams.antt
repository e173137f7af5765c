-- A log with the rows of its current version.
use Rattle.increments.specs.Edits.{RowsValue}
use Rattle.versions.specs.Versions.{LogValue, current_rows}

-- the rows of the current version
abbrev pub rows_of : LogValue → RowsValue
rows_of log = record { extent = log.extent; rows = current_rows log.edits }
