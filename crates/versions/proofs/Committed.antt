-- The rows beside a log, once both have an edit.
use Rattle.std.proofs.Common.{◌≡◌, ◌∙◌, ◌+◌, sym, ap, [], ◌∷◌, ◌++◌, length, List}
use Rattle.definitions.specs.Rows.{RowValue}
use Rattle.increments.specs.Edits.{RowsValue}
use Rattle.versions.specs.declared.log.Accepted.{Accepted}
use Rattle.versions.specs.Versions.{LogValue, edited}
use Rattle.versions.specs.Streams.{rows_of}
use Rattle.versions.proofs.Replays.{current_rows-push}

-- the rows that took the edit are those of the log that has it
pub committed : (log after : LogValue) (rows new : RowsValue) (e : Accepted) → rows ≡ rows_of log → after ≡ record { extent = log.extent; edits = log.edits ++ e ∷ [] }
    → new ≡ record { extent = rows.extent; rows = edited (length log.edits + 1) e.edit rows.rows } → new ≡ rows_of after
committed log after rows new e beside pushed took =
    let Rows : List RowValue → RowsValue = λ rs. record { extent = log.extent; rows = rs } in
    let same : ◌≡◌ {A = RowsValue} (record { extent = rows.extent; rows = edited (length log.edits + 1) e.edit rows.rows }) (Rows (edited (length log.edits + 1) e.edit (rows_of log).rows)) =
    ap (λ (r : RowsValue). let q : RowsValue = record { extent = r.extent; rows = edited (length log.edits + 1) e.edit r.rows } in q) beside in
    took ∙ same ∙ ap Rows (sym (current_rows-push log.edits e)) ∙ ap rows_of (sym pushed)
