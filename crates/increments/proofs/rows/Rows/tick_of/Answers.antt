use Rattle.std.proofs.Common.{◌∙◌, sym, ap, Some}
use Rattle.std.specs.Option.{option_map}
use Rattle.std.specs.BTreeMap.{values}
use Rattle.definitions.specs.Rows.{RowValue}
use Rattle.increments.specs.Edits.{row_of}
use Rattle.increments.specs.Tables.{place_of}
use Rattle.increments.proofs.Edits.{live}
use Rattle.increments.proofs.Ties.{no_place}
use Rattle.increments.proofs.rows.Rows.tick_of.Goals as goal

pub returns-in_err-place-clause-live : goal.returns-in_err-place-clause-live
returns-in_err-place-clause-live c =
    rw (← c.text.ensures, ← c.self.view_is)
    (live (λ (row : RowValue). row.tick) c.text.result.now (values c.self.inside.rows) c.from_residual.result
    (c.from_residual.ensures
    ∙ ap (option_map (λ (row : RowValue). row.tick)) (sym (no_place (row_of c.text.result.now (values c.self.inside.rows)) (sym c.place_at.ensures ∙ c.in_err-place.was)))))

pub returns-clause-live : goal.returns-clause-live
returns-clause-live c =
    rw (← c.text.ensures, ← c.self.view_is)
    (live place_of c.text.result.now (values c.self.inside.rows) (Some c.in_ok-place.place) (sym c.in_ok-place.was ∙ c.place_at.ensures))
