use Rattle.std.proofs.Common.{◌≡◌, ◌∙◌, ◌+◌, ◌<◌, sym, ap, subst, arith, true, List}
use Rattle.std.specs.Prelude.{All}
use Rattle.definitions.specs.Rows.{RowValue}
use Rattle.increments.specs.Edits.{RowsValue}
use Rattle.versions.specs.declared.log.Accepted.{Accepted}
use Rattle.versions.specs.Versions.{LogValue, accepts, edited, rows_at}
use Rattle.versions.proofs.Replays.{IsLog-accepted_at, rows_at-next}
use Rattle.versions.proofs.Births.{younger}
use Rattle.versions.proofs.replay.replay.Goals as goal

pub take_next-requires-clause-accepted : goal.take_next-requires-clause-accepted
take_next-requires-clause-accepted c =
    let log : LogValue = record { extent = c.args.shape; edits = c.args.edits.now } in
    let e : Accepted = c.index-edits-i.result in
    subst (λ (r : RowsValue). accepts r.rows e.edit ≡ true) (sym c.loop-i.invariant)
    (subst (λ (q : Accepted). accepts (rows_at c.args.edits.now c.loop-i.i) q.edit ≡ true) (sym c.index-edits-i.is) (IsLog-accepted_at log c.loop-i.i e c.requires (omega arith)).accepted)

pub take_next-requires-clause-births : goal.take_next-requires-clause-births
take_next-requires-clause-births c =
    let log : LogValue = record { extent = c.args.shape; edits = c.args.edits.now } in
    subst (λ (r : RowsValue). All (λ (row : RowValue). row.birth < c.loop-i.i + 1) r.rows) (sym c.loop-i.invariant) (younger log c.loop-i.i c.requires (omega arith))

pub loop-i-preserved : goal.loop-i-preserved
loop-i-preserved c =
    let e : Accepted = c.index-edits-i.result in
    let took : RowsValue → RowsValue = λ r. record { extent = r.extent; rows = edited (c.loop-i.i + 1) e.edit r.rows } in
    let with_rows : List RowValue → RowsValue = λ rs. record { extent = c.args.shape; rows = rs } in
    c.in_ok-take_next.ensures.ok ∙ ap took c.loop-i.invariant
    ∙ ap with_rows
    (ap (λ (q : Accepted). edited (c.loop-i.i + 1) q.edit (rows_at c.args.edits.now c.loop-i.i)) c.index-edits-i.is ∙ sym (rows_at-next c.args.edits.now c.loop-i.i e (omega arith)))
