use Rattle.std.proofs.Common.{◌≡◌, ◌∙◌, ◌<◌, ◌≤◌, ◌^◌, length, arith, ap, sym, subst}
use Rattle.timeline.specs.Pasts.{PastValue, rows_at as timeline_rows}
use Rattle.versions.specs.Versions.{LogValue, rows_at as rows_at_version}
use Rattle.versions.specs.Pasts.{past_of_log}
use Rattle.versions.proofs.Pasts.{rows-same, count-same}
use Rattle.std.specs.Prelude.{All}
use Rattle.definitions.specs.Moves.{IsMove}
use Rattle.increments.specs.Edits.{IsInOrder}
use Rattle.versions.proofs.InOrder.{rows-in-order}
use Rattle.versions.proofs.VersionRows.{rows-have_moves, rows-few}
use Rattle.versions.proofs.log.EditLog.view_at.Goals as goal

pub of-requires : goal.of-requires
of-requires c =
    let edits = c.self.inside.edits.items in
    let past : c.self.inside.line ≡ past_of_log edits = c.self.invariant.past in
    let within : c.args.v ≤ length edits = subst (λ (l : LogValue). c.args.v ≤ length l.edits) (sym c.self.view_is) c.requires in
    omega (arith, within, ap (λ (p : PastValue). length p.ticks) past, count-same edits)

pub returns-clause-value : goal.returns-clause-value
returns-clause-value c =
    let edits = c.self.inside.edits.items in
    let past : c.self.inside.line ≡ past_of_log edits = c.self.invariant.past in
    let within : c.args.v ≤ length edits = subst (λ (l : LogValue). c.args.v ≤ length l.edits) (sym c.self.view_is) c.requires in
    c.of.ensures ∙ ap (λ (p : PastValue). timeline_rows p c.args.v) past ∙ rows-same edits c.args.v within ∙ ap (λ (l : LogValue). rows_at_version l.edits c.args.v) c.self.view_is

pub returns-clause-order : goal.returns-clause-order
returns-clause-order c =
    let log : LogValue = record { extent = c.self.inside.shape; edits = c.self.inside.edits.items } in
    let within : c.args.v ≤ length log.edits = subst (λ (l : LogValue). c.args.v ≤ length l.edits) (sym c.self.view_is) c.requires in
    subst (λ (l : LogValue). IsInOrder (rows_at_version l.edits c.args.v)) c.self.view_is (rows-in-order log c.args.v c.self.invariant.log_is within)

pub returns-clause-moves : goal.returns-clause-moves
returns-clause-moves c =
    let log : LogValue = record { extent = c.self.inside.shape; edits = c.self.inside.edits.items } in
    let within : c.args.v ≤ length log.edits = subst (λ (l : LogValue). c.args.v ≤ length l.edits) (sym c.self.view_is) c.requires in
    subst (λ (l : LogValue). All (λ row. IsMove l.extent row.x) (rows_at_version l.edits c.args.v)) c.self.view_is (rows-have_moves log c.args.v c.self.invariant.log_is within)

pub returns-clause-few : goal.returns-clause-few
returns-clause-few c =
    let log : LogValue = record { extent = c.self.inside.shape; edits = c.self.inside.edits.items } in
    let within : c.args.v ≤ length log.edits = subst (λ (l : LogValue). c.args.v ≤ length l.edits) (sym c.self.view_is) c.requires in
    subst (λ (l : LogValue). length (rows_at_version l.edits c.args.v) < 2 ^ 63) c.self.view_is (omega (arith, rows-few log.edits c.args.v within, within, c.self.inside.edits.ok.0))
