use Rattle.std.proofs.Common.{sym, subst}
use Rattle.increments.specs.Edits.{RowsValue}
use Rattle.versions.specs.Versions.{LogValue, IsEdit, IsAccepted}
use Rattle.versions.proofs.Kept.{accepted-tick}
use Rattle.versions.proofs.stream.Stream.edit.Goals as goal

pub commit-requires-clause-tick : goal.commit-requires-clause-tick
commit-requires-clause-tick c =
    let log : LogValue = c.self.inside.log in
    accepted-tick log c.args.e.now c.in-Some.tick c.rows.ensures.log (subst (λ (l : LogValue). IsEdit l.extent c.args.e.now) (sym c.self.view_is) c.requires)
    (subst (λ (r : RowsValue). IsAccepted r.rows (record { edit = c.args.e.now; tick = c.in-Some.tick })) c.rows.ensures.value c.in-Some.ensures.some)
