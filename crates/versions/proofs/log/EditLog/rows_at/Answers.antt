use Rattle.std.proofs.Common.{take}
use Rattle.versions.specs.Versions.{IsLog}
use Rattle.versions.proofs.Replays.{IsLog-take}
use Rattle.std.proofs.Common.{List, sym, subst}
use Rattle.versions.specs.declared.log.Accepted.{Accepted}
use Rattle.versions.specs.Versions.{LogValue}
use Rattle.versions.proofs.log.EditLog.rows_at.Goals as goal

pub replay-requires : goal.replay-requires
replay-requires c =
    let first : List Accepted → LogValue = λ es. record { extent = c.self.inside.shape; edits = take c.args.v es } in
    let log : LogValue = record { extent = c.self.inside.shape; edits = c.self.inside.edits.items } in
    subst (λ (es : List Accepted). IsLog (first es)) (sym c.deref.ensures.value) (IsLog-take log c.args.v c.self.invariant.log_is)
