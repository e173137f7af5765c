use Rattle.std.proofs.Common.{◌<◌, ◌^◌, ℕ, sym, subst, arith, List, take}
use Rattle.std.proofs.lemmas.List.Elements.{All-get_or}
use Rattle.definitions.specs.Rows.{RowValue}
use Rattle.versions.specs.declared.log.Accepted.{Accepted}
use Rattle.versions.specs.Versions.{LogValue, IsEdit, IsAccepted, current_rows, rows_at}
use Rattle.versions.proofs.Replays.{current_rows-replayed, IsLog-accepted_at}
use Rattle.watches.specs.Watches.{WatchesValue}
use Rattle.answers.proofs.watched.watched.Goals as goal

pub feed_accepted-requires : goal.feed_accepted-requires
feed_accepted-requires c =
    let log : LogValue = record { extent = c.args.shape; edits = c.args.edits.now } in
    let i : ℕ = c.loop-accepted.accepted-index in
    let e : Accepted = c.accepted-item.result in
    let within = All-get_or (λ (e : Accepted). IsEdit log.extent e.edit × (e.tick < 2 ^ 32)) log.edits i e (omega arith) c.requires.log.within in
    let accepted : IsAccepted (rows_at log.edits i) e = subst (λ (q : Accepted). IsAccepted (rows_at log.edits i) q) (sym c.accepted-item.is) (IsLog-accepted_at log i e c.requires.log (omega arith)) in
    record {
      edit = subst (λ (w : WatchesValue). IsEdit w.log.extent e.edit) (sym c.loop-accepted.invariant) (subst (λ (q : Accepted). IsEdit log.extent q.edit) (sym c.accepted-item.is) within.0);
      accepted = subst (λ (w : WatchesValue). IsAccepted (current_rows w.log.edits) e) (sym c.loop-accepted.invariant)
          (subst (λ (rows : List RowValue). IsAccepted rows e) (sym (current_rows-replayed (take i log.edits))) accepted);
    }
