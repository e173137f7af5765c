use Rattle.std.proofs.Common.{◌≡◌, ◌∙◌, ℕ, ◌+◌, sym, ap, subst, List, [], ◌∷◌, ◌++◌, length}
use Rattle.increments.specs.Edits.{RowsValue}
use Rattle.versions.specs.declared.log.Accepted.{Accepted}
use Rattle.versions.specs.Versions.{LogValue, IsAccepted, after_edit, current_rows}
use Rattle.watches.specs.Lists.{AreTold}
use Rattle.watches.specs.Watches.{WatchesValue, AreWatches}
use Rattle.watches.proofs.Feeds.{after-accepted, version-accepted, still-watches, fed-watches}
use Rattle.watches.proofs.watches.take_edit.Goals as goal

pub returns-clause-kept : goal.returns-clause-kept
returns-clause-kept c =
    let log : LogValue = c.args.stream.now in
    let intervals = c.args.spans.now in
    let e : Accepted = record { edit = c.args.e.now; tick = c.in_ok-tick.tick } in
    let accepted : IsAccepted (current_rows log.edits) e = subst (λ (r : RowsValue). IsAccepted r.rows e) c.rows.ensures c.in_ok-tick.ensures.ok in
    let Log : List Accepted → LogValue = λ l. record { extent = log.extent; edits = l } in
    let stream : c.edit.new.self ≡ Log (log.edits ++ e ∷ []) = c.in_ok-version.ensures.after ∙ ap Log (after-accepted log.edits e.edit e.tick accepted) in
    let version : c.in-Done.version ≡ length log.edits + 1 =
    version-accepted log.edits e.edit c.in-Done.version accepted.accepted (sym c.in-Done.is ∙ c.in_ok-version.ensures.reply) in
    let before : WatchesValue = record { log = log; intervals = intervals } in
    subst (λ (l : LogValue). AreWatches (record { log = l; intervals = intervals }) c.push_each.new.lists) (sym stream)
    (fed-watches log intervals c.reserve_each.new.lists c.push_each.new.lists e c.holders_at-holders.result.now c.holders_at-holders.ensures
    (subst (λ v. AreTold c.reserve_each.new.lists c.push_each.new.lists c.holders_at-holders.result.now v) version c.push_each.ensures)
    (still-watches before c.args.lists.now c.reserve_each.new.lists c.requires.kept c.in_ok-reserve_each.ensures.same))
