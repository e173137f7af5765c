use Rattle.std.proofs.Common.{◌≡◌, ◌∙◌, ℕ, ap, cond, List, [], ◌∷◌, ◌++◌, Option, unwrap_or}
use Rattle.versions.specs.declared.log.Accepted.{Accepted}
use Rattle.versions.specs.Versions.{IsAccepted, after_edit, edited_tick, current_rows}
use Rattle.watches.specs.Watches.{WatchesValue}
use Rattle.answers.proofs.watched.feed_accepted.Goals as goal

-- an edit that the rows accept is the next one
next-edit : (edits : List Accepted) (e : Accepted) → IsAccepted (current_rows edits) e → after_edit edits e.edit ≡ edits ++ e ∷ []
next-edit edits e is =
    let with_tick : Option ℕ → Accepted = λ o. record { edit = e.edit; tick = unwrap_or o 0 } in
    ap (λ t. cond t (edits ++ with_tick (edited_tick (current_rows edits) e.edit) ∷ []) edits) is.accepted ∙ ap (λ o. edits ++ with_tick o ∷ []) is.tick_is

pub returns-in-Ok : goal.returns-in-Ok
returns-in-Ok c =
    let before : WatchesValue = c.args.watches.now in
    let with_edits : List Accepted → WatchesValue = λ edits. record { log = record { extent = before.log.extent; edits = edits }; intervals = before.intervals } in
    c.in-Ok.ensures.ok ∙ ap with_edits (next-edit before.log.edits c.args.accepted.now c.requires.accepted)
