use Rattle.std.proofs.Common.{◌≡◌, ◌∙◌, [], ◌∷◌, ◌++◌, List, ap, sym}
use Rattle.definitions.specs.Rows.{RowValue}
use Rattle.timeline.specs.Keys.{key_at, with_at}
use Rattle.timeline.specs.Pasts.{PastValue, with_version, current_rows as current_past}
use Rattle.timeline.specs.Puts.{listed}
use Rattle.versions.specs.declared.edit.Edit.{Edit}
use Rattle.versions.specs.declared.log.Accepted.{Accepted}
use Rattle.versions.specs.Pasts.{past_of_log}
use Rattle.versions.proofs.Pasts.{current-same, past-push}
use Rattle.versions.proofs.record.keep.Goals as goal

pub returns-in-Ok-clause-past : goal.returns-in-Ok-clause-past
returns-in-Ok-clause-past c =
    let edits = c.args.edits.now.items in let tick = c.args.tick in let key = key_at c.args.tick c.args.birth in let new = listed c.args.row in
    let e : Accepted = record { edit = c.args.e.now; tick = tick } in
    let pushed : c.push.new.self.items ≡ edits ++ e ∷ [] = c.in_ok-push.ensures.items ∙ ap (λ (edit : Edit). edits ++ (record { edit = edit; tick = tick }) ∷ []) c.in_ok-copy.ensures in
    c.in-Ok.ensures.ok ∙ ap (λ (p : PastValue). with_version p tick (with_at key new (current_past p))) c.requires.past
    ∙ ap (λ (rs : List RowValue). with_version (past_of_log edits) tick (with_at key new rs)) (current-same edits) ∙ ap (λ (rs : List RowValue). with_version (past_of_log edits) tick rs) (sym c.requires.change)
    ∙ sym (past-push edits e) ∙ ap past_of_log (sym pushed)
