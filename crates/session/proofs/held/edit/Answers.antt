-- The book that the pass takes is ready for an edit of its session, which is then the last step.
use Rattle.std.proofs.Common.{◌∙◌, refl, ap}
use Rattle.versions.specs.Versions.{edit_reply}
use Rattle.book.specs.Play.{Editing}
use Rattle.book.specs.Books.{BookValue, state_of}
use Rattle.session.proofs.HoldLaws.{holds, holds-ready, holds-free, holds-entry, holds-adds, holds-gave_up, holds-still, added-still, added-idle}
use Rattle.session.proofs.held.edit.Goals as goal

pub edit-requires-clause-ready : goal.edit-requires-clause-ready
edit-requires-clause-ready g c =
    let took = c.in_ok-book.ensures.ok in holds-ready (holds c.requires.steps took.1 took.2 took.3 c.label.ensures)

pub edit-requires-clause-free : goal.edit-requires-clause-free
edit-requires-clause-free g c =
    let took = c.in_ok-book.ensures.ok in holds-free (holds c.requires.steps took.1 took.2 took.3 c.label.ensures) c.requires.free

pub give-requires-clause-entry : goal.give-requires-clause-entry
give-requires-clause-entry g c =
    let took = c.in_ok-book.ensures.ok in
    holds-entry (holds c.requires.steps took.1 took.2 took.3 c.label.ensures) (λ session. Editing session c.args.e.now) (λ session state. refl) c.of.result.book
    (c.of.ensures ∙ c.in-Ok.ensures.ok)

pub returns-in-Ok : goal.returns-in-Ok
returns-in-Ok g c =
    let took = c.in_ok-book.ensures.ok in
    let adds =
    holds-adds (holds c.requires.steps took.1 took.2 took.3 c.label.ensures) (λ session. Editing session c.args.e.now) (λ session state. refl) c.of.result.book
    (c.of.ensures ∙ c.in-Ok.ensures.ok) _ c.give.ensures.given in
    record {
      idle = (c.give.ensures.own, added-idle adds);
      still = added-still adds;
      adds = (c.in_ok-book.book.history, adds, c.in-Ok.ensures.reply ∙ ap (λ (book : BookValue). edit_reply (state_of book).edits c.args.e.now) took.2);
      err = tt;
    }

pub returns-in-Err : goal.returns-in-Err
returns-in-Err g c =
    let took = c.in_ok-book.ensures.ok in
    let is = holds c.requires.steps took.1 took.2 took.3 c.label.ensures in
    let gave = holds-gave_up is _ c.give_back.ensures.given in
    record {
      idle = (c.give_back.ensures.own, gave.turn);
      still = holds-still is _ c.give_back.ensures.given;
      adds = tt;
      err = gave;
    }
