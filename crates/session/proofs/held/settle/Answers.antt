-- The pending look of the session is as it was, and its settle is the last step.
use Rattle.std.proofs.Common.{◌∙◌, refl}
use Rattle.book.specs.Play.{Settling}
use Rattle.session.proofs.HoldLaws.{holds, holds-ready, holds-settled, holds-entry, holds-adds, holds-gave_up, holds-still, added-still, added-idle}
use Rattle.session.proofs.held.settle.Goals as goal

pub settle-requires-clause-ready : goal.settle-requires-clause-ready
settle-requires-clause-ready g c =
    let took = c.in_ok-book.ensures.ok in holds-ready (holds c.requires.steps took.1 took.2 took.3 c.label.ensures)

pub settle-requires-clause-settled : goal.settle-requires-clause-settled
settle-requires-clause-settled g c =
    let took = c.in_ok-book.ensures.ok in
    holds-settled (holds c.requires.steps took.1 took.2 took.3 c.label.ensures) c.args.solved.now.nodes.items c.requires.settled

pub give-requires-clause-entry : goal.give-requires-clause-entry
give-requires-clause-entry g c =
    let took = c.in_ok-book.ensures.ok in
    holds-entry (holds c.requires.steps took.1 took.2 took.3 c.label.ensures) Settling (λ session state. refl) c.of.result.book (c.of.ensures ∙ c.in-Ok.ensures.ok)

pub returns-in-Ok : goal.returns-in-Ok
returns-in-Ok g c =
    let took = c.in_ok-book.ensures.ok in
    let adds =
    holds-adds (holds c.requires.steps took.1 took.2 took.3 c.label.ensures) Settling (λ session state. refl) c.of.result.book (c.of.ensures ∙ c.in-Ok.ensures.ok) _
    c.give.ensures.given in
    record {
      idle = (c.give.ensures.own, added-idle adds);
      still = added-still adds;
      adds = (c.in_ok-book.book.history, adds);
      err = tt;
    }

pub returns-in-Err : goal.returns-in-Err
returns-in-Err g c =
    let took = c.in_ok-book.ensures.ok in
    let is = holds c.requires.steps took.1 took.2 took.3 c.label.ensures in
    let gave = holds-gave_up is _ c.give_back.ensures.given in
    record {
      idle = (c.give_back.ensures.own, gave.turn);
      still = holds-still is _ c.give_back.ensures.given;
      adds = tt;
      err = gave;
    }
