-- The book that the pass takes is ready for a look of its session, which is then the last step.
use Rattle.std.proofs.Common.{◌∙◌, ◌+◌, ◌≤◌, refl, ap, subst, arith, inr}
use Rattle.book.specs.Play.{Looking}
use Rattle.book.specs.Looks.{look_visits}
use Rattle.book.specs.Books.{BookValue, state_of}
use Rattle.session.specs.Holds.{frame_of}
use Rattle.session.proofs.HoldLaws.{holds, holds-free, holds-frame, holds-entry, holds-adds, holds-gave_up, holds-still, holds-looked, added-still, added-idle}
use Rattle.session.proofs.held.look.Goals as goal

pub look_at-requires-clause-free : goal.look_at-requires-clause-free
look_at-requires-clause-free g c κs lives =
    let took = c.in_ok-book.ensures.ok in holds-free (holds c.requires.steps took.1 took.2 took.3 c.label.ensures) c.requires.free

pub give-requires-clause-frame : goal.give-requires-clause-frame
give-requires-clause-frame g c =
    let took = c.in_ok-book.ensures.ok in
    holds-frame (holds c.requires.steps took.1 took.2 took.3 c.label.ensures) c.of.result.book (ap frame_of (c.of.ensures ∙ c.in-Ok.ensures.ok))

pub give-requires-clause-entry : goal.give-requires-clause-entry
give-requires-clause-entry g c =
    let took = c.in_ok-book.ensures.ok in
    holds-entry (holds c.requires.steps took.1 took.2 took.3 c.label.ensures) (λ session. Looking session c.args.q) (λ session state. refl) c.of.result.book
    (c.of.ensures ∙ c.in-Ok.ensures.ok)

pub give_back-requires-clause-frame : goal.give_back-requires-clause-frame
give_back-requires-clause-frame g c =
    let took = c.in_ok-book.ensures.ok in
    holds-frame (holds c.requires.steps took.1 took.2 took.3 c.label.ensures) c.of-in-Err.result.book (ap frame_of (c.of-in-Err.ensures ∙ c.in-Err.ensures.err))

pub returns-in-Ok : goal.returns-in-Ok
returns-in-Ok g c =
    let took = c.in_ok-book.ensures.ok in
    let is = holds c.requires.steps took.1 took.2 took.3 c.label.ensures in
    let adds = holds-adds is (λ session. Looking session c.args.q) (λ session state. refl) c.of.result.book (c.of.ensures ∙ c.in-Ok.ensures.ok) _ c.give.ensures.given in
    record {
      idle = (c.give.ensures.own, added-idle adds);
      still = added-still adds;
      adds = (
        c.in_ok-book.book.history,
        adds,
        holds-looked is c.in-Ok.ensures.looked,
        c.in-Ok.ensures.ticks ∙ ap (λ (book : BookValue). c.args.steps.now + look_visits (state_of book) c.args.q) took.2,
      );
      err = tt;
      counted = omega (arith, c.in-Ok.ensures.ticks);
      at_most = tt;
    }

pub returns-in-Err : goal.returns-in-Err
returns-in-Err g c =
    let took = c.in_ok-book.ensures.ok in
    let is = holds c.requires.steps took.1 took.2 took.3 c.label.ensures in
    let gave = holds-gave_up is _ c.give_back.ensures.given in
    record {
      idle = (c.give_back.ensures.own, gave.turn);
      still = holds-still is _ c.give_back.ensures.given;
      adds = tt;
      err = gave;
      counted = c.in-Err.ensures.at_most.0;
      at_most = inr (
        c.in_ok-book.book.history,
        took.1,
        subst (λ (book : BookValue). c.look_at.new.steps ≤ c.args.steps.now + look_visits (state_of book) c.args.q) took.2 c.in-Err.ensures.at_most.1,
      );
    }
