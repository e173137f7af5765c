use Rattle.std.proofs.Common.{◌≡◌, ◌∙◌, ◌+◌, ◌≤◌, Option, IfOk, sym, ap, subst, arith}
use Rattle.std.proofs.lemmas.Result.{on_ok_weaker}
use Rattle.book.specs.declared.query.Query.{Query}
use Rattle.book.specs.Play.{Looking, pending_of}
use Rattle.book.specs.Looks.{look_visits}
use Rattle.book.specs.Books.{BookValue, state_of, log_of, with_request}
use Rattle.solve.specs.declared.solution.Solved.{Solved}
use Rattle.session.specs.declared.answer.Answer.{Answer}
use Rattle.session.specs.Play.{query_for}
use Rattle.session.specs.Looks.{IsLooked, IsLookedFor}
use Rattle.session.specs.Runs.{IsSolvedFor, exps_for}
use Rattle.session.proofs.run.answer_ask.Given as given
use Rattle.session.proofs.run.answer_ask.Goals as goal
use Rattle.session.proofs.run.answer_ask.Goals.{In_ok-looked}

-- what was looked at, as the command asks for it
asked : (g : given.Over) (c : In_ok-looked g) → IsLookedFor c.args.basis.now c.args.session c.args.asked.now c.args.book.now c.in_ok-looked.looked
asked g c = record {
  extent_is = c.requires.basis;
  ready = c.requires.ready;
  free = c.requires.free;
  looked_is = subst (λ (q : Query). IsLooked c.args.session q c.args.book.now c.in_ok-looked.looked) c.in_ok-q.ensures.value c.in_ok-looked.ensures.looked;
}

-- the book after the look
book-is : (g : given.Over) (c : In_ok-looked g) → c.look_at.new.book ≡ with_request (Looking c.args.session (query_for c.args.basis.now c.args.asked.now)) c.args.book.now
book-is g c = c.in_ok-looked.ensures.ok ∙ ap (λ (q : Query). with_request (Looking c.args.session q) c.args.book.now) c.in_ok-q.ensures.value

pub returns-in_err-looked-clause-at_most : goal.returns-in_err-looked-clause-at_most
returns-in_err-looked-clause-at_most g c =
    let most = c.in_err-looked.ensures.at_most in
    let asked_most : c.look_at.new.steps ≤ c.args.steps.now + look_visits (state_of c.args.book.now) (query_for c.args.basis.now c.args.asked.now) =
    subst (λ (q : Query). c.look_at.new.steps ≤ c.args.steps.now + look_visits (state_of c.args.book.now) q) c.in_ok-q.ensures.value most.1 in
    (most.0, omega (arith, asked_most))

pub answer_look-requires-clause-looked : goal.answer_look-requires-clause-looked
answer_look-requires-clause-looked g c κs within = (c.args.book.now, asked g (goal.at.answer_look-requires-clause-looked g c).In_ok-looked)

pub returns-clause-book : goal.returns-clause-book
returns-clause-book g c =
    let at = (goal.at.returns-clause-book g c).In_ok-looked in
    on_ok_weaker c.answer_look.result (λ (_ : _). book-is g at) (c.answer_look.ensures.ticks c.args.book.now (asked g at))

pub returns-clause-shows : goal.returns-clause-shows
returns-clause-shows g c = c.answer_look.ensures.shows c.args.book.now (asked g (goal.at.returns-clause-shows g c).In_ok-looked)

pub returns-clause-solved : goal.returns-clause-solved
returns-clause-solved g c =
    let at = (goal.at.returns-clause-solved g c).In_ok-looked in
    subst (λ (b : BookValue). IfOk c.answer_look.result (λ (r : Answer × Option Solved). IsSolvedFor (log_of b) (pending_of c.args.session (state_of b).pending) r.1)) (sym (book-is g at))
    (c.answer_look.ensures.solved c.args.book.now (asked g at))

-- the units of the visits, as the command asks for them
visits-are : (g : given.Over) (c : In_ok-looked g) → c.look_at.new.steps ≡ c.args.steps.now + look_visits (state_of c.args.book.now) (query_for c.args.basis.now c.args.asked.now)
visits-are g c = c.in_ok-looked.ensures.ticks ∙ ap (λ (q : Query). c.args.steps.now + look_visits (state_of c.args.book.now) q) c.in_ok-q.ensures.value

pub returns-clause-ticks : goal.returns-clause-ticks
returns-clause-ticks g c =
    let at = (goal.at.returns-clause-ticks g c).In_ok-looked in
    on_ok_weaker c.answer_look.result
    (λ (ticks : c.answer_look.new.steps ≡ c.look_at.new.steps + exps_for (state_of c.args.book.now) (query_for c.args.basis.now c.args.asked.now)). ticks ∙ omega (arith, visits-are g at))
    (c.answer_look.ensures.ticks c.args.book.now (asked g at))

pub returns-clause-at_most : goal.returns-clause-at_most
returns-clause-at_most g c =
    let at = (goal.at.returns-clause-at_most g c).In_ok-looked in
    let most = c.answer_look.ensures.at_most c.args.book.now (asked g at) in
    (omega (arith, c.answer_look.ensures.counted, visits-are g at), omega (arith, most, visits-are g at))
