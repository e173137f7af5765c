use Rattle.std.proofs.Common.{◌≡◌, ◌∙◌, ◌+◌, ◌≤◌, ℕ, sym, ap, subst, arith, None, Option, is_some}
use Rattle.book.specs.Play.{Looking, PendingLook, pending_of}
use Rattle.book.specs.Books.{BookValue, state_of, log_of, with_request}
use Rattle.session.specs.Play.{query_for}
use Rattle.session.specs.Looks.{IsLookedFor}
use Rattle.session.proofs.AskLaws.{IsAsked, asked-work, asked-solved, asked-exps, refused-look, refused-shows, refused-none, refused-exps}
use Rattle.session.proofs.PlaceLaws.{solved-none}
use Rattle.session.proofs.look.answer_look.Given as given
use Rattle.session.proofs.look.answer_look.Goals as goal
use Rattle.session.proofs.look.answer_look.Goals.{In-Work, then-looked, else-looked}

asked : (g : given.Over) (c : In-Work g) (old : BookValue) → IsLookedFor c.args.basis.now c.args.session c.args.asked.now old c.args.looked.now
    → IsAsked c.args.basis.now c.args.session c.args.asked.now old c.in-Work.work
asked g c old is = asked-work c.args.basis.now c.args.session c.args.asked.now old c.args.looked.now c.in-Work.work is c.in-Work.is

pub returns-in_err-answer-in-Work-clause-at_most : goal.returns-in_err-answer-in-Work-clause-at_most
returns-in_err-answer-in-Work-clause-at_most g c = λ old is.
    let known = asked g (goal.at.returns-in_err-answer-in-Work-clause-at_most g c).In-Work old is in
    subst (λ (n : ℕ). c.answer_work.new.steps ≤ c.args.steps.now + n) (asked-exps c.args.basis.now c.args.session c.args.asked.now old c.in-Work.work known) c.in_err-answer-in-Work.ensures.at_most

pub returns-after-looked-clause-solved : goal.returns-after-looked-clause-solved
returns-after-looked-clause-solved g c = λ old is.
    asked-solved c.args.basis.now c.args.session c.args.asked.now old c.in-Work.work (asked g (goal.at.returns-after-looked-clause-solved g c).In-Work old is)
    c.in_ok-answer-in-Work.solved c.if-looked.kept c.in_ok-answer-in-Work.ensures.nodes
    (λ some. elim c.if-looked.branch [ then-looked w ↦ w.kept-is | else-looked w ↦ absurd (cc (some, w.if-looked.false, is.looked_is.pending_is)) ])

pub returns-after-looked-clause-ticks : goal.returns-after-looked-clause-ticks
returns-after-looked-clause-ticks g c = λ old is.
    let known = asked g (goal.at.returns-after-looked-clause-ticks g c).In-Work old is in
    c.in_ok-answer-in-Work.ensures.ticks ∙ ap (λ (n : ℕ). c.args.steps.now + n) (asked-exps c.args.basis.now c.args.session c.args.asked.now old c.in-Work.work known)

pub returns-after-looked-clause-at_most : goal.returns-after-looked-clause-at_most
returns-after-looked-clause-at_most g c = λ old is.
    let known = asked g (goal.at.returns-after-looked-clause-at_most g c).In-Work old is in
    subst (λ (n : ℕ). c.answer_work.new.steps ≤ c.args.steps.now + n) (asked-exps c.args.basis.now c.args.session c.args.asked.now old c.in-Work.work known) c.in_ok-answer-in-Work.ensures.at_most

pub returns-in_default : goal.returns-in_default
returns-in_default g c =
    let shape = c.args.basis.now in
    let session = c.args.session in
    let asks = c.args.asked.now in
    let looked = c.args.looked.now in
    let refused = refused-look looked.look c.in_default.not-Work in
    let none : (old : BookValue) → IsLookedFor shape session asks old looked → pending_of session (state_of (with_request (Looking session (query_for shape asks)) old)).pending ≡ None =
    λ old is. refused-none shape session asks old looked refused is in
    record {
      shows = λ old is. refused-shows shape session asks old looked refused is;
      members = tt;
      solved = λ old is. let new : BookValue = with_request (Looking session (query_for shape asks)) old in solved-none (log_of new) (pending_of session (state_of new).pending) None (none old is);
      pending = λ old is. sym (ap (λ (o : Option PendingLook). is_some o) (none old is));
      ticks = λ old is. omega (arith, refused-exps shape session asks old looked refused is);
      counted = omega arith;
      at_most = λ old is. omega arith;
    }
