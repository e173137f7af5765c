use Rattle.std.proofs.Common.{◌≡◌, ◌∙◌, ℕ, List, ◌+◌, ◌++◌, ◌∷◌, [], refl, sym, ap, subst}
use Rattle.std.specs.Prelude.{Option, Some, None}
use mathlib.Core.List.{IsPrefix}
use base.Growing.{prefix_trans}
use Rattle.turnstile.specs.Passes.{view}
use Rattle.solve.specs.declared.solution.Solved.{Solved}
use Rattle.turnstile.specs.declared.view.PassView.{PassView}
use Rattle.script_reader.specs.declared.command.Command.{Command}
use Rattle.book.specs.declared.step.Step.{Step}
use Rattle.session.specs.declared.answer.Answer.{Answer}
use Rattle.session.specs.Play.{Asks}
use Rattle.session.specs.Holds.{book_of, seen_book}
use Rattle.session.specs.Moments.{moments_of, units_by}
use Rattle.session.specs.Serving.{IsServing, IsNextCommand}
use Rattle.session.proofs.HoldLaws.{added-own}
use Rattle.session.proofs.ServingLaws.{can-step}
use Rattle.session.proofs.ServeLaws.{IsAnswered, looked-for, answered, look-units, serving-alone, settle-can, settle-by, serving-settled, settle-units}
use Rattle.session.proofs.serve.serve_ask.Given as given
use Rattle.session.proofs.serve.serve_ask.Goals as goal
use Rattle.session.proofs.serve.serve_ask.Goals.{After-solved-in-Some-1, Joined-looked-3, in-Some+in_ok-settle, in_default}

pub look-requires-clause-steps : goal.look-requires-clause-steps
look-requires-clause-steps g c κs lives =
    let was = c.requires.served in
    can-step c.args.script.now (view c.args.pass.now) was.0 was.1 was.3 c.shape-shape.ensures.script was.2 was.4

pub answer_look-requires-clause-looked : goal.answer_look-requires-clause-looked
answer_look-requires-clause-looked g c κs within =
    let was = c.requires.served in
    let did = c.in_ok-looked.ensures.adds in (
      book_of (view c.args.pass.now).frame did.0,
      looked-for c.args.script.now (view c.args.pass.now) (view c.look.new.pass) was.0 was.1 was.3 c.shape-shape.ensures.script was.2 was.4 c.args.asked.now was.5 c.args.basis.now c.requires.basis
          c.label-session.result c.label-session.ensures c.in_ok-q.q c.in_ok-q.ensures.value c.in_ok-looked.looked did.0 did.1 did.2,
    )

-- ---- the pending look
is-pending : (g : given.Over) (c : After-solved-in-Some-1 g)
    → IsAnswered c.args.script.now (view c.args.pass.now) (view c.look.new.pass) c.in_ok-looked.ensures.adds.0 c.requires.served.2 c.in_ok-answer.answer (Some c.in-Some.solved)
is-pending g c =
    let was = c.requires.served in
    let did = c.in_ok-looked.ensures.adds in
    let told = c.in_ok-answer.ensures in
    subst (IsAnswered c.args.script.now (view c.args.pass.now) (view c.look.new.pass) did.0 was.2 c.in_ok-answer.answer) c.in-Some.is
    (answered c.args.script.now (view c.args.pass.now) (view c.look.new.pass) was.0 was.1 was.3 c.shape-shape.ensures.script was.2 was.4 c.args.asked.now was.5 c.args.basis.now c.requires.basis
    c.label-session.result c.label-session.ensures c.in_ok-q.q c.in_ok-q.ensures.value c.in_ok-looked.looked did.0 did.1 did.2
    c.in_ok-answer.answer c.in_ok-answer.solved told.shows told.members told.solved told.pending)

pub settle-requires-clause-steps : goal.settle-requires-clause-steps
settle-requires-clause-steps g c =
    let was = c.requires.served in
    settle-can c.args.script.now (view c.args.pass.now) (view c.look.new.pass) was.0 was.1 was.3 c.shape-shape.ensures.script was.2 was.4 c.in_ok-looked.ensures.adds.0 c.in_ok-answer.answer c.in-Some.solved
    (is-pending g c)

pub settle-requires-clause-settled : goal.settle-requires-clause-settled
settle-requires-clause-settled g c =
    let was = c.requires.served in
    settle-by c.args.script.now (view c.args.pass.now) (view c.look.new.pass) was.0 was.1 was.3 c.shape-shape.ensures.script was.2 was.4 c.in_ok-looked.ensures.adds.0 c.in_ok-answer.answer c.in-Some.solved
    (is-pending g c)

-- ---- after the answer
is-answered : (g : given.Over) (c : Joined-looked-3 g) (taken : ℕ) (answers : List Answer) (command : Command) → IsServing c.args.script.now (view c.args.pass.now) taken answers
    → IsNextCommand c.args.script.now (view c.args.pass.now).label taken command → Asks command c.args.asked.now
    → IsAnswered c.args.script.now (view c.args.pass.now) (view c.look.new.pass) c.in_ok-looked.ensures.adds.0 command c.in_ok-answer.answer c.in_ok-answer.solved
is-answered g c taken answers command serving next asks =
    let did = c.in_ok-looked.ensures.adds in
    let told = c.in_ok-answer.ensures in
    answered c.args.script.now (view c.args.pass.now) (view c.look.new.pass) taken answers serving c.shape-shape.ensures.script command next c.args.asked.now asks c.args.basis.now c.requires.basis
    c.label-session.result c.label-session.ensures c.in_ok-q.q c.in_ok-q.ensures.value c.in_ok-looked.looked did.0 did.1 did.2
    c.in_ok-answer.answer c.in_ok-answer.solved told.shows told.members told.solved told.pending

no-solution : (solved : Option Solved) → ((x : Solved) → solved ≡ Some x → ⊥) → solved ≡ None
no-solution None none = refl
no-solution (Some x) none = absurd (none x refl)

pub returns-clause-served : goal.returns-clause-served
returns-clause-served g c taken answers command serving next asks =
    let script = c.args.script.now in
    let v = view c.args.pass.now in
    let w = view c.look.new.pass in
    let answer = c.in_ok-answer.answer in
    let history = c.in_ok-looked.ensures.adds.0 in
    let told = is-answered g c taken answers command serving next asks in
    elim c.match-solved.branch [
      | in-Some+in_ok-settle b ↦ (
          let same : view c.match-solved.pass ≡ view b.settle.new.pass = ap view b.pass-is in
          let did = b.in_ok-settle.ensures.adds in
          subst (λ (u : PassView Step). IsServing script u (taken + 1) (answers ++ answer ∷ [])) (sym same)
          (serving-settled script v w taken answers serving c.shape-shape.ensures.script command next history answer b.in-Some.solved
          (subst (IsAnswered script v w history command answer) b.in-Some.is told) (view b.settle.new.pass) did.0 did.1))
      | in_default b ↦ (
          let same : view c.match-solved.pass ≡ view c.look.new.pass = ap view b.pass-is in
          subst (λ (u : PassView Step). IsServing script u (taken + 1) (answers ++ answer ∷ [])) (sym same)
          (serving-alone script v w taken answers serving c.shape-shape.ensures.script command next history answer
          (subst (IsAnswered script v w history command answer) (no-solution c.in_ok-answer.solved b.in_default.not-Some) told)))
    ]

pub returns-clause-ticks : goal.returns-clause-ticks
returns-clause-ticks g c =
    let was = c.requires.served in
    let did = c.in_ok-looked.ensures.adds in
    let looked : c.answer_look.new.steps + units_by (moments_of (seen_book (view c.args.pass.now)) (view c.args.pass.now).label)
    ≡ c.args.steps.now + units_by (moments_of (seen_book (view c.look.new.pass)) (view c.args.pass.now).label) =
    look-units c.args.script.now (view c.args.pass.now) (view c.look.new.pass) was.0 was.1 was.3 c.shape-shape.ensures.script was.2 was.4 c.args.asked.now was.5 c.args.basis.now c.requires.basis
    c.label-session.result c.label-session.ensures c.in_ok-q.q c.in_ok-q.ensures.value c.in_ok-looked.looked did.0 did.1 did.2
    c.args.steps.now c.look.new.steps c.answer_look.new.steps did.3 c.in_ok-answer.ensures.ticks
    in
    let units : units_by (moments_of (seen_book (view c.match-solved.pass)) (view c.args.pass.now).label) ≡ units_by (moments_of (seen_book (view c.look.new.pass)) (view c.args.pass.now).label) =
    elim c.match-solved.branch [
      | in-Some+in_ok-settle b ↦ (
          let same : view c.match-solved.pass ≡ view b.settle.new.pass = ap view b.pass-is in
          let settles = b.in_ok-settle.ensures.adds in
          ap (λ (u : PassView Step). units_by (moments_of (seen_book u) (view c.args.pass.now).label)) same
          ∙ settle-units c.args.script.now (view c.args.pass.now) (view c.look.new.pass) was.0 was.1 was.3 c.shape-shape.ensures.script was.2 was.4 did.0 c.in_ok-answer.answer b.in-Some.solved
          (subst (IsAnswered c.args.script.now (view c.args.pass.now) (view c.look.new.pass) did.0 was.2 c.in_ok-answer.answer) b.in-Some.is (is-answered g c was.0 was.1 was.2 was.3 was.4 was.5)) (view b.settle.new.pass) settles.0 settles.1)
      | in_default b ↦ (
          let same : view c.match-solved.pass ≡ view c.look.new.pass = ap view b.pass-is in
          ap (λ (u : PassView Step). units_by (moments_of (seen_book u) (view c.args.pass.now).label)) same)
    ]
    in
    looked ∙ ap (λ (n : ℕ). c.args.steps.now + n) (sym units)

pub returns-clause-kept : goal.returns-clause-kept
returns-clause-kept g c =
    let own = (view c.args.pass.now).own in
    let looked = added-own c.in_ok-looked.ensures.adds.1 in
    elim c.match-solved.branch [
      | in-Some+in_ok-settle b ↦ (
          let same : view c.match-solved.pass ≡ view b.settle.new.pass = ap view b.pass-is in
          subst (λ (u : PassView Step). IsPrefix own u.own) (sym same)
          (prefix_trans own (view c.look.new.pass).own (view b.settle.new.pass).own looked (added-own b.in_ok-settle.ensures.adds.1)))
      | in_default b ↦ (
          let same : view c.match-solved.pass ≡ view c.look.new.pass = ap view b.pass-is in
          subst (λ (u : PassView Step). IsPrefix own u.own) (sym same) looked)
    ]
