use Rattle.std.proofs.Common.{◌≡◌, ◌∙◌, ℕ, ◌+◌, Bool, true, false, ap, sym, refl, get_or, length}
use Rattle.std.specs.Prelude.{Some, is_some}
use Rattle.session.specs.Play.{next_turn, has_next}
use Rattle.script_reader.specs.Script.{ScriptValue}
use Rattle.book.specs.Books.{BookValue}
use Rattle.session.specs.Answers.{IsOutcome}
use Rattle.session.specs.Runs.{run_of, HasNext}
use Rattle.session.proofs.OrderLaws.{replayed-none, replayed-more, replay-stops, replay-lacks, replay-ends, replayed-order, units-on, no-units, all-units, at-most, at-most_with, replayed-units, replayed-within, whole-outcome}
use Rattle.session.proofs.ExpansionLaws.{expand-in}
use Rattle.session.proofs.orders.replay.Goals as goal

pub loop-before-init : goal.loop-before-init
loop-before-init g c = record {
  is_run = c.in_ok-run.ensures.run;
  replayed = replayed-none c.args.capacity c.args.script.now c.in_ok-run.run'.book c.in_ok-run.ensures.order c.in_ok-run.ensures.capacity c.args.order.now;
  ticks = no-units c.args.script.now c.in_ok-run.run'.book c.in_ok-run.ensures.order c.args.steps.now;
}

pub has_next-requires : goal.has_next-requires
has_next-requires g c = c.loop-before.invariant.is_run

pub returns-then-not-has_next-clause-illegal : goal.returns-then-not-has_next-clause-illegal
returns-then-not-has_next-clause-illegal g c place e =
    let i = c.loop-before.before in
    let here : i + 1 ≡ place = cc in
    replay-stops c.args.capacity c.args.script.now c.loop-before.run.book c.args.order.now i 0 (get_or c.args.order.now i 0) c.loop-before-test.true refl (sym c.has_next.ensures ∙ c.if-not-has_next.true) c.loop-before.invariant.replayed
    ∙ ap (λ (n : ℕ). Some n) here

pub step-requires-clause-run : goal.step-requires-clause-run
step-requires-clause-run g c κs lives = c.loop-before.invariant.is_run

-- what a test says of a session
tested : (script : ScriptValue) (book : BookValue) (session : ℕ) (is : Bool) → is ≡ has_next script.extent (run_of script book) session → is ≡ true → HasNext script book session
tested script book session is e h = record { has = sym e ∙ h }

pub step-requires-clause-next : goal.step-requires-clause-next
step-requires-clause-next g c κs lives =
    tested c.args.script.now c.loop-before.run.book (get_or c.args.order.now c.loop-before.before 0) c.has_next.result c.has_next.ensures c.if-not-has_next.false

pub loop-before-preserved : goal.loop-before-preserved
loop-before-preserved g c =
    let i = c.loop-before.before in
    let session = get_or c.args.order.now i 0 in
    let script = c.args.script.now in
    let old = c.loop-before.run.book in
    let new = c.step.new.run.book in
    let did = c.in_ok-step.ensures in
    let before = c.loop-before.invariant in
    record {
      is_run = did.run;
      replayed = replayed-more script old new session did.capacity did.order c.args.capacity i 0 c.args.order.now c.loop-before-test.true refl (sym c.has_next.ensures ∙ c.if-not-has_next.false) before.replayed;
      ticks = units-on script old new session did.capacity did.order before.is_run.state c.args.steps.now c.loop-before.steps c.step.new.steps before.ticks did.ticks;
    }

pub next_turn-requires-clause-run : goal.next_turn-requires-clause-run
next_turn-requires-clause-run g c = c.loop-before.invariant.is_run

pub returns-then-is_some-clause-illegal : goal.returns-then-is_some-clause-illegal
returns-then-is_some-clause-illegal g c place e =
    let order = c.args.order.now in
    let here : length order + 1 ≡ place = cc in
    let turn : is_some (next_turn c.args.script.now.extent 0 (run_of c.args.script.now c.loop-before.run.book)) ≡ true = ap is_some (sym c.next_turn.ensures) ∙ sym c.is_some.ensures ∙ c.if-is_some.true in
    replay-lacks c.args.capacity c.args.script.now c.loop-before.run.book order c.loop-before.before c.loop-before-test.false c.loop-before.auto.before-end turn c.loop-before.invariant.replayed
    ∙ ap (λ (n : ℕ). Some n) here

pub outcome_of_run-requires : goal.outcome_of_run-requires
outcome_of_run-requires g c = c.loop-before.invariant.is_run

pub returns-clause-legal : goal.returns-clause-legal
returns-clause-legal g c =
    let turn : is_some (next_turn c.args.script.now.extent 0 (run_of c.args.script.now c.loop-before.run.book)) ≡ false = ap is_some (sym c.next_turn.ensures) ∙ sym c.is_some.ensures ∙ c.if-is_some.false in
    replay-ends c.args.capacity c.args.script.now c.loop-before.run.book c.args.order.now c.loop-before.before c.loop-before-test.false c.loop-before.auto.before-end turn c.loop-before.invariant.replayed

pub returns-clause-outcome : goal.returns-clause-outcome
returns-clause-outcome g c =
    let before = c.loop-before.invariant.replayed in
    let order = c.args.order.now in
    let book = c.loop-before.run.book in
    whole-outcome c.args.capacity c.args.script.now book order before.capacity_is (replayed-order c.args.capacity c.args.script.now book order c.loop-before.before c.loop-before-test.false before)
    (λ due. IsOutcome c.args.script.now.extent c.in_ok-outcome_of_run.field-0 due) c.in_ok-outcome_of_run.ensures.outcome

pub returns-clause-expands : goal.returns-clause-expands
returns-clause-expands g c = expand-in c.args.script.now c.shape.ensures.script c.args.capacity c.args.order.now

pub returns-clause-ticks : goal.returns-clause-ticks
returns-clause-ticks g c =
    let before = c.loop-before.invariant.replayed in
    let order = c.args.order.now in
    let book = c.loop-before.run.book in
    c.loop-before.invariant.ticks
    ∙ ap (λ (n : ℕ). c.args.steps.now + n)
    (all-units c.args.capacity c.args.script.now book order before.capacity_is (replayed-order c.args.capacity c.args.script.now book order c.loop-before.before c.loop-before-test.false before))

-- ---- what stands after each answer
pub returns-then-not-has_next-clause-at_most : goal.returns-then-not-has_next-clause-at_most
returns-then-not-has_next-clause-at_most g c =
    at-most c.args.steps.now c.loop-before.steps _ _ c.loop-before.invariant.ticks
    (replayed-units c.args.capacity c.args.script.now c.loop-before.run.book c.args.order.now c.loop-before.before c.loop-before.invariant.replayed)

pub returns-in_err-step-clause-at_most : goal.returns-in_err-step-clause-at_most
returns-in_err-step-clause-at_most g c =
    let i = c.loop-before.before in
    at-most_with c.args.steps.now c.loop-before.steps c.step.new.steps _ _ _ c.loop-before.invariant.ticks c.in_err-step.ensures.at_most
    (replayed-within c.args.capacity c.args.script.now c.loop-before.run.book c.args.order.now i 0 (get_or c.args.order.now i 0) c.loop-before-test.true refl c.loop-before.invariant.is_run.state
    c.loop-before.invariant.replayed)

pub returns-then-is_some-clause-at_most : goal.returns-then-is_some-clause-at_most
returns-then-is_some-clause-at_most g c =
    at-most c.args.steps.now c.loop-before.steps _ _ c.loop-before.invariant.ticks
    (replayed-units c.args.capacity c.args.script.now c.loop-before.run.book c.args.order.now c.loop-before.before c.loop-before.invariant.replayed)

pub returns-in_err-outcome_of_run-clause-at_most : goal.returns-in_err-outcome_of_run-clause-at_most
returns-in_err-outcome_of_run-clause-at_most g c =
    at-most c.args.steps.now c.loop-before.steps _ _ c.loop-before.invariant.ticks
    (replayed-units c.args.capacity c.args.script.now c.loop-before.run.book c.args.order.now c.loop-before.before c.loop-before.invariant.replayed)

pub returns-clause-at_most : goal.returns-clause-at_most
returns-clause-at_most g c =
    at-most c.args.steps.now c.loop-before.steps _ _ c.loop-before.invariant.ticks
    (replayed-units c.args.capacity c.args.script.now c.loop-before.run.book c.args.order.now c.loop-before.before c.loop-before.invariant.replayed)
