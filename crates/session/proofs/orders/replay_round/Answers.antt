use Rattle.std.proofs.Common.{◌≡◌, ◌∙◌, ℕ, ◌+◌, ◌<◌, ◌≤◌, ap, sym, arith, length}
use Rattle.std.specs.Prelude.{Some, Result, Ok, Err, IfOk, OnOk}
use Rattle.session.specs.Play.{most_steps, next_turn, round_order}
use Rattle.session.specs.Answers.{IsOutcome}
use Rattle.session.specs.Runs.{run_of, order_of}
use Rattle.session.proofs.TurnLaws.{turn-is}
use Rattle.session.proofs.ExpansionLaws.{expand-in}
use Rattle.session.proofs.OrderLaws.{round-none, round-more, round-stops, round-ends, units-on, no-units, all-units, at-most, at-most_with, round-units, round-within, whole-outcome}
use Rattle.session.proofs.orders.replay_round.Goals as goal
use Rattle.session.proofs.orders.replay_round.Goals.{else-loop-step-test, then-loop-step-test+in_default}

-- a fact holds whether or not there is a value
on_ok : {T E P : Type 0} (r : Result T E) → P → OnOk r P
on_ok (Ok x) h = h
on_ok (Err e) h = tt

pub loop-step-init : goal.loop-step-init
loop-step-init g c = record {
  is_run = c.in_ok-run.ensures.run;
  within = omega arith;
  round = round-none c.args.capacity c.args.script.now c.in_ok-run.run'.book c.in_ok-run.ensures.order c.in_ok-run.ensures.capacity;
  ticks = no-units c.args.script.now c.in_ok-run.run'.book c.in_ok-run.ensures.order c.args.steps.now;
}

pub step-requires-clause-next : goal.step-requires-clause-next
step-requires-clause-next g c κs lives =
    let script = c.args.script.now in
    let run = run_of script c.loop-step.run.book in
    record { has = (turn-is script.extent c.loop-step.last c.in-Some.session run (sym c.in-Some.ensures)).0 }

pub loop-step-preserved : goal.loop-step-preserved
loop-step-preserved g c =
    let script = c.args.script.now in
    let session = c.in-Some.session in
    let last = c.loop-step.last in
    let old = c.loop-step.run.book in
    let new = c.step.new.run.book in
    let did = c.in_ok-step.ensures in
    let before = c.loop-step.invariant in
    let turn : next_turn script.extent last (run_of script old) ≡ Some session = sym c.in-Some.ensures in
    let most : c.loop-step._step < most_steps script = omega (arith, c.loop-step-test.true, c.most_steps-step-end.ensures) in
    let within : session ≤ length (run_of script old).left = (turn-is script.extent last session (run_of script old) turn).1 in
    record {
      is_run = did.run;
      within = omega (arith, within, before.is_run.left_of);
      round = round-more script old new session did.capacity did.order c.args.capacity c.loop-step._step last most turn before.round;
      ticks = units-on script old new session did.capacity did.order before.is_run.state c.args.steps.now c.loop-step.steps c.step.new.steps before.ticks did.ticks;
    }

pub returns : goal.returns
returns g c =
    let script = c.args.script.now in
    let book = c.loop-step.run.book in
    let due = round_order c.args.capacity script in
    let round = c.loop-step.invariant.round in
    let taken : order_of book ≡ due =
    elim c.loop-step-test.branch [
      | else-loop-step-test w ↦
          let most : most_steps script ≤ c.loop-step._step = omega (arith, w.loop-step-test.false, c.most_steps-step-end.ensures) in
          round-ends c.args.capacity script book c.loop-step._step c.loop-step.last most round
      | then-loop-step-test+in_default w ↦ round-stops c.args.capacity script book c.loop-step._step c.loop-step.last (sym w.next_turn.ensures ∙ w.in_default.is) round
    ]
    in
    let outcome = c.outcome_of_run.ensures in
    record {
      outcome = whole-outcome c.args.capacity script book due round.capacity_is taken (λ due. IfOk c.outcome_of_run.result (λ outcome. IsOutcome script.extent outcome due)) outcome.outcome;
      log = outcome.log;
      members = outcome.members;
      expands = on_ok c.outcome_of_run.result (expand-in script c.shape.ensures.script c.args.capacity due);
      ticks = on_ok c.outcome_of_run.result (c.loop-step.invariant.ticks ∙ ap (λ (n : ℕ). c.args.steps.now + n) (all-units c.args.capacity script book due round.capacity_is taken));
      at_most =
          at-most c.args.steps.now c.loop-step.steps _ _ c.loop-step.invariant.ticks
          (round-units c.args.capacity script book c.loop-step._step c.loop-step.last round);
    }

pub returns-in_err-step-clause-at_most : goal.returns-in_err-step-clause-at_most
returns-in_err-step-clause-at_most g c =
    let script = c.args.script.now in
    let book = c.loop-step.run.book in
    let before = c.loop-step.invariant in
    let most : c.loop-step._step < most_steps script = omega (arith, c.loop-step-test.true, c.most_steps-step-end.ensures) in
    at-most_with c.args.steps.now c.loop-step.steps c.step.new.steps _ _ _ before.ticks c.in_err-step.ensures.at_most
    (round-within c.args.capacity script book c.loop-step._step c.loop-step.last c.in-Some.session most (sym c.in-Some.ensures) before.is_run.state before.round)
