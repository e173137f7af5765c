use Rattle.std.proofs.Common.{◌≡◌, ◌+◌, ◌≤◌, length}
use Rattle.session.specs.Runs.{IsRun}
use Rattle.session.proofs.OrderLaws.{IsRound, units_taken}
use Rattle.session.proofs.orders.replay_round.Given as goal

abbrev pub invariant-loop-step : goal.invariant-loop-step
invariant-loop-step g l = record {
  is_run : IsRun l.script l.run;
  within : l.last ≤ length l.script.sessions;
  round : IsRound l.fn.capacity l.script l._step l.last l.run.book;
  ticks : l.steps ≡ l.initial.steps + units_taken l.script l.run.book;
}
