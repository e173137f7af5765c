use Rattle.std.proofs.Common.{◌≡◌, ◌+◌}
use Rattle.session.specs.Runs.{IsRun}
use Rattle.session.proofs.OrderLaws.{IsReplayed, units_taken}
use Rattle.session.proofs.orders.replay.Given as goal

abbrev pub invariant-loop-before : goal.invariant-loop-before
invariant-loop-before g l = record {
  is_run : IsRun l.script l.run;
  replayed : IsReplayed l.fn.capacity l.script l.order l.before l.run.book;
  ticks : l.steps ≡ l.initial.steps + units_taken l.script l.run.book;
}
