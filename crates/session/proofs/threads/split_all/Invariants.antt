use Rattle.std.proofs.Common.{◌≡◌, length}
use Rattle.turnstile.specs.Passes.{view}
use Rattle.session.specs.Turns.{IsIdle}
use Rattle.session.specs.Threads.{AreNew}
use Rattle.session.proofs.threads.split_all.Given as goal

abbrev pub invariant-loop-one : goal.invariant-loop-one
invariant-loop-one g l = record {
  idle : IsIdle l.fn.turns l.head;
  splits : view l.head ≡ record (view l.fn.head) { splits = length l.yielded };
  count : length l.jobs.items ≡ length l.yielded;
  new : AreNew l.fn.turns (view l.fn.head).frame l.fn.steps.items 1 l.jobs.items;
}
