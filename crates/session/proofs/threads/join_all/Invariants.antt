use Rattle.std.proofs.Common.{◌≡◌, ℕ, List, length}
use Rattle.turnstile.specs.Passes.{view}
use Rattle.session.specs.Turns.{IsIdle}
use Rattle.session.specs.Threads.{HaveWorked, AreJoined}
use Rattle.session.proofs.threads.join_all.Given as goal

abbrev pub invariant-loop-one : goal.invariant-loop-one
invariant-loop-one g l = record {
  idle : IsIdle l.fn.turns l.head;
  label : (view l.head).label ≡ 0;
  frame : (view l.head).frame ≡ (view l.fn.head).frame;
  count : length l.transcripts.items ≡ length l.yielded;
  counters : length l.counters.items ≡ length l.yielded;
  joined : (before : List ℕ) → HaveWorked l.fn.turns (view l.fn.head).frame l.fn.script before 1 l.fn.worked.items → AreJoined l.fn.script (view l.head) before l.counters.items 1 l.transcripts.items;
}
