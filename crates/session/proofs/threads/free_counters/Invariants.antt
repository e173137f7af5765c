use Rattle.std.proofs.Common.{◌≡◌, length}
use Rattle.std.specs.Prelude.{All}
use Rattle.session.proofs.threads.free_counters.Given as goal

abbrev pub invariant-loop-session : goal.invariant-loop-session
invariant-loop-session l = record {
  number : length l.steps.items ≡ l._session;
  zero : All (λ n. n ≡ 0) l.steps.items;
}
