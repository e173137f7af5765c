use Rattle.std.proofs.Common.{◌≡◌}
use Rattle.watches.proofs.tests.watching.Given as goal

abbrev pub invariant-loop-a : goal.invariant-loop-a
invariant-loop-a l = l.all.log.extent ≡ l.shape
