use Rattle.std.proofs.Common.{◌≡◌}
use Rattle.watches.proofs.tests.tried.Given as goal

abbrev pub invariant-loop-given : goal.invariant-loop-given
invariant-loop-given g l = l.all.log.extent ≡ l.shape
