use Rattle.std.proofs.Common.{◌≡◌}
use Rattle.std.specs.Prelude.{flat_map}
use Rattle.definitions.specs.Words.{up_to}
use Rattle.definitions.specs.Hall.{pairs_from}
use Rattle.hall_set.proofs.growth.pairs_of_degree.Given as goal

abbrev pub invariant-loop-before : goal.invariant-loop-before
invariant-loop-before l = l.pairs.items ≡ flat_map (pairs_from l.hall l.n) (up_to l.before)
