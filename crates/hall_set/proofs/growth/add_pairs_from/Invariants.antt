use Rattle.std.proofs.Common.{◌≡◌, ◌++◌}
use Rattle.hall_set.proofs.GrowthSteps.{pairs_from_below}
use Rattle.hall_set.proofs.growth.add_pairs_from.Given as goal

abbrev pub invariant-loop-at : goal.invariant-loop-at
invariant-loop-at l = l.pairs.items ≡ l.initial.pairs.items ++ pairs_from_below l.hall l.n l.e l.at
