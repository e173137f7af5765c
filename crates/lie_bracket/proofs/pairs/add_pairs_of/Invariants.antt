use Rattle.std.proofs.Common.{◌≡◌, ◌++◌}
use Rattle.definitions.specs.Hall.{hall_list}
use Rattle.lie_bracket.proofs.PairOrder.{pairs_below}
use Rattle.lie_bracket.proofs.pairs.add_pairs_of.Given as goal

abbrev pub invariant-loop-before : goal.invariant-loop-before
invariant-loop-before l = l.pairs.items ≡ l.initial.pairs.items ++ pairs_below (hall_list l.hall.width l.hall.depth) l.sum l.a l.before
