use Rattle.std.proofs.Common.{◌≡◌, length}
use Rattle.std.specs.Prelude.{flat_map}
use Rattle.definitions.specs.Words.{up_to}
use Rattle.definitions.specs.Hall.{hall_list}
use Rattle.lie_bracket.specs.Tables.{pairs_at, down_from}
use Rattle.lie_bracket.proofs.pairs.pairs_in_order.Given as goal

abbrev pub invariant-loop-before : goal.invariant-loop-before
invariant-loop-before l =
    l.pairs.items
    ≡ flat_map (λ sum. flat_map (pairs_at (hall_list l.hall.width l.hall.depth) sum) (down_from (length (hall_list l.hall.width l.hall.depth)))) (up_to l.before)
