use Rattle.std.proofs.Common.{◌≡◌, ◌-◌, ◌++◌}
use Rattle.std.specs.Prelude.{flat_map}
use Rattle.definitions.specs.Hall.{hall_list}
use Rattle.lie_bracket.specs.Tables.{pairs_at, down_from}
use Rattle.lie_bracket.proofs.pairs.add_pairs_at.Given as goal

abbrev pub invariant-loop-done : goal.invariant-loop-done
invariant-loop-done l =
    l.pairs.items ++ flat_map (pairs_at (hall_list l.hall.width l.hall.depth) l.sum) (down_from (l.len - l.done))
    ≡ l.initial.pairs.items ++ flat_map (pairs_at (hall_list l.hall.width l.hall.depth) l.sum) (down_from l.len)
