use Rattle.std.specs.List.{AllAdjacentBelow}
use Rattle.increments.specs.Edits.{IsBefore}
use Rattle.solve.proofs.valid.are_in_order.Given as goal

abbrev pub invariant-loop-i : goal.invariant-loop-i
invariant-loop-i l = AllAdjacentBelow IsBefore l.rows l.i
