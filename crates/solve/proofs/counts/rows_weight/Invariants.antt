use Rattle.std.proofs.Common.{◌≡◌, take}
use Rattle.std.specs.Prelude.{sum_by}
use Rattle.definitions.specs.Moves.{move_weight}
use Rattle.solve.proofs.counts.rows_weight.Given as goal

abbrev pub invariant-loop-row : goal.invariant-loop-row
invariant-loop-row l = l.total ≡ sum_by (λ row. move_weight row.x) (take l.row-index l.rows)
