-- The weight of rows, row by row.
use Rattle.std.proofs.Common.{◌≡◌, ℕ, ◌+◌, ◌<◌, ◌≤◌, ap, arith, List, length, take, get_or}
use Rattle.std.specs.Prelude.{sum_by}
use Rattle.std.proofs.lemmas.List.Sums.{sum_by_more_le}
use Rattle.std.proofs.lemmas.List.Folds.{fold-map}
use Rattle.definitions.specs.Moves.{move_weight}
use Rattle.definitions.specs.Rows.{RowValue, moves_of}
use Rattle.definitions.specs.Signature.{weight}

weight-rows : (rows : List RowValue) → weight (moves_of rows) ≡ sum_by (λ (row : RowValue). move_weight row.x) rows
weight-rows rows = fold-map (λ a x. a + move_weight x) (λ (row : RowValue). row.x) 0 rows

-- the rows before one and that row weigh at most what all do
pub weight-more : (rows : List RowValue) (i : ℕ) (row : RowValue) → i < length rows → row ≡ get_or rows i row → weight (moves_of (take i rows)) + move_weight row.x ≤ weight (moves_of rows)
weight-more rows i row within at =
    omega (arith, weight-rows (take i rows), weight-rows rows, sum_by_more_le (λ (r : RowValue). move_weight r.x) rows i row within, ap (λ (r : RowValue). move_weight r.x) at)
