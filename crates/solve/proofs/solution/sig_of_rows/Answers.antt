use Rattle.std.proofs.Common.{◌+◌, ◌≤◌, ap, arith}
use Rattle.definitions.specs.Moves.{move_weight}
use Rattle.definitions.specs.Signature.{weight}
use Rattle.definitions.specs.Rows.{moves_of}
use Rattle.solve.proofs.Halves.{lighter-fits}
use Rattle.solve.proofs.RowWeights.{weight-more}
use Rattle.solve.proofs.solution.sig_of_rows.Goals as goal

pub add_row-requires-clause-fits : goal.add_row-requires-clause-fits
add_row-requires-clause-fits g c κs lives =
    let rows = c.args.rows.now in
    let lighter : c.loop-row.sig.weight + move_weight c.x.result.now ≤ weight (moves_of rows) =
    omega (arith, c.loop-row.invariant.stands.weighs, ap move_weight c.x.ensures, weight-more rows c.loop-row.row-index c.row-item.result c.loop-row-test.true c.row-item.is) in
    lighter-fits (c.loop-row.sig.weight + move_weight c.x.result.now) (weight (moves_of rows)) c.args.hall.now.depth lighter c.requires.fits
