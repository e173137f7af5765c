use Rattle.std.proofs.Common.{◌+◌, ◌≤◌, ap, arith}
use Rattle.std.proofs.Math.Nat.{pow-le-pow_left, le_trans}
use Rattle.std.proofs.lemmas.List.Sums.{sum_by_more_le}
use Rattle.definitions.specs.Moves.{move_weight}
use Rattle.definitions.specs.Signature.{weight}
use Rattle.cbh_calc.proofs.products.signature_of.Goals as goal

pub add_row-requires-clause-fits : goal.add_row-requires-clause-fits
add_row-requires-clause-fits c κs =
    let moves = c.args.moves.now in
    let x = c.x-item.result in
    let lighter : c.loop-x.sig.weight + move_weight x ≤ weight moves =
    omega (arith, c.loop-x.invariant.stands.weighs, sum_by_more_le move_weight moves c.loop-x.x-index x c.loop-x-test.true, ap move_weight c.x-item.is) in
    le_trans (pow-le-pow_left lighter c.args.hall.now.depth) c.requires.fits
