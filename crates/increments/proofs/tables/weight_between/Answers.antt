use Rattle.std.proofs.Common.{◌∙◌, ap, arith, length, List}
use Rattle.definitions.specs.Signature.{weight}
use Rattle.definitions.specs.Rows.{RowValue, moves_of}
use Rattle.increments.proofs.Ranges.{rows_between}
use Rattle.increments.proofs.tables.weight_between.Goals as goal

pub loop-place-init : goal.loop-place-init
loop-place-init c = record {
  value =
      omega (
        arith,
        ap (λ (rs : List RowValue). weight (moves_of rs))
            (rows_between c.args.rows.now c.args.names.now c.args.from c.args.to c.into_iter-place-iterator.result c.requires.tied
            (c.into_iter-place-iterator.ensures.into_iter_gives ∙ c.range-place-items.ensures.between tt)),
      );
  bound = omega (arith, c.range-place-items.ensures.fits, ap length c.into_iter-place-iterator.ensures.into_iter_gives);
}
