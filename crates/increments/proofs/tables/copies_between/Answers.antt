use Rattle.std.proofs.Common.{◌∙◌, ◌++◌, ap, List}
use Rattle.std.specs.Map.{values_of}
use Rattle.definitions.specs.Rows.{RowValue}
use Rattle.increments.proofs.Ranges.{rows_between}
use Rattle.increments.proofs.tables.copies_between.Goals as goal

pub loop-place-init : goal.loop-place-init
loop-place-init c =
    ap (λ (rs : List RowValue). rs ++ values_of c.into_iter-place-iterator.result) c.new-list.ensures.items
    ∙ rows_between c.args.rows.now c.args.names.now c.args.from c.args.to c.into_iter-place-iterator.result c.requires.tied
    (c.into_iter-place-iterator.ensures.into_iter_gives ∙ c.range-place-items.ensures.between tt)
