use Rattle.std.proofs.Common.{◌≤◌, ◌∙◌, ap, arith}
use Rattle.definitions.specs.Words.{Extent, shorter}
use Rattle.dynkin_map.specs.Table.{row_of}
use Rattle.dynkin_map.proofs.WordRows.{AreFirst, words_with, first-inside, first-short, first-row, letter-pushed}
use Rattle.dynkin_map.proofs.images.push_level.Goals as goal

pub push_images-requires-clause-inside : goal.push_images-requires-clause-inside
push_images-requires-clause-inside c =
    let extent : Extent = c.args.table.now in
    let are : AreFirst extent c.args.k c.loop-before.before c.before-from.result c.args.rows.now c.loop-before.rows =
    record { old_is = c.requires.rows; rows_are = c.loop-before.invariant; from_is = c.before-from.ensures.value ∙ ap (λ (e : Extent). shorter e.width c.args.k) c.shape-shape.ensures.value } in
    first-inside extent c.args.k c.loop-before.before c.before-from.result c.args.rows.now c.loop-before.rows are

pub push_images-requires-clause-short : goal.push_images-requires-clause-short
push_images-requires-clause-short c =
    let extent : Extent = c.args.table.now in
    let are : AreFirst extent c.args.k c.loop-before.before c.before-from.result c.args.rows.now c.loop-before.rows =
    record { old_is = c.requires.rows; rows_are = c.loop-before.invariant; from_is = c.before-from.ensures.value ∙ ap (λ (e : Extent). shorter e.width c.args.k) c.shape-shape.ensures.value } in
    let most : c.loop-before.before ≤ extent.width = omega (arith, c.loop-before-test.true, c.width-before-end.ensures.value, ap (λ (e : Extent). e.width) c.shape-shape.ensures.value) in
    first-short extent c.args.k c.loop-before.before c.before-from.result c.args.rows.now c.loop-before.rows c.requires.shape c.requires.depth most are

pub push_images-requires-clause-rows : goal.push_images-requires-clause-rows
push_images-requires-clause-rows c =
    let extent : Extent = c.args.table.now in
    let are : AreFirst extent c.args.k c.loop-before.before c.before-from.result c.args.rows.now c.loop-before.rows =
    record { old_is = c.requires.rows; rows_are = c.loop-before.invariant; from_is = c.before-from.ensures.value ∙ ap (λ (e : Extent). shorter e.width c.args.k) c.shape-shape.ensures.value } in
    first-row extent c.args.k c.loop-before.before c.before-from.result c.args.rows.now c.loop-before.rows are

pub loop-before-preserved : goal.loop-before-preserved
loop-before-preserved c =
    let extent : Extent = c.args.table.now in
    letter-pushed (row_of extent) (words_with extent.width c.args.k) c.loop-before.before c.args.rows.now c.loop-before.rows c.push_images.new.rows c.loop-before.invariant c.in_ok-push_images.ensures
