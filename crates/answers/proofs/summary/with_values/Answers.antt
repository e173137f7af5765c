use Rattle.std.proofs.Common.{◌≡◌, ◌+◌, pos, take, to_z, of_z, SFits, slice_index_or, rules}
use Rattle.std.specs.Int.{w128}
use Rattle.std.proofs.lemmas.List.{take_more}
use Rattle.std.proofs.lemmas.Int.{to_z-of_z}
use Rattle.answers.proofs.ModularSums.{mod-sum-push}
use Rattle.answers.proofs.summary.with_values.Goals as goal

pub loop-value-preserved : goal.loop-value-preserved
loop-value-preserved c =
    let fits : SFits w128 (slice_index_or c.args.values.now c.loop-value.value-index (pos 0)) = search rules in
    let same : to_z w128 (of_z w128 (slice_index_or c.args.values.now c.loop-value.value-index (pos 0))) ≡ slice_index_or c.args.values.now c.loop-value.value-index (pos 0) = to_z-of_z w128 _ fits in
    mod-sum-push c.args.sum c.loop-value.sum c.with_value-sum.result (take c.loop-value.value-index c.args.values.now) (slice_index_or c.args.values.now c.loop-value.value-index (pos 0)) (take (c.loop-value.value-index + 1) c.args.values.now)
    (take_more c.args.values.now c.loop-value.value-index (pos 0) c.loop-value-test.true)
    c.loop-value.invariant (rw same at c.with_value-sum.ensures)
