use Rattle.std.proofs.Common.{◌≡◌, ◌+◌, ◌≤◌, ap, arith}
use Rattle.definitions.specs.Words.{Extent}
use Rattle.scaled_tensor.specs.Tensors.{coefficient}
use Rattle.answers.proofs.ModularSums.{mod-sum-append}
use Rattle.answers.proofs.TensorSums.{values_to, level-values}
use Rattle.answers.proofs.summary.with_levels.Goals as goal

pub loop-before-preserved : goal.loop-before-preserved
loop-before-preserved c =
    let depth : c.shape.result.depth ≡ c.args.tensor.now.extent.depth = ap (λ (e : Extent). e.depth) c.shape.ensures.value in
    let within : c.loop-before.before + 1 ≤ c.args.tensor.now.extent.depth = omega (arith, c.depth-before-end.ensures.value) in
    mod-sum-append c.args.sum c.loop-before.sum c.with_values-sum.result (values_to c.args.tensor.now.extent.width (coefficient c.args.tensor.now) c.loop-before.before) c.level.result.now (values_to c.args.tensor.now.extent.width (coefficient c.args.tensor.now) (c.loop-before.before + 1))
    (level-values c.args.tensor.now.extent c.loop-before.before (coefficient c.args.tensor.now) c.level.result.now within c.level.ensures.len c.level.ensures.value)
    c.loop-before.invariant c.with_values-sum.ensures
