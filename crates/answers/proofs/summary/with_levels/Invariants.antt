use Rattle.std.proofs.Common.{◌≡◌, ◌^◌, pos, ◌+ℤ◌}
use Rattle.scaled_tensor.specs.Tensors.{coefficient}
use Rattle.answers.specs.Generator.{int_sum, int_mod}
use Rattle.answers.proofs.TensorSums.{values_to}
use Rattle.answers.proofs.summary.with_levels.Given as goal

abbrev pub invariant-loop-before : goal.invariant-loop-before
invariant-loop-before l = l.sum ≡ int_mod (pos l.initial.sum +ℤ int_sum (values_to l.tensor.extent.width (coefficient l.tensor) l.before)) (2 ^ 64)
