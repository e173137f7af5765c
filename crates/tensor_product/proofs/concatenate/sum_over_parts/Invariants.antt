use Rattle.std.proofs.Common.{◌≡◌, get_or, pos}
use Rattle.scaled_tensor.specs.Tensors.{coefficient}
use Rattle.tensor_product.specs.Concatenation.{plain_sum}
use Rattle.tensor_product.proofs.concatenate.sum_over_parts.Given as goal

abbrev pub invariant-loop-cut : goal.invariant-loop-cut
invariant-loop-cut l = l.sum ≡ plain_sum (λ i. get_or l.prefixes i (pos 0)) (coefficient l.b) l.word l.cut
