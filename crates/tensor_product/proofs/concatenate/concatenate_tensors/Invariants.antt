use Rattle.definitions.specs.Words.{shorter}
use Rattle.definitions.specs.Exponentials.{plain_product}
use Rattle.scaled_tensor.specs.Tensors.{coefficient}
use Rattle.tensor_product.specs.Concatenation.{IsWrittenBelow}
use Rattle.tensor_product.proofs.concatenate.concatenate_tensors.Given as goal

abbrev pub invariant-loop-k : goal.invariant-loop-k
invariant-loop-k l = IsWrittenBelow (shorter l.a.extent.width l.k) l.a.extent (plain_product (coefficient l.a) (coefficient l.b)) l.product
