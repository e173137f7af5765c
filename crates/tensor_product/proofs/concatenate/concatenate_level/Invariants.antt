use Rattle.std.proofs.Common.{◌≡◌, ◌+◌, length}
use Rattle.definitions.specs.Words.{shorter}
use Rattle.definitions.specs.Exponentials.{plain_product}
use Rattle.scaled_tensor.specs.Tensors.{coefficient}
use Rattle.tensor_product.specs.Concatenation.{IsWrittenBelow}
use Rattle.tensor_product.proofs.concatenate.concatenate_level.Given as goal

abbrev pub invariant-loop-index : goal.invariant-loop-index
invariant-loop-index l = record {
  length : length l.word ≡ l.k;
  progress : IsWrittenBelow (shorter l.a.extent.width l.k + l.index) l.a.extent (plain_product (coefficient l.a) (coefficient l.b)) l.product;
}
