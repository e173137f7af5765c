use Rattle.std.proofs.Common.{◌≡◌, length}
use Rattle.tensor_product.proofs.ExtendLaws.{IsBelow}
use Rattle.tensor_product.specs.Exponentiation.{exp_factor}
use Rattle.tensor_product.specs.Sums.{IsAddedAt}
use Rattle.tensor_product.proofs.exponent.add_level.Given as goal

abbrev pub invariant-loop-index : goal.invariant-loop-index
invariant-loop-index l = record {
  length : length l.word ≡ l.k;
  progress : IsAddedAt (IsBelow l.initial.sum.extent.width l.k l.index) (exp_factor l.m) l.power l.initial.sum l.sum;
}
