use Rattle.std.proofs.Common.{◌-◌}
use Rattle.definitions.specs.Exponentials.{plain_power}
use Rattle.scaled_tensor.specs.Tensors.{coefficient}
use Rattle.tensor_product.specs.Concatenation.{IsWritten}
use Rattle.tensor_product.specs.Exponentiation.{partial_exponential}
use Rattle.tensor_product.proofs.exponent.exponential_of.Given as goal

abbrev pub invariant-loop-m : goal.invariant-loop-m
invariant-loop-m l = record {
  power : IsWritten l.z.extent (plain_power (coefficient l.z) (l.m - 1)) l.power;
  sum : IsWritten l.z.extent (partial_exponential (coefficient l.z) (l.m - 1)) l.sum;
}
