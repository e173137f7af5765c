use Rattle.tensor_product.specs.Exponentiation.{exp_factor}
use Rattle.tensor_product.specs.Sums.{IsAddedAt}
use Rattle.tensor_product.proofs.AddedLaws.{IsBetween}
use Rattle.tensor_product.proofs.exponent.add_power.Given as goal

abbrev pub invariant-loop-k : goal.invariant-loop-k
invariant-loop-k l = IsAddedAt (IsBetween l.m l.k) (exp_factor l.m) l.power l.initial.sum l.sum
