use Rattle.std.proofs.Common.{arith}
use Rattle.definitions.proofs.Binomials.{factorial-pos}
use Rattle.tensor_product.proofs.exponent.exp_factor.Goals as goal

pub nonzero_div-result : goal.nonzero_div-result
nonzero_div-result c = omega (arith, c.factorial-2.ensures, factorial-pos c.args.m)
