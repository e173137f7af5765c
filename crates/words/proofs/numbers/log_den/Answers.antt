use Rattle.std.proofs.Common.{◌*◌, ap₂, arith}
use Rattle.words.proofs.Tables.{log_den-within}
use Rattle.words.proofs.numbers.log_den.Goals as goal

pub overflow_mul-result : goal.overflow_mul-result
overflow_mul-result c = omega (arith, ap₂ ◌*◌ c.factorial.ensures c.lcm_to.ensures, log_den-within c.args.k c.requires)
