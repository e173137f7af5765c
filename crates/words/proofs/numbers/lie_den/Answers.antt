use Rattle.std.proofs.Common.{ℕ, ◌*◌, ap, arith}
use Rattle.words.proofs.Tables.{lie_den-within}
use Rattle.words.proofs.numbers.lie_den.Goals as goal

pub overflow_mul-result : goal.overflow_mul-result
overflow_mul-result c = omega (arith, ap (λ (n : ℕ). c.args.k * n) c.log_den.ensures, lie_den-within c.args.k c.requires)
