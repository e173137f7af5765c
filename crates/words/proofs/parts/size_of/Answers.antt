use Rattle.std.proofs.Common.{◌*◌, ◌≤◌, ◌^◌, ℕ, ap, arith}
use Rattle.words.proofs.MoveSizes.{scaled-small}
use Rattle.words.proofs.parts.size_of.Goals as goal

pub overflow_mul-result : goal.overflow_mul-result
overflow_mul-result c =
    let small : 2 ^ c.args.k * c.total_of-sum.result ≤ 2 ^ 102 = scaled-small c.args.k c.total_of-sum.result c.requires.few c.total_of-sum.ensures.bound in
    omega (arith, small, ap (λ (n : ℕ). n * c.total_of-sum.result) c.requires.scale)

pub returns-else-k-eq0-clause-small : goal.returns-else-k-eq0-clause-small
returns-else-k-eq0-clause-small c =
    let small : 2 ^ c.args.k * c.total_of-sum.result ≤ 2 ^ 102 = scaled-small c.args.k c.total_of-sum.result c.requires.few c.total_of-sum.ensures.bound in
    omega (arith, small, ap (λ (n : ℕ). n * c.total_of-sum.result) c.requires.scale)
