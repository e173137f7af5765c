use Rattle.std.proofs.Common.{arith}
use Rattle.std.proofs.lemmas.Int.{ints}
use Rattle.dyadic.proofs.Heights.{parent-is_node}
use Rattle.dyadic.proofs.node.Node.parent.Goals as goal

pub invariant_of-result : goal.invariant_of-result
invariant_of-result c =
    let n = c.self.inside.n in
    parent-is_node c.self.inside.k _ n _ c.self.invariant (λ e. omega (arith, ints)) (omega (arith, ints)) (omega arith)
