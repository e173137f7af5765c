use Rattle.std.proofs.Common.{◌≡◌, ◌^◌, rules}
use Rattle.dyadic.specs.Nodes.{node_at}
use Rattle.dyadic.proofs.Heights.{is_node-from_at, high-within}
use Rattle.dyadic.proofs.node.Node.high.Goals as goal

pub returns-clause-bound : goal.returns-clause-bound
returns-clause-bound c =
    let node = node_at c.self.inside.k c.self.inside.n in
    let span : c.power.result ≡ 2 ^ node.height = search rules in
    rw span (high-within node (is_node-from_at c.self.inside.k c.self.inside.n c.self.invariant))
