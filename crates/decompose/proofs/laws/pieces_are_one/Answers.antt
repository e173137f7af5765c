use Rattle.decompose.proofs.Lists.{same-members}
use Rattle.decompose.proofs.laws.pieces_are_one.Goals as goal

pub returns : goal.returns
returns c =
    let one = c.requires.nodes in
    let other = c.requires.others in
    same-members c.args.nodes.now c.args.others.now one.ordered other.ordered
    (λ v m. (other.members v).1 ((one.members v).0 m)) (λ v m. (one.members v).1 ((other.members v).0 m))
