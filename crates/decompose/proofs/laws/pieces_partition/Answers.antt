use Rattle.decompose.proofs.Cover.{pieces-adjoin}
use Rattle.decompose.proofs.Counts.{pieces-few}
use Rattle.decompose.proofs.laws.pieces_partition.Goals as goal

pub returns : goal.returns
returns c =
    let nodes = c.args.nodes.now in
    let adjoin = pieces-adjoin c.args.a c.args.b nodes c.requires.order c.requires.line c.requires.pieces in
    record {
      adjoin = adjoin;
      count = pieces-few c.args.a c.args.b nodes c.requires.line adjoin c.requires.pieces;
    }
