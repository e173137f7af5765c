use Rattle.dyadic.proofs.Spans.{meet-within}
use Rattle.dyadic.proofs.laws.nodes_nest.Goals as goal

pub returns : goal.returns
returns c =
    meet-within c.args.a.now c.args.b.now c.args.tick c.requires.length c.requires.a_low c.requires.a_high c.requires.b_low c.requires.b_high
