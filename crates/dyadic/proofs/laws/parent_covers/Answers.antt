use Rattle.dyadic.proofs.Spans.{within-parent}
use Rattle.dyadic.proofs.laws.parent_covers.Goals as goal

pub returns : goal.returns
returns c = within-parent c.args.node.now
