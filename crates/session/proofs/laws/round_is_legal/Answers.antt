use Rattle.session.proofs.RoundLaws.{round-legal}
use Rattle.session.proofs.laws.round_is_legal.Goals as goal

pub returns : goal.returns
returns c capacity = round-legal capacity c.args.script.now
