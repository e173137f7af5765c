use Rattle.session.proofs.ExpansionLaws.{expand-in}
use Rattle.session.proofs.laws.logarithms_expand.Goals as goal

pub returns : goal.returns
returns c = expand-in c.args.script.now c.shape-shape.ensures.script
