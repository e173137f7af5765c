use Rattle.session.proofs.StepLaws.{after-settle}
use Rattle.std.proofs.Common.{refl}
use Rattle.session.proofs.run.settle_step.Goals as goal

pub returns : goal.returns
returns c = after-settle c.args.session c.args.run.now _ c.requires.ready c.requires.places c.in_ok-settle.ensures.ok refl refl refl
