use Rattle.session.proofs.OutcomeLaws.{run-told}
use Rattle.session.proofs.orders.outcome_of_run.Goals as goal

pub outcome_of-requires : goal.outcome_of-requires
outcome_of-requires c = run-told c.args.script.now c.args.run c.requires
