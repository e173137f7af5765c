use Rattle.exp_log.proofs.PowerBounds.{logarithm-bound}
use Rattle.exp_log.proofs.laws.bounded_by_weight.Goals as goal

pub returns : goal.returns
returns c = logarithm-bound
