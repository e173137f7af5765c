use Rattle.piecewise.proofs.PartitionLaws.{rounded-rising}
use Rattle.piecewise.proofs.laws.rounding_keeps_order.Goals as goal

pub returns : goal.returns
returns c = rounded-rising
