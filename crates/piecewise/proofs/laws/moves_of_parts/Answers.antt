use Rattle.piecewise.proofs.PartitionLaws.{moves-parts}
use Rattle.piecewise.proofs.laws.moves_of_parts.Goals as goal

pub returns : goal.returns
returns c = moves-parts
