use Rattle.shuffle.proofs.DualLaws.{dual-shuffles}
use Rattle.shuffle.proofs.laws.dual_is_sum_of_shuffles.Goals as goal

pub returns : goal.returns
returns c = dual-shuffles
