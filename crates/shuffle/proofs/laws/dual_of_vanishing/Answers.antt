use Rattle.shuffle.proofs.DualLaws.{dual-whole}
use Rattle.shuffle.proofs.laws.dual_of_vanishing.Goals as goal

pub returns : goal.returns
returns c = dual-whole
