use Rattle.std.proofs.Common.{◌+◌, length}
use Rattle.functionals.proofs.shuffling.+add_shuffles.Given as goal

abbrev pub decreases-add_shuffles : goal.decreases-add_shuffles
decreases-add_shuffles l = length l.u.now + length l.v.now
