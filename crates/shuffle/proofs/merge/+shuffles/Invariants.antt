use Rattle.std.proofs.Common.{◌+◌, length}
use Rattle.shuffle.proofs.merge.+shuffles.Given as goal

abbrev pub decreases-shuffles : goal.decreases-shuffles
decreases-shuffles l = length l.u.now + length l.v.now
