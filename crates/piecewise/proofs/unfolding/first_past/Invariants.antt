use Rattle.std.proofs.Common.{◌+◌}
use Rattle.scaled_tensor.specs.Tensors.{coefficient}
use Rattle.piecewise.specs.Faults.{EachBelow, IsLogLevel}
use Rattle.piecewise.proofs.unfolding.first_past.Given as goal

abbrev pub invariant-loop-before : goal.invariant-loop-before
invariant-loop-before l = EachBelow (IsLogLevel l.log.extent (coefficient l.log) l.weight) (l.before + 1)
