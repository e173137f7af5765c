use Rattle.std.proofs.Common.{◌≤◌, ◌+◌}
use Rattle.scaled_tensor.specs.Tensors.{coefficient}
use Rattle.piecewise.specs.Faults.{EachBelow, Unfolds}
use Rattle.piecewise.specs.Levels.{IsKnown}
use Rattle.piecewise.proofs.unfolding.unfold_levels.Given as goal

abbrev pub invariant-loop-before : goal.invariant-loop-before
invariant-loop-before l = record {
  known : IsKnown l.log.extent (coefficient l.log) l.weight l.before l.known;
  levels : EachBelow (Unfolds l.log.extent (coefficient l.log) l.weight) (l.before + 1);
  within : l.before ≤ l.log.extent.depth;
}
