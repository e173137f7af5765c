use Rattle.std.proofs.Common.{◌≤◌}
use Rattle.scaled_tensor.specs.Tensors.{coefficient}
use Rattle.exp_log.proofs.HornerSteps.{IsLogAbove}
use Rattle.exp_log.proofs.horner.write_levels.Given as goal

abbrev pub invariant-loop-k : goal.invariant-loop-k
invariant-loop-k l = record {
  within : l.k ≤ l.fn.sum.extent.depth;
  above : IsLogAbove (coefficient l.s) l.k l.fn.sum l.sum;
}

abbrev pub decreases-loop-k : goal.decreases-loop-k
decreases-loop-k l = l.k
