use Rattle.std.proofs.Common.{◌≡◌, ◌≤◌, ℕ, List, length}
use Rattle.definitions.specs.Words.{IsWord}
use Rattle.scaled_tensor.specs.Tensors.{coefficient}
use Rattle.exp_log.specs.Horner.{IsTail}
use Rattle.exp_log.proofs.horner.log_level.Given as goal

abbrev pub invariant-loop-m : goal.invariant-loop-m
invariant-loop-m g l = record {
  some : 1 ≤ l.m;
  few : l.m ≤ l.k;
  extent : l.sum.extent ≡ l.fn.sum.extent;
  tail : IsTail (coefficient l.s) l.k l.m l.sum;
  longer : (word : List ℕ) → IsWord l.fn.sum.extent word → l.k ≤ length word → coefficient l.sum word ≡ coefficient l.fn.sum word;
}

abbrev pub decreases-loop-m : goal.decreases-loop-m
decreases-loop-m g l = l.m
