use Rattle.std.proofs.Common.{◌≡◌, ◌≤◌, ◌<◌, ◌*◌, ◌^◌, ◌-◌, min, ℕ, List, length, unsigned_abs}
use Rattle.definitions.specs.Words.{IsWord}
use Rattle.definitions.specs.Logarithm.{log_bound}
use Rattle.scaled_tensor.specs.Tensors.{coefficient}
use Rattle.scaled_tensor.proofs.log_tensor.is_log_tensor.Given as goal

abbrev pub invariant-loop-k : goal.invariant-loop-k
invariant-loop-k l = record {
  power : l.power ≡ min (l.weight ^ l.k) (2 ^ 128 - 1);
  shorter : (word : List ℕ) → IsWord l.tensor.extent word → length word < l.k → unsigned_abs (coefficient l.tensor word) ≤ l.weight ^ length word * log_bound (length word);
}
