use Rattle.std.proofs.Common.{◌≡◌, ◌≢◌, ◌<◌, ℕ, List, length, ◌-ℤ◌}
use Rattle.definitions.specs.Words.{IsWord, number}
use Rattle.scaled_tensor.specs.Tensors.{coefficient}
use Rattle.piecewise.proofs.levels.write_differences.Given as goal

abbrev pub invariant-loop-number : goal.invariant-loop-number
invariant-loop-number l = record {
  extent : l.tensor.extent ≡ l.a.extent;
  written : (word : List ℕ) → IsWord l.a.extent word → length word ≡ l.k → number l.a.extent.width word < l.number
      → coefficient l.tensor word ≡ coefficient l.a word -ℤ coefficient l.b word;
  others : (word : List ℕ) → IsWord l.a.extent word → length word ≢ l.k → coefficient l.tensor word ≡ coefficient l.initial.tensor word;
}
