use Rattle.std.proofs.Common.{◌≡◌, ◌≤◌, ◌+◌, ℕ, List, [], length, pos}
use Rattle.std.specs.Prelude.{int_div}
use Rattle.definitions.specs.Words.{IsWord}
use Rattle.scaled_tensor.specs.Tensors.{coefficient}
use Rattle.piecewise.specs.Faults.{EachBelow, AreMultiples}
use Rattle.piecewise.proofs.unfolding.split.Given as goal

abbrev pub invariant-loop-before : goal.invariant-loop-before
invariant-loop-before l = record {
  extent : l.log.extent ≡ l.expansion.extent;
  values : (word : List ℕ) → IsWord l.expansion.extent word → 1 ≤ length word → length word ≤ l.before
      → coefficient l.log word ≡ int_div (coefficient l.expansion word) (pos (length word));
  empty : coefficient l.log [] ≡ pos 0;
  splits : EachBelow (λ k. AreMultiples l.expansion.extent (coefficient l.expansion) k k) (l.before + 1);
}
