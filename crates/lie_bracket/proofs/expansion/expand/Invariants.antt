use Rattle.std.proofs.Common.{◌≡◌, ◌≤◌, ℕ, List, length}
use Rattle.definitions.specs.Words.{IsWord}
use Rattle.scaled_tensor.specs.Tensors.{coefficient}
use Rattle.definitions.specs.Hall.{hall_list, expansion}
use Rattle.lie_bracket.specs.Brackets.{expanded}
use Rattle.lie_bracket.proofs.expansion.expand.Given as goal

abbrev pub invariant-loop-before : goal.invariant-loop-before
invariant-loop-before l = record {
  extent : l.tensor.extent ≡ l.hall;
  written : (word : List ℕ) → IsWord l.hall word → length word ≤ l.before → coefficient l.tensor word ≡ expanded (expansion (hall_list l.hall.width l.hall.depth)) l.z word;
}
