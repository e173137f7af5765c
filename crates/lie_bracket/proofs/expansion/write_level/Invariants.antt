use Rattle.std.proofs.Common.{◌≡◌, ◌≢◌, ◌<◌, ℕ, List, length}
use Rattle.definitions.specs.Words.{IsWord, number}
use Rattle.scaled_tensor.specs.Tensors.{coefficient}
use Rattle.definitions.specs.Hall.{hall_list, expansion}
use Rattle.lie_bracket.specs.Brackets.{expanded}
use Rattle.lie_bracket.proofs.expansion.write_level.Given as goal

abbrev pub invariant-loop-number : goal.invariant-loop-number
invariant-loop-number l = record {
  extent : l.tensor.extent ≡ l.hall;
  written : (word : List ℕ) → IsWord l.hall word → length word ≡ l.k → number l.hall.width word < l.number
      → coefficient l.tensor word ≡ expanded (expansion (hall_list l.hall.width l.hall.depth)) l.terms word;
  others : (word : List ℕ) → IsWord l.hall word → length word ≢ l.k → coefficient l.tensor word ≡ coefficient l.initial.tensor word;
}
