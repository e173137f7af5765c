use Rattle.std.proofs.Common.{◌≡◌, ◌≢◌, ◌<◌, ℕ, List, length, pos}
use Rattle.std.specs.Prelude.{int_div}
use Rattle.definitions.specs.Words.{IsWord, number}
use Rattle.scaled_tensor.specs.Tensors.{coefficient}
use Rattle.piecewise.proofs.levels.write_quotients.Given as goal

abbrev pub invariant-loop-number : goal.invariant-loop-number
invariant-loop-number l = record {
  extent : l.tensor.extent ≡ l.dividends.extent;
  written : (word : List ℕ) → IsWord l.dividends.extent word → length word ≡ l.k → number l.dividends.extent.width word < l.number
      → coefficient l.tensor word ≡ int_div (coefficient l.dividends word) (pos l.divisor);
  others : (word : List ℕ) → IsWord l.dividends.extent word → length word ≢ l.k → coefficient l.tensor word ≡ coefficient l.initial.tensor word;
}
