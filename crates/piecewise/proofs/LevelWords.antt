-- The numbers of a level are those of its words.
use Rattle.std.proofs.Common.{◌≡◌, ◌↔◌, ℕ, ◌≤◌, ◌^◌, sym, ap, ◌∙◌, subst, arith, List, [], length, get_or, ℤ, pos}
use Rattle.std.specs.Prelude.{All}
use Rattle.std.proofs.lemmas.List.Elements.{All-from_get_or}
use Rattle.definitions.specs.Words.{IsWord, number, words_of}
use Rattle.definitions.proofs.WordLaws.{number-lt}
use Rattle.definitions.proofs.WordLists.{IsNumbered, word-numbered}
use Rattle.scaled_tensor.specs.Tensors.{TensorValue, coefficient}

-- each number of a level meets P where the coefficient of each of its words does
pub level-each : (P : ℤ → Type 0) (t : TensorValue) (level : List ℤ) (k : ℕ) → k ≤ t.extent.depth → length level ≡ t.extent.width ^ k
    → ((word : List ℕ) → IsWord t.extent word → length word ≡ k → get_or level (number t.extent.width word) (pos 0) ≡ coefficient t word)
    → All P level ↔ ((word : List ℕ) → IsWord t.extent word → length word ≡ k → P (coefficient t word))
level-each P t level k within len values = (
  λ all word is_word at.
      subst P (values word is_word at)
      (all (number t.extent.width word) (pos 0) (omega (arith, len, number-lt t.extent.width word is_word.letters, ap (λ (n : ℕ). t.extent.width ^ n) at))),
  λ words.
      All-from_get_or P level (pos 0)
      (λ i here.
      let its : IsNumbered t.extent.width k i (get_or (words_of t.extent.width k) i []) = word-numbered t.extent.width k i (omega (arith, here, len)) in
      let is_word : IsWord t.extent (get_or (words_of t.extent.width k) i []) = record { short = omega (arith, its.len, within); letters = its.letters } in
      subst P
      (sym (values (get_or (words_of t.extent.width k) i []) is_word its.len) ∙ ap (λ (n : ℕ). get_or level n (pos 0)) its.number_is)
      (words (get_or (words_of t.extent.width k) i []) is_word its.len)),
)
