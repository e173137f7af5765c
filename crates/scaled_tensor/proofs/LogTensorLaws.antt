-- How the bounds of a logarithm are tested, level by level.
use Rattle.std.proofs.Common.{◌≡◌, ◌↔◌, ℕ, zero, suc, ◌+◌, ◌*◌, ◌-◌, ◌<◌, ◌≤◌, ◌^◌, min, refl, sym, ap, ap₂, ◌∙◌, subst, arith, add-one, List, [], length, get_or, ℤ, pos, unsigned_abs, inl, inr}
use Rattle.std.specs.Prelude.{All}
use Rattle.std.proofs.lemmas.Bool.{cases_lt}
use Rattle.std.proofs.lemmas.Int.{ints}
use Rattle.std.proofs.lemmas.List.Elements.{All-from_get_or, All-nil}
use Rattle.std.proofs.Math.Nat.{mul-le-mul_right, pow-suc}
use Rattle.definitions.specs.Words.{IsLetter, IsWord, number, words_of}
use Rattle.definitions.specs.Signature.{limit}
use Rattle.definitions.specs.Sums.{count_below}
use Rattle.definitions.specs.Logarithm.{log_bound}
use Rattle.definitions.proofs.WordLaws.{number-lt}
use Rattle.definitions.proofs.WordLists.{IsNumbered, word-numbered}
use Rattle.scaled_tensor.specs.Tensors.{TensorValue, coefficient}
use Rattle.scaled_tensor.specs.LogTensors.{IsLogTensor}

-- the values of a level are those of its words
pub level-words : (t : TensorValue) (level : List ℤ) (k bound : ℕ) → k ≤ t.extent.depth → length level ≡ t.extent.width ^ k
    → ((word : List ℕ) → IsWord t.extent word → length word ≡ k → get_or level (number t.extent.width word) (pos 0) ≡ coefficient t word)
    → All (λ z. unsigned_abs z ≤ bound) level ↔ ((word : List ℕ) → IsWord t.extent word → length word ≡ k → unsigned_abs (coefficient t word) ≤ bound)
level-words t level k bound within len values = (
  λ all word is_word at.
      subst (λ (z : ℤ). unsigned_abs z ≤ bound) (values word is_word at)
      (all (number t.extent.width word) (pos 0) (omega (arith, len, number-lt t.extent.width word is_word.letters, ap (λ (n : ℕ). t.extent.width ^ n) at))),
  λ words.
      All-from_get_or (λ z. unsigned_abs z ≤ bound) level (pos 0)
      (λ i here.
      let its : IsNumbered t.extent.width k i (get_or (words_of t.extent.width k) i []) = word-numbered t.extent.width k i (omega (arith, here, len)) in
      let is_word : IsWord t.extent (get_or (words_of t.extent.width k) i []) = record { short = omega (arith, its.len, within); letters = its.letters } in
      subst (λ (z : ℤ). unsigned_abs z ≤ bound)
      (sym (values (get_or (words_of t.extent.width k) i []) is_word its.len) ∙ ap (λ (n : ℕ). get_or level n (pos 0)) its.number_is)
      (words (get_or (words_of t.extent.width k) i []) is_word its.len)),
)

-- a product of numbers that are cut off at m, cut off at m
pub capped-mul : (x y m : ℕ) → min (min x m * y) m ≡ min (x * y) m
capped-mul x zero m = omega arith
capped-mul x (suc y) m =
    elim (cases_lt m x) [
      | inl above ↦ let e : min x m ≡ m = omega arith in rw e (omega (arith, mul-le-mul_right (suc y) above))
      | inr upto ↦ let e : min x m ≡ x = omega arith in rw e refl
    ]

-- a bound that is cut off past the limit bounds the same coefficients
pub bounded-words : (t : TensorValue) (weight k power factor bound : ℕ) → power ≡ min (weight ^ k) (2 ^ 128 - 1) → factor ≡ log_bound k → bound ≡ min (power * factor) (2 ^ 128 - 1)
    → ((word : List ℕ) → IsWord t.extent word → length word ≡ k → unsigned_abs (coefficient t word) ≤ limit)
    → ((word : List ℕ) → IsWord t.extent word → length word ≡ k → unsigned_abs (coefficient t word) ≤ bound)
    ↔ ((word : List ℕ) → IsWord t.extent word → length word ≡ k → unsigned_abs (coefficient t word) ≤ weight ^ length word * log_bound (length word))
bounded-words t weight k power factor bound ep ef eb range =
    let cut : bound ≡ min (weight ^ k * log_bound k) (2 ^ 128 - 1) =
    eb ∙ ap₂ (λ (m n : ℕ). min (m * n) (2 ^ 128 - 1)) ep ef ∙ capped-mul (weight ^ k) (log_bound k) (2 ^ 128 - 1) in (
      λ words word is_word at. omega (arith, words word is_word at, cut, ap (λ (n : ℕ). weight ^ n * log_bound n) at),
      λ words word is_word at. omega (arith, words word is_word at, range word is_word at, cut, ap (λ (n : ℕ). weight ^ n * log_bound n) at),
    )

-- the next power, cut off too
pub next-capped : (weight k power next : ℕ) → power ≡ min (weight ^ k) (2 ^ 128 - 1) → next ≡ min (power * weight) (2 ^ 128 - 1) → next ≡ min (weight ^ (k + 1)) (2 ^ 128 - 1)
next-capped weight k power next ep en =
    en ∙ ap (λ (n : ℕ). min (n * weight) (2 ^ 128 - 1)) ep ∙ capped-mul (weight ^ k) weight (2 ^ 128 - 1)
    ∙ ap (λ (n : ℕ). min n (2 ^ 128 - 1)) (sym (pow-suc weight k) ∙ ap (λ (n : ℕ). weight ^ n) (sym (add-one k)))

-- a level of words more
pub longer-bounded : (t : TensorValue) (weight k : ℕ) → ((word : List ℕ) → IsWord t.extent word → length word < k → unsigned_abs (coefficient t word) ≤ weight ^ length word * log_bound (length word))
    → ((word : List ℕ) → IsWord t.extent word → length word ≡ k → unsigned_abs (coefficient t word) ≤ weight ^ length word * log_bound (length word))
    → (word : List ℕ) → IsWord t.extent word → length word < k + 1 → unsigned_abs (coefficient t word) ≤ weight ^ length word * log_bound (length word)
longer-bounded t weight k shorter level word is_word h =
    elim (cases_lt (length word) k) [
      | inl below ↦ shorter word is_word below
      | inr from ↦ level word is_word (omega arith)
    ]

none-at-zero : (z : ℤ) (n : ℕ) → unsigned_abs z ≤ n * log_bound 0 → z ≡ pos 0
unfolding log_bound count_below
none-at-zero z n h = omega (arith, ints)

-- a tensor whose words up to the depth have the bounds of a logarithm is within these, and 0 at the empty word
pub all-bounded : (t : TensorValue) (weight k : ℕ) → t.extent.depth < k
    → ((word : List ℕ) → IsWord t.extent word → length word < k → unsigned_abs (coefficient t word) ≤ weight ^ length word * log_bound (length word))
    → IsLogTensor (record { tensor = t; weight = weight })
all-bounded t weight k deep words = record {
  starts = none-at-zero (coefficient t []) (weight ^ 0) (words [] (record { short = omega arith; letters = All-nil (IsLetter t.extent.width) }) (omega arith));
  bounded = λ word is_word. words word is_word (omega (arith, is_word.short));
}
