-- Multiples of a tensor, added to another one.
use Rattle.std.specs.Prelude.{◌≡◌, ℕ, ◌≤◌, List, length, ℤ, ◌+ℤ◌, ◌*ℤ◌, unsigned_abs}
use Rattle.definitions.specs.Words.{IsWord}
use Rattle.definitions.specs.Signature.{limit}
use Rattle.scaled_tensor.specs.Tensors.{TensorValue, coefficient}

-- no step on the way to x + c y leaves the limit
pub record HasSumRoom (x c y : ℤ) : Type 0 where
  pub multiplied : unsigned_abs (c *ℤ y) ≤ limit
  pub summed : unsigned_abs (x +ℤ (c *ℤ y)) ≤ limit

-- at the words that meet P so many times the coefficient of t is added, c k times at k letters, and the others are as they were
pub record IsAddedAt (P : List ℕ → Type 0) (c : ℕ → ℤ) (t old new : TensorValue) : Type 0 where
  pub same_extent : new.extent ≡ old.extent
  pub sums : (word : List ℕ) → IsWord old.extent word → P word → coefficient new word ≡ coefficient old word +ℤ (c (length word) *ℤ coefficient t word)
  pub others : (word : List ℕ) → IsWord old.extent word → ¬ (P word) → coefficient new word ≡ coefficient old word
