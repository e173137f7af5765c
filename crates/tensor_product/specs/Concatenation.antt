-- The product of two tensors by plain concatenation, cut by cut, and tensors while they are written word by word.
use Rattle.std.specs.Prelude.{◌≡◌, ℕ, suc, ◌<◌, ◌≤◌, List, length, drop, ℤ, ◌*ℤ◌, unsigned_abs}
use Rattle.definitions.specs.Words.{Extent, IsWord}
use Rattle.definitions.specs.Sums.{sum_below}
use Rattle.definitions.specs.Signature.{limit}
use Rattle.scaled_tensor.specs.Tensors.{TensorValue, place, coefficient}

-- what the cut after i letters adds, where p i is the coefficient of the first i letters
abbrev pub plain_value : (ℕ → ℤ) → (List ℕ → ℤ) → List ℕ → ℕ → ℤ
plain_value p b word i = p i *ℤ b (drop i word)

-- the sum over the cuts after fewer than n letters
unfoldable pub plain_sum : (ℕ → ℤ) → (List ℕ → ℤ) → List ℕ → ℕ → ℤ
plain_sum p b word n = sum_below n (plain_value p b word)

-- no step on the way to the sum over all cuts leaves the limit
pub record HasPlainRoom (p : ℕ → ℤ) (b : List ℕ → ℤ) (word : List ℕ) : Type 0 where
  pub joined : (i : ℕ) → i ≤ length word → unsigned_abs (p i *ℤ b (drop i word)) ≤ limit
  pub summed : (n : ℕ) → n ≤ suc (length word) → unsigned_abs (plain_sum p b word n) ≤ limit

-- the words of an extent whose place is below n have the coefficients of a series
pub record IsWrittenBelow (n : ℕ) (extent : Extent) (series : List ℕ → ℤ) (t : TensorValue) : Type 0 where
  pub same_extent : t.extent ≡ extent
  pub values : (word : List ℕ) → IsWord extent word → place extent word < n → coefficient t word ≡ series word

-- each word of an extent has the coefficient of a series
pub record IsWritten (extent : Extent) (series : List ℕ → ℤ) (t : TensorValue) : Type 0 where
  pub same_extent : t.extent ≡ extent
  pub values : (word : List ℕ) → IsWord extent word → coefficient t word ≡ series word
