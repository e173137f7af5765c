-- Tensors without a constant term, and their exponentials, power by power.
use Rattle.std.specs.Prelude.{◌≡◌, ℕ, suc, ◌-◌, ◌/◌, ◌^◌, ◌≤◌, List, [], All, length, slice_index_or, ℤ, pos, ◌*ℤ◌, unsigned_abs}
use Rattle.definitions.specs.Words.{IsWord, factorial}
use Rattle.definitions.specs.Sums.{sum_below}
use Rattle.definitions.specs.Exponentials.{plain_power, exponential}
use Rattle.definitions.specs.Moves.{weight_from}
use Rattle.scaled_tensor.specs.Tensors.{TensorValue, coefficient}
use Rattle.tensor_product.specs.Sigs.{SigValue}
use Rattle.tensor_product.specs.Extension.{prefixes_of}
use Rattle.tensor_product.specs.Concatenation.{HasPlainRoom}
use Rattle.tensor_product.specs.Sums.{HasSumRoom}

-- at k + 1 letters no coefficient is greater than the size at place k
pub record HasSizes (z : TensorValue) (sizes : List ℕ) : Type 0 where
  pub starts : coefficient z [] ≡ pos 0
  pub each : length sizes ≡ z.extent.depth
  pub small : All (λ p. p ≤ 2 ^ 102) sizes
  pub within : (k : ℕ) (word : List ℕ) → IsWord z.extent word → length word ≡ suc k → unsigned_abs (coefficient z word) ≤ slice_index_or sizes k 0

-- the exponential of a tensor, with the weight of its sizes
pub record IsExponentialOf (z : TensorValue) (sizes : List ℕ) (s : SigValue) : Type 0 where
  pub same_extent : s.tensor.extent ≡ z.extent
  pub weighs : s.weight ≡ weight_from z.extent.depth 1 sizes
  pub coefficients : (word : List ℕ) → IsWord z.extent word → coefficient s.tensor word ≡ exponential (coefficient z) word

-- the factor of the m-th power at words of k letters
abbrev pub exp_factor : ℕ → ℕ → ℤ
exp_factor m k = pos (factorial k / factorial m)

-- what the m-th power adds at a word
abbrev pub exp_term : (List ℕ → ℤ) → List ℕ → ℕ → ℤ
exp_term s word m = exp_factor m (length word) *ℤ plain_power s m word

-- the sum over the powers 0 to n
unfoldable pub partial_exponential : (List ℕ → ℤ) → ℕ → List ℕ → ℤ
partial_exponential s n word = sum_below (suc n) (exp_term s word)

-- no power and no sum on the way leaves the limit
pub record HasPowerRoom (z : TensorValue) : Type 0 where
  pub starts : coefficient z [] ≡ pos 0
  pub joined : (m : ℕ) (word : List ℕ) → IsWord z.extent word → HasPlainRoom (prefixes_of z word) (plain_power (coefficient z) m) word
  pub added : (m : ℕ) (word : List ℕ) → IsWord z.extent word → 1 ≤ m → m ≤ length word
      → HasSumRoom (partial_exponential (coefficient z) (m - 1) word) (exp_factor m (length word)) (plain_power (coefficient z) m word)
