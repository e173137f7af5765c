-- What a logarithm with its weight is.
use Rattle.std.specs.Prelude.{◌≡◌, ℕ, ◌*◌, ◌^◌, ◌≤◌, List, [], length, pos, unsigned_abs}
use Rattle.definitions.specs.Words.{IsWord}
use Rattle.definitions.specs.Logarithm.{log_bound}
use Rattle.scaled_tensor.specs.Tensors.{TensorValue, coefficient}

pub record LogTensorValue : Type 0 where
  pub tensor : TensorValue
  pub weight : ℕ

-- 0 at the empty word, and at a word of k letters at most the k-th power of the weight times the bound of a logarithm
pub record IsLogTensor (p : LogTensorValue) : Type 0 where
  pub starts : coefficient p.tensor [] ≡ pos 0
  pub bounded : (word : List ℕ) → IsWord p.tensor.extent word → unsigned_abs (coefficient p.tensor word) ≤ p.weight ^ length word * log_bound (length word)
