-- What a logarithm stands for.
use Rattle.std.specs.Prelude.{◌≡◌, ℕ, List}
use Rattle.definitions.specs.Words.{IsWord}
use Rattle.definitions.specs.Moves.{Parts}
use Rattle.definitions.specs.Signature.{signature, weight}
use Rattle.definitions.specs.Logarithm.{logarithm}
use Rattle.scaled_tensor.specs.Tensors.{coefficient}
use Rattle.scaled_tensor.specs.LogTensors.{LogTensorValue}

-- the logarithm of the signature of these moves, with their weight
pub record IsLogOf (p : LogTensorValue) (moves : List Parts) : Type 0 where
  pub weighs : p.weight ≡ weight moves
  pub coefficients : (word : List ℕ) → IsWord p.tensor.extent word → coefficient p.tensor word ≡ logarithm (signature moves) word
