-- What a signature with its weight stands for.
use Rattle.std.specs.Prelude.{◌≡◌, ℕ, ◌^◌, ◌≤◌, List, [], length, pos, unsigned_abs}
use Rattle.definitions.specs.Words.{IsWord}
use Rattle.definitions.specs.Moves.{Parts}
use Rattle.definitions.specs.Signature.{signature, weight, limit}
use Rattle.scaled_tensor.specs.Tensors.{TensorValue, coefficient}

pub record SigValue : Type 0 where
  pub tensor : TensorValue
  pub weight : ℕ

-- the coefficient of each word of k letters is at most v ^ k
pub record IsBoundedBy (t : TensorValue) (v : ℕ) : Type 0 where
  pub bounded : (word : List ℕ) → IsWord t.extent word → unsigned_abs (coefficient t word) ≤ v ^ length word

pub record IsSig (s : SigValue) : Type 0 where
  pub fits : s.weight ^ s.tensor.extent.depth ≤ limit
  pub starts : coefficient s.tensor [] ≡ pos 1
  pub bounded : IsBoundedBy s.tensor s.weight

-- the signature of these moves, with their weight
pub record StandsFor (s : SigValue) (moves : List Parts) : Type 0 where
  pub weighs : s.weight ≡ weight moves
  pub coefficients : (word : List ℕ) → IsWord s.tensor.extent word → coefficient s.tensor word ≡ signature moves word
