-- What is known while levels are unfolded, and the refusals of single steps.
use Rattle.std.specs.Prelude.{◌≡◌, ℕ, List, [], ℤ, pos}
use Rattle.definitions.specs.Words.{Extent, IsWord}
use Rattle.scaled_tensor.specs.Tensors.{TensorValue, coefficient}
use Rattle.tensor_product.specs.Sigs.{IsBoundedBy}
use Rattle.exp_laws.specs.Unfolded.{unfolded}
use Rattle.piecewise.specs.Faults.{AreMultiples, IsFirst, IsWhole, IsSized}
use Rattle.piecewise.specs.declared.fault.UnfoldFault.{UnfoldFault}
use Rattle.piecewise.specs.declared.fault.UnfoldFault.TheVariants.{Split, Whole, Size, Memory}

-- the levels up to k of the series with the logarithm z, which are within the bounds of this weight, and 0 at longer words
pub record IsKnown (extent : Extent) (z : List ℕ → ℤ) (weight k : ℕ) (t : TensorValue) : Type 0 where
  pub same_extent : t.extent ≡ extent
  pub starts : coefficient t [] ≡ pos 1
  pub values : (word : List ℕ) → IsWord extent word → coefficient t word ≡ unfolded z k word
  pub bounded : IsBoundedBy t weight

-- the first level of an expansion that can't be divided, or want of memory
abbrev pub IsSplitFault : Extent → (List ℕ → ℤ) → UnfoldFault → Type 0
IsSplitFault extent e (Split k) = IsFirst extent.depth (λ j. AreMultiples extent e j j) k
IsSplitFault extent e Memory = Unit {0}
IsSplitFault extent e other = ⊥

-- level k, which can't be unfolded, or want of memory
abbrev pub IsFaultAt : Extent → (List ℕ → ℤ) → ℕ → ℕ → UnfoldFault → Type 0
IsFaultAt extent z weight k (Whole j) = (j ≡ k) × (IsWhole extent z k → ⊥)
IsFaultAt extent z weight k (Size j) = (j ≡ k) × IsWhole extent z k × (IsSized extent z weight k → ⊥)
IsFaultAt extent z weight k Memory = Unit {0}
IsFaultAt extent z weight k other = ⊥
