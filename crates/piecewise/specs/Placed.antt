-- The refusals of single parts.
use Rattle.std.specs.Prelude.{◌≡◌, ℕ, ◌<◌, List, [], length, take, pos}
use Rattle.definitions.specs.Words.{Extent, IsWord}
use Rattle.scaled_tensor.specs.Tensors.{TensorValue, coefficient}
use Rattle.tensor_product.specs.Sigs.{IsBoundedBy}
use Rattle.piecewise.specs.Series.{series_of, product_of}
use Rattle.piecewise.specs.Faults.{CanUnfold}
use Rattle.lie_bracket.specs.declared.term.Term.{Term}
use Rattle.piecewise.specs.Wholes.{UnfoldBefore, IsRefusal, part_at, total_weight}
use Rattle.piecewise.specs.declared.fault.WholeFault.{WholeFault}
use Rattle.piecewise.specs.declared.fault.WholeFault.TheVariants.{Part, Overflow, Memory}

-- the refusal of the part at a place, or want of memory
abbrev pub IsRefusedPart : Extent → List Term → ℕ → ℕ → WholeFault → Type 0
IsRefusedPart extent z weight place (Part i fault) = (i ≡ place) × IsRefusal extent z weight fault
IsRefusedPart extent z weight place (Overflow w) = ⊥
IsRefusedPart extent z weight place Memory = Unit {0}

-- the first part with a refusal, or want of memory
abbrev pub IsPlaced : Extent → List (List Term × ℕ) → WholeFault → Type 0
IsPlaced extent parts (Part i fault) = (i < length parts) × UnfoldBefore extent parts i × IsRefusal extent (part_at parts i).0 (part_at parts i).1 fault
IsPlaced extent parts (Overflow w) = ⊥
IsPlaced extent parts Memory = Unit {0}

-- the series of a part, within the bounds of its weight
pub record IsSeriesOf (extent : Extent) (z : List Term) (weight : ℕ) (t : TensorValue) : Type 0 where
  pub same_extent : t.extent ≡ extent
  pub starts : coefficient t [] ≡ pos 1
  pub values : (word : List ℕ) → IsWord extent word → coefficient t word ≡ series_of extent z word
  pub bounded : IsBoundedBy t weight
  pub unfolds : CanUnfold extent z weight
