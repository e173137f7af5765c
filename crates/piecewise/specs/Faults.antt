-- When the coordinates of a logarithm are refused, level by level.
use Rattle.std.specs.Prelude.{◌≡◌, ℕ, suc, ◌-◌, ◌*◌, ◌^◌, ◌<◌, ◌≤◌, List, map, length, ℤ, pos, ◌-ℤ◌, int_rem, unsigned_abs}
use Rattle.definitions.specs.Words.{Extent, IsWord, up_to}
use Rattle.definitions.specs.Signature.{Fits}
use Rattle.definitions.specs.Logarithm.{lcm_to, logarithm, log_bound}
use Rattle.definitions.specs.Hall.{hall_list}
use Rattle.lie_bracket.specs.declared.term.Term.{Term}
use Rattle.lie_bracket.specs.Expanding.{FitsLevel, FitsBelow}
use Rattle.exp_laws.specs.Unfolded.{unfolded}
use Rattle.piecewise.specs.Series.{expansion_of, log_of}
use Rattle.piecewise.specs.declared.fault.UnfoldFault.{UnfoldFault}
use Rattle.piecewise.specs.declared.fault.UnfoldFault.TheVariants.{Overflow, Expand, Split, Log, Whole, Size, Memory}

-- what a weight is multiplied by at k letters: twice the bound of a logarithm, as for the difference of two
abbrev pub unfold_bound : ℕ → ℕ
unfold_bound k = 2 * log_bound k

-- the differences of two logarithms of this weight are in range
abbrev pub UnfoldFits : ℕ → ℕ → Type 0
UnfoldFits weight depth = Fits (map unfold_bound (up_to depth)) weight

-- each level from 1 to below k is so
abbrev pub EachBelow : (ℕ → Type 0) → ℕ → Type 0
EachBelow P k = (j : ℕ) → 1 ≤ j → j < k → P j

-- the first level from 1 to the depth that isn't so
pub record IsFirst (depth : ℕ) (P : ℕ → Type 0) (k : ℕ) : Type 0 where
  pub least : 1 ≤ k
  pub most : k ≤ depth
  pub fails : P k → ⊥
  pub before : EachBelow P k

-- ---- what is asked of each level
-- each number at the words of k letters is a multiple
abbrev pub AreMultiples : Extent → (List ℕ → ℤ) → ℕ → ℕ → Type 0
AreMultiples extent s k divisor = (word : List ℕ) → IsWord extent word → length word ≡ k → int_rem (s word) (pos divisor) ≡ pos 0

-- no number at the words of k letters is greater
abbrev pub AreWithin : Extent → (List ℕ → ℤ) → ℕ → ℕ → Type 0
AreWithin extent s k bound = (word : List ℕ) → IsWord extent word → length word ≡ k → unsigned_abs (s word) ≤ bound

-- level k of the expansion is a multiple of k
abbrev pub IsSplit : Extent → List Term → ℕ → Type 0
IsSplit extent z k = AreMultiples extent (expansion_of extent z) k k

-- level k of a logarithm is within the bound of a logarithm of this weight
abbrev pub IsLogLevel : Extent → (List ℕ → ℤ) → ℕ → ℕ → Type 0
IsLogLevel extent z weight k = AreWithin extent z k (weight ^ k * log_bound k)

-- what the levels below leave of level k of a logarithm is a multiple of lcm_to k
abbrev pub IsWhole : Extent → (List ℕ → ℤ) → ℕ → Type 0
IsWhole extent z k = AreMultiples extent (λ word. z word -ℤ logarithm (unfolded z (k - 1)) word) k (lcm_to k)

-- level k of the series with this logarithm is within the bound of this weight
abbrev pub IsSized : Extent → (List ℕ → ℤ) → ℕ → ℕ → Type 0
IsSized extent z weight k = AreWithin extent (unfolded z k) k (weight ^ k)

-- level k can be unfolded
abbrev pub Unfolds : Extent → (List ℕ → ℤ) → ℕ → ℕ → Type 0
Unfolds extent z weight k = IsWhole extent z k × IsSized extent z weight k

-- ---- the refusals, in their order
-- the weight fits, and the coordinates can be expanded
pub record CanExpand (extent : Extent) (z : List Term) (weight : ℕ) : Type 0 where
  pub fits : UnfoldFits weight extent.depth
  pub levels : FitsBelow (hall_list extent.width extent.depth) z (suc extent.depth)

-- and the expansion can be divided
pub record CanSplit (extent : Extent) (z : List Term) (weight : ℕ) : Type 0 where
  pub expands : CanExpand extent z weight
  pub levels : EachBelow (IsSplit extent z) (suc extent.depth)

-- and it is within the bounds of a logarithm
pub record IsLog (extent : Extent) (z : List Term) (weight : ℕ) : Type 0 where
  pub splits : CanSplit extent z weight
  pub levels : EachBelow (IsLogLevel extent (log_of extent z) weight) (suc extent.depth)

-- and each level can be unfolded
pub record CanUnfold (extent : Extent) (z : List Term) (weight : ℕ) : Type 0 where
  pub is_log : IsLog extent z weight
  pub levels : EachBelow (Unfolds extent (log_of extent z) weight) (suc extent.depth)

-- the first level that can't be unfolded, by its remainders or by its size
abbrev pub IsLevelFault : Extent → (List ℕ → ℤ) → ℕ → UnfoldFault → Type 0
IsLevelFault extent z weight (Whole k) = (1 ≤ k) × (k ≤ extent.depth) × (IsWhole extent z k → ⊥) × EachBelow (Unfolds extent z weight) k
IsLevelFault extent z weight (Size k) = (1 ≤ k) × (k ≤ extent.depth) × IsWhole extent z k × (IsSized extent z weight k → ⊥) × EachBelow (Unfolds extent z weight) k
IsLevelFault extent z weight Memory = Unit {0}
IsLevelFault extent z weight other = ⊥

-- each refusal comes exactly where those before it don't; want of memory comes only where the coordinates can be expanded
abbrev pub IsUnfoldFault : Extent → List Term → ℕ → UnfoldFault → Type 0
IsUnfoldFault extent z weight (Overflow w) = (w ≡ weight) × (UnfoldFits weight extent.depth → ⊥)
IsUnfoldFault extent z weight (Expand k) = UnfoldFits weight extent.depth × IsFirst extent.depth (FitsLevel (hall_list extent.width extent.depth) z) k
IsUnfoldFault extent z weight (Split k) = CanExpand extent z weight × IsFirst extent.depth (IsSplit extent z) k
IsUnfoldFault extent z weight (Log k) = CanSplit extent z weight × IsFirst extent.depth (IsLogLevel extent (log_of extent z) weight) k
IsUnfoldFault extent z weight (Whole k) = IsLog extent z weight × IsLevelFault extent (log_of extent z) weight (Whole k)
IsUnfoldFault extent z weight (Size k) = IsLog extent z weight × IsLevelFault extent (log_of extent z) weight (Size k)
IsUnfoldFault extent z weight Memory = CanExpand extent z weight

-- a refusal for want of room: of the numbers or of memory
abbrev pub IsWantOfRoom : UnfoldFault → Type 0
IsWantOfRoom (Overflow w) = Unit {0}
IsWantOfRoom (Expand k) = Unit {0}
IsWantOfRoom Memory = Unit {0}
IsWantOfRoom other = ⊥
