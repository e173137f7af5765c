-- When the weight of a logarithm is refused, and when a table.
use Rattle.std.specs.Prelude.{◌≡◌, ℕ, ◌<◌, ◌≤◌, ◌^◌}
use Rattle.definitions.specs.Words.{Extent}
use Rattle.definitions.specs.Signature.{Fits}
use Rattle.lie_bracket.specs.declared.fault.TableFault.{TableFault}
use Rattle.lie_bracket.specs.declared.fault.TableFault.TheVariants.{Memory as Short, Pair, Level}
use Rattle.dynkin_map.specs.Coordinates.{lie_bounds}
use Rattle.dynkin_map.specs.Table.{growth_of}
use Rattle.dynkin_map.specs.declared.fault.LieFault.{LieFault}
use Rattle.dynkin_map.specs.declared.fault.LieFault.TheVariants.{Overflow, Memory}

-- an overflow exactly where the weight does not fit, with that weight
abbrev pub IsRefusedBy : Extent → ℕ → LieFault → Type 0
IsRefusedBy extent weight (Overflow w) = (w ≡ weight) × ¬ (Fits (lie_bounds extent) weight)
IsRefusedBy extent weight Memory = Fits (lie_bounds extent) weight

-- the first degree whose growth is above 2^40
pub record IsPastLevel (extent : Extent) (k : ℕ) : Type 0 where
  pub least : 1 ≤ k
  pub most : k ≤ extent.depth
  pub past : 2 ^ 40 < growth_of extent k
  pub before : (j : ℕ) → 1 ≤ j → j < k → growth_of extent j ≤ 2 ^ 40

-- no table: that degree, or want of memory
abbrev pub IsTableFault : Extent → TableFault → Type 0
IsTableFault extent Short = Unit {0}
IsTableFault extent (Pair a b) = ⊥
IsTableFault extent (Level k) = IsPastLevel extent k
