-- When a product of exponentials has no logarithm in coordinates.
use Rattle.std.specs.Prelude.{◌≡◌, ℕ}
use Rattle.definitions.specs.Words.{Extent}
use Rattle.definitions.specs.Signature.{Fits}
use Rattle.dynkin_map.specs.Coordinates.{lie_bounds}
use Rattle.cbh_calc.specs.declared.fault.CbhFault.{CbhFault}
use Rattle.cbh_calc.specs.declared.fault.CbhFault.TheVariants.{Overflow, Memory}

-- an overflow exactly where the weight doesn't fit, with that weight
abbrev pub IsRefusedBy : Extent → ℕ → CbhFault → Type 0
IsRefusedBy extent weight (Overflow w) = (w ≡ weight) × ¬ (Fits (lie_bounds extent) weight)
IsRefusedBy extent weight Memory = Fits (lie_bounds extent) weight
