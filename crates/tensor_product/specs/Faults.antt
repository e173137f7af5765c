-- When a weight is refused.
use Rattle.std.specs.Prelude.{◌≡◌, ℕ, ◌^◌, ◌<◌, ◌≤◌}
use Rattle.definitions.specs.Signature.{limit}
use Rattle.tensor_product.specs.declared.fault.ProductFault.{ProductFault}
use Rattle.tensor_product.specs.declared.fault.ProductFault.TheVariants.{Overflow, Memory}

-- an overflow exactly where the power of the weight is past the limit, with that weight
abbrev pub IsRefusedBy : ℕ → ℕ → ProductFault → Type 0
IsRefusedBy weight depth (Overflow w) = (w ≡ weight) × (limit < weight ^ depth)
IsRefusedBy weight depth Memory = weight ^ depth ≤ limit
