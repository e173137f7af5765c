-- Works: valid plans whose weight fits, and when a list of plans is refused.
use Rattle.std.specs.Prelude.{◌≡◌, ℕ, ◌^◌, ◌<◌, ◌≤◌, All, List, take, slice_get}
use Rattle.std.specs.Option.{IsSomeAnd}
use Rattle.definitions.specs.Words.{Extent}
use Rattle.definitions.specs.Signature.{limit}
use Rattle.solve.specs.Plans.{IsValid, total_weight}
use Rattle.solve.specs.declared.plan.Plan.{Plan}
use Rattle.solve.specs.declared.fault.WorkFault.{WorkFault}
use Rattle.solve.specs.declared.fault.WorkFault.TheVariants.{Plan as NotValid, Overflow}

pub record WorkValue : Type 0 where
  pub extent : Extent
  pub version : ℕ
  pub plans : List Plan

-- all plans are valid, and their weight fits
pub record IsWork (work : WorkValue) : Type 0 where
  pub valid : All (IsValid work.extent) work.plans
  pub fits : total_weight work.plans ^ work.extent.depth ≤ limit

-- the first plan that isn't valid; else the weight, whose power at the depth is past the limit
abbrev pub IsRefusedBy : Extent → List Plan → WorkFault → Type 0
IsRefusedBy extent plans (NotValid at) = All (IsValid extent) (take at plans) × IsSomeAnd (slice_get plans at) (λ plan. ¬ (IsValid extent plan))
IsRefusedBy extent plans (Overflow weight) = All (IsValid extent) plans × (weight ≡ total_weight plans) × (limit < weight ^ extent.depth)
