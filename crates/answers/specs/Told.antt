-- The order of the steps can be read back from what is written.
use Rattle.std.specs.Prelude.{◌≡◌, ℕ, ◌^◌, ◌<◌, List, All}
use Rattle.definitions.specs.Words.{Extent}
use Rattle.watches.specs.declared.interval.Interval.{Interval}
use Rattle.session.specs.Play.{DueOutcome}

-- outcomes of one shape that are written alike, with the same watches, have one order; the numbers of its sessions have at most 64 bits
abbrev pub TellsOrder : (Extent → List Interval → DueOutcome → List ℕ) → Type 0
TellsOrder written = (extent : Extent) (watches : List Interval) (first second : DueOutcome) → All (λ session. session < 2 ^ 64) first.order → All (λ session. session < 2 ^ 64) second.order
    → written extent watches first ≡ written extent watches second → first.order ≡ second.order
