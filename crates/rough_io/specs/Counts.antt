-- Counts of calls and of faults.
use Rattle.std.specs.Prelude.{◌≡◌, ℕ, ◌+◌, ◌-◌, ◌^◌, ◌<◌, min, ◌⊎◌, Result, MatchResult}

-- where a count stands still
abbrev pub last : ℕ
last = 2 ^ 64 - 1

-- the count after one more
abbrev pub next : ℕ → ℕ
next n = min (n + 1) last

-- a count is greater than before, or stands at its last
abbrev pub Rose : ℕ → ℕ → Type 0
Rose before after = (before < after) ⊎ (after ≡ last)

-- a call that answers `Ok` leaves the count of faults as it was, and one that fails has raised it
abbrev pub IsCounted : {T E : Type 0} → ℕ → ℕ → Result T E → Type 0
IsCounted before after r = MatchResult r (λ _. after ≡ before) (λ _. Rose before after)
