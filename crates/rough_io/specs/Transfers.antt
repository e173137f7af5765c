-- What several reads or writes do to the bytes that a source has left and a sink was given, where those are told.
use Rattle.std.specs.Prelude.{ℕ, ◌≤◌, List, Option, length, take}
use Rattle.std.specs.Io.KnownBytes.{Appends, Consumes}

-- at most so many bytes were taken from the front of those left, and no others
abbrev pub TakesAtMost : ℕ → Option (List ℕ) → Option (List ℕ) → Type 0
TakesAtMost most before after = (taken : List ℕ) × (length taken ≤ most) × Consumes before after taken

-- some first bytes of these were added, and no others
abbrev pub AddsPrefix : List ℕ → Option (List ℕ) → Option (List ℕ) → Type 0
AddsPrefix bytes before after = (n : ℕ) × (n ≤ length bytes) × Appends before after (take n bytes)
