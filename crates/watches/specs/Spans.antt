-- The spans between the ends of intervals, and the intervals that hold a tick.
use Rattle.std.specs.declared.alloc.Global.{Global}
use Rattle.std.specs.Prelude.{◌≡◌, ◌≢◌, ℕ, ◌+◌, ◌<◌, ◌≤◌, Bool, true, List, length, slice_index, slice_index_or, Vec}
use Rattle.std.specs.List.{Contains}
use Rattle.definitions.specs.Rows.{lies_in}
use Rattle.watches.specs.declared.interval.Interval.{Interval}

-- the interval at a place from 0
abbrev pub interval_at : List Interval → ℕ → Interval
interval_at intervals i = slice_index_or intervals i (record { from = 0; to = 0 })

-- the interval at a place has the tick
abbrev pub holds_at : List Interval → ℕ → ℕ → Bool
holds_at intervals i tick = lies_in (interval_at intervals i).from (interval_at intervals i).to tick

-- the places of the intervals that hold a tick, rising
pub record AreHolders (intervals : List Interval) (tick : ℕ) (holders : List ℕ) : Type 0 where
  pub within : (p : ℕ) → p < length holders → slice_index holders p < length intervals
  pub hold : (p : ℕ) → p < length holders → holds_at intervals (slice_index holders p) tick ≡ true
  pub rising : (p q : ℕ) → p < q → q < length holders → slice_index holders p < slice_index holders q
  pub each : (i : ℕ) → i < length intervals → holds_at intervals i tick ≡ true → (p : ℕ) × (p < length holders) × (slice_index holders p ≡ i)

-- zero is among the cuts, and so is each end
pub record HaveEnds (intervals : List Interval) (cuts : List ℕ) : Type 0 where
  pub zero_is : Contains cuts 0
  pub from : (i : ℕ) → i < length intervals → Contains cuts (interval_at intervals i).from
  pub to : (i : ℕ) → i < length intervals → Contains cuts (interval_at intervals i).to

-- for each of these ticks the places of the intervals that hold it
pub record AreHeldAt (intervals : List Interval) (ticks : List ℕ) (holders : List (Vec ℕ Global)) : Type 0 where
  pub count : length holders ≡ length ticks
  pub each : (k : ℕ) (d : Vec ℕ Global) → k < length ticks → AreHolders intervals (slice_index ticks k) (slice_index_or holders k d).items

-- the spans begin at the cuts, the first at 0; beside each stand the intervals that hold each tick of it
pub record AreSpans (intervals : List Interval) (cuts : List ℕ) (holders : List (Vec ℕ Global)) : Type 0 where
  pub some : 0 < length cuts
  pub first : slice_index cuts 0 ≡ 0
  pub count : length holders ≡ length cuts
  pub held : (k tick : ℕ) (d : Vec ℕ Global) → k < length cuts → slice_index cuts k ≤ tick → (k + 1 < length cuts → tick < slice_index cuts (k + 1))
      → AreHolders intervals tick (slice_index_or holders k d).items
