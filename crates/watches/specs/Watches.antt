-- Which versions touch watched intervals.
use Rattle.std.specs.declared.alloc.Global.{Global}
use Rattle.std.specs.Prelude.{◌≡◌, ℕ, ◌+◌, ◌-◌, ◌<◌, ◌≤◌, ◌^◌, List, length, filter, slice_index_or, Vec}
use Rattle.std.specs.List.{range_with_len}
use Rattle.versions.specs.declared.edit.Edit.{Edit}
use Rattle.versions.specs.declared.edit.Edit.TheVariants.{Append, Correct, Remove}
use Rattle.versions.specs.declared.log.Accepted.{Accepted}
use Rattle.versions.specs.Versions.{LogValue, touched}
use Rattle.watches.specs.declared.interval.Interval.{Interval}
use Rattle.watches.specs.declared.fault.FeedFault.{FeedFault}
use Rattle.watches.specs.declared.fault.FeedFault.TheVariants.{NameTaken, NoRow}
use Rattle.watches.specs.Spans.{interval_at}

-- the versions whose edit has its tick in [a, b), rising
abbrev pub touching : ℕ → ℕ → List Accepted → List ℕ
touching a b edits = filter (touched a b edits) (range_with_len 1 (length edits))

-- the accepted edits of a stream, and the intervals that are watched
pub record WatchesValue : Type 0 where
  pub log : LogValue
  pub intervals : List Interval

-- the interval of a watch, by its number from 1
abbrev pub interval_of : WatchesValue → ℕ → Interval
interval_of watches i = interval_at watches.intervals (i - 1)

-- why an edit isn't accepted, with the current version: an append because its name is live, any other because its name isn't
abbrev pub feed_refusal : Edit → ℕ → FeedFault
feed_refusal (Append name tick x) version = NameTaken version
feed_refusal (Correct name x) version = NoRow version
feed_refusal (Remove name) version = NoRow version

-- an interval of the line of time
pub record IsInterval (interval : Interval) : Type 0 where
  pub rises : interval.from ≤ interval.to
  pub within : interval.to ≤ 2 ^ 32

-- at most 64 intervals, each with the versions that touch it
pub record AreWatches (watches : WatchesValue) (lists : List (Vec ℕ Global)) : Type 0 where
  pub few : length watches.intervals ≤ 64
  pub count : length lists ≡ length watches.intervals
  pub intervals : (i : ℕ) → i < length watches.intervals → IsInterval (interval_at watches.intervals i)
  pub listed : (i : ℕ) (d : Vec ℕ Global) → i < length watches.intervals
      → (slice_index_or lists i d).items ≡ touching (interval_at watches.intervals i).from (interval_at watches.intervals i).to watches.log.edits
