-- Sources and sinks over memory, as contracts see them.
use Rattle.std.specs.Prelude.{◌≡◌, ◌≢◌, ℕ, ◌+◌, ◌-◌, min, List, [], ◌++◌, length, take, drop, Contains, ◌⊎◌}
use Rattle.rough_io.specs.Counts.{next}

-- a source: its bytes, how many of them are taken, the most that a read gives, the numbers of the reads that fail, and the counts of reads and of faults
pub record SourceState : Type 0 where
  pub bytes : List ℕ
  pub taken : ℕ
  pub piece : ℕ
  pub fails : List ℕ
  pub calls : ℕ
  pub faults : ℕ

-- a sink: its bytes, how many it has room for, the most that a write takes, the numbers of the writes that fail, and the counts of writes and of faults
pub record SinkState : Type 0 where
  pub written : List ℕ
  pub room : ℕ
  pub piece : ℕ
  pub fails : List ℕ
  pub calls : ℕ
  pub faults : ℕ

-- the bytes that a source has left
abbrev pub rest : SourceState → List ℕ
rest s = drop s.taken s.bytes

-- how many bytes a read gives into a buffer of this length, where it does not fail
abbrev pub given : SourceState → ℕ → ℕ
given s length_of_buffer = min s.piece (min length_of_buffer (length s.bytes - s.taken))

-- after a read that gave n bytes
abbrev pub after_read : SourceState → ℕ → SourceState
after_read s n = record s { taken = s.taken + n; calls = next s.calls }

-- after a read that failed
abbrev pub after_failed_read : SourceState → SourceState
after_failed_read s = record s { calls = next s.calls; faults = next s.faults }

-- the next write fails: its number is listed, or it has bytes and the room is used up
abbrev pub WriteFails : SinkState → List ℕ → Type 0
WriteFails s bytes = Contains s.fails (next s.calls) ⊎ ((bytes ≢ []) × (length s.written ≡ s.room))

-- how many of these bytes a write takes, where it does not fail
abbrev pub accepted : SinkState → List ℕ → ℕ
accepted s bytes = min s.piece (min (length bytes) (s.room - length s.written))

-- after a write that took the first n of these bytes
abbrev pub after_write : SinkState → List ℕ → ℕ → SinkState
after_write s bytes n = record s { written = s.written ++ take n bytes; calls = next s.calls }

-- after a write that failed
abbrev pub after_failed_write : SinkState → SinkState
after_failed_write s = record s { calls = next s.calls; faults = next s.faults }
