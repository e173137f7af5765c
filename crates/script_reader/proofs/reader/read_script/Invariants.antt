use Rattle.std.proofs.Common.{◌≡◌, ◌≤◌, ◌-◌, length, drop}
use Rattle.script_reader.specs.Coordinates.{degree_counts}
use Rattle.script_reader.specs.Limits.{named}
use Rattle.script_reader.proofs.Loop.{IsReading}
use Rattle.script_reader.proofs.reader.read_script.Given as goal

abbrev pub invariant-loop-end : goal.invariant-loop-end
invariant-loop-end l = record {
  within : l.from ≤ length l.bytes;
  reading : IsReading l.bytes l.number (drop l.from l.bytes) l.reader.tally l.reader.sessions.items l.reader.watches.items;
  counted : l.reader.counts.items ≡ degree_counts (named l.reader.tally.shape);
}

abbrev pub decreases-loop-end : goal.decreases-loop-end
decreases-loop-end l = length l.bytes - l.from
