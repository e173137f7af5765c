-- The first `done` bytes were added, and no write has failed.
use Rattle.std.proofs.Common.{length, take, ◌-◌, ◌≡◌, ◌≤◌}
use Rattle.std.specs.Io.KnownBytes.{Appends}
use Rattle.rough_io.proofs.sink.send.Given as goal

abbrev pub invariant-loop-done : goal.invariant-loop-done
invariant-loop-done g l =
    (l.done ≤ length l.bytes) × Appends (g.O.Sink.written l.initial.sink) (g.O.Sink.written l.sink) (take l.done l.bytes)
    × (g.O.Sink.faults l.sink ≡ g.O.Sink.faults l.initial.sink)

abbrev pub decreases-loop-done : goal.decreases-loop-done
decreases-loop-done g l = length l.bytes - l.done
