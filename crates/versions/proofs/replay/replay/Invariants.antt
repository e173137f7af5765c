use Rattle.std.proofs.Common.{◌≡◌}
use Rattle.versions.specs.Versions.{rows_at}
use Rattle.versions.proofs.replay.replay.Given as goal

abbrev pub invariant-loop-i : goal.invariant-loop-i
invariant-loop-i l = l.rows ≡ record { extent = l.fn.shape; rows = rows_at l.edits l.i }
