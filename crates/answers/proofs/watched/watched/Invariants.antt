use Rattle.std.proofs.Common.{◌≡◌, take}
use Rattle.answers.proofs.watched.watched.Given as goal

abbrev pub invariant-loop-accepted : goal.invariant-loop-accepted
invariant-loop-accepted l = l.watches ≡ record { log = record { extent = l.fn.shape; edits = take l.accepted-index l.edits }; intervals = l.intervals }
