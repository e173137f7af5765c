use Rattle.std.proofs.Common.{◌≡◌, [], take}
use Rattle.answers.proofs.watched.watching.Given as goal

abbrev pub invariant-loop-interval : goal.invariant-loop-interval
invariant-loop-interval l = l.watches ≡ record { log = record { extent = l.fn.shape; edits = [] }; intervals = take l.interval-index l.intervals }
