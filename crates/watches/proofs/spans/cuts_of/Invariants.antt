use Rattle.std.proofs.Common.{take}
use Rattle.watches.specs.Spans.{HaveEnds}
use Rattle.watches.proofs.spans.cuts_of.Given as goal

abbrev pub invariant-loop-interval : goal.invariant-loop-interval
invariant-loop-interval l = HaveEnds (take l.interval-index l.intervals) l.cuts.items
