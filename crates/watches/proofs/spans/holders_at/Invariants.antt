use Rattle.std.proofs.Common.{take}
use Rattle.watches.specs.Spans.{AreHeldAt}
use Rattle.watches.proofs.spans.holders_at.Given as goal

abbrev pub invariant-loop-cut : goal.invariant-loop-cut
invariant-loop-cut l = AreHeldAt l.intervals (take l.cut-index l.cuts) l.holders.items
