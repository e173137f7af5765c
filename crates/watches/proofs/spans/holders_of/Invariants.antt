use Rattle.std.proofs.Common.{take}
use Rattle.watches.specs.Spans.{AreHolders}
use Rattle.watches.proofs.spans.holders_of.Given as goal

abbrev pub invariant-loop-i : goal.invariant-loop-i
invariant-loop-i l = AreHolders (take l.i l.intervals) l.tick l.holders.items
