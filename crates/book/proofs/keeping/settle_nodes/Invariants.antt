use Rattle.std.proofs.Common.{◌≤◌, take}
use Rattle.book.proofs.SettledLaws.{IsSettledTo}
use Rattle.book.proofs.keeping.settle_nodes.Given as goal

abbrev pub invariant-loop-s : goal.invariant-loop-s
invariant-loop-s l = record {
  settled : IsSettledTo l.log l.version l.initial.cache (take l.s-index l.solved) l.count l.cache;
  few : l.count ≤ l.s-index;
}
