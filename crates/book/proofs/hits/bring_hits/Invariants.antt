use Rattle.std.proofs.Common.{◌≡◌, take}
use Rattle.book.specs.Books.{AreKept}
use Rattle.book.proofs.HitLaws.{AllBrought}
use Rattle.book.proofs.hits.bring_hits.Given as goal

abbrev pub invariant-loop-plan : goal.invariant-loop-plan
invariant-loop-plan l = record {
  pairs : AllBrought l.log.extent l.log.edits l.fn.version (take l.plan-index l.plans) l.initial.cache.entries l.cache.entries;
  kept : AreKept l.log l.cache.entries;
  capacity : l.cache.capacity ≡ l.initial.cache.capacity;
}
