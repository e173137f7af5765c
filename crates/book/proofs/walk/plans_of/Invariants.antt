use Rattle.std.proofs.Common.{◌≡◌, ◌+◌, take}
use Rattle.std.specs.Prelude.{map, sum_by}
use Rattle.book.specs.Walks.{visit_of, visits_of}
use Rattle.book.specs.Plans.{ArePlansOf}
use Rattle.book.specs.Books.{held}
use Rattle.book.proofs.walk.plans_of.Given as goal

abbrev pub invariant-loop-node : goal.invariant-loop-node
invariant-loop-node g l = record {
  plans : ArePlansOf l.fn.log.extent l.fn.log.edits l.fn.version (map (visit_of l.fn.log.edits l.fn.version (held l.fn.cache.entries)) (take l.node-index l.node-items)) l.plans.items;
  ticks : l.steps ≡ l.initial.steps + sum_by visits_of (map (visit_of l.fn.log.edits l.fn.version (held l.fn.cache.entries)) (take l.node-index l.node-items));
}
