use Rattle.std.proofs.Common.{◌≡◌, ◌≤◌, ◌<◌, ◌/◌, ◌^◌, ◌-◌}
use Rattle.timeline.proofs.tree.parting.Given as goal

abbrev pub invariant-loop-half : goal.invariant-loop-half
invariant-loop-half l = record {
  from : l.height ≤ l.half;
  before : l.half < l.limit;
  apart : l.a / 2 ^ l.half ≡ l.b / 2 ^ l.half → ⊥;
}

abbrev pub decreases-loop-half : goal.decreases-loop-half
decreases-loop-half l = l.limit - l.half
