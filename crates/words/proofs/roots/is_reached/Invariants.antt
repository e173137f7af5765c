use Rattle.std.proofs.Common.{◌↔◌, ◌-◌, ◌≤◌, ◌^◌}
use Rattle.words.proofs.roots.is_reached.Given as goal

abbrev pub invariant-loop-at : goal.invariant-loop-at
invariant-loop-at l = (l.left ≤ l.r ^ (l.j - l._at)) ↔ (l.n ≤ l.r ^ l.j)
