use Rattle.std.proofs.Common.{◌≡◌, map, take}
use Rattle.solve.specs.Plans.{node_of, all_missed}
use Rattle.book.proofs.missed.missed_nodes.Given as goal

abbrev pub invariant-loop-plan : goal.invariant-loop-plan
invariant-loop-plan l = l.nodes.items ≡ map node_of (all_missed (take l.plan-index l.plans))
