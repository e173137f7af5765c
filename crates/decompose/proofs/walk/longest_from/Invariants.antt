use Rattle.std.proofs.Common.{◌≡◌, ◌-◌, ◌≤◌}
use Rattle.dyadic.specs.Nodes.{IsNode, low_of, high_of}
use Rattle.decompose.proofs.walk.longest_from.Given as goal

abbrev pub invariant-loop-parent : goal.invariant-loop-parent
invariant-loop-parent l =
    record {
      is_node : IsNode l.node;
      begins : low_of l.node ≡ l.at;
      ends : high_of l.node ≤ l.end;
    }

abbrev pub decreases-loop-parent : goal.decreases-loop-parent
decreases-loop-parent l = 32 - l.node.height
