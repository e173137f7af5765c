use Rattle.std.proofs.Common.{◌≡◌, ◌≤◌, arith, ap}
use Rattle.dyadic.specs.Nodes.{low_of, parent_of}
use Rattle.dyadic.proofs.Spans.{within-parent}
use Rattle.decompose.proofs.walk.longest_from.Goals as goal

pub loop-parent-preserved : goal.loop-parent-preserved
loop-parent-preserved c =
    let node = c.loop-parent.node in
    let is : c.in-Some.parent ≡ parent_of node = c.in-Some.ensures.1 in
    let low : low_of (parent_of node) ≤ low_of node = (within-parent node).after in
    record {
      is_node = c.low.ensures.node;
      begins = omega (arith, ap low_of is, low);
      ends = omega arith;
    }
