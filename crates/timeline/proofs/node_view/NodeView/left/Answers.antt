use Rattle.std.proofs.Common.{sym, subst}
use Rattle.dyadic.specs.Nodes.{NodeValue, low_of, high_of, LiesWithin}
use Rattle.timeline.specs.Places.{NodeViewValue}
use Rattle.timeline.proofs.NodeViews.{left-inside}
use Rattle.timeline.proofs.node_view.NodeView.left.Goals as goal

pub within-requires : goal.within-requires
within-requires c =
    subst (λ (n : NodeViewValue). LiesWithin (low_of n.node) (high_of n.node) c.in_ok-half.half) c.self.view_is
    (subst (λ (half : NodeValue). LiesWithin (low_of c.self.inside.node) (high_of c.self.inside.node) half) (sym c.in_ok-half.ensures.1) (left-inside c.self.inside.node c.in_ok-half.ensures.0))
