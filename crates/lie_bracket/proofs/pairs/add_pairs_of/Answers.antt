use Rattle.std.proofs.Common.{ap, ◌∙◌}
use Rattle.definitions.specs.Hall.{hall_list}
use Rattle.lie_bracket.proofs.PairOrder.{pair-kept, pair-passed}
use Rattle.lie_bracket.proofs.pairs.add_pairs_of.Goals as goal
use Rattle.lie_bracket.proofs.pairs.add_pairs_of.Goals.{then-is_pair_of+in_ok-push, else-is_pair_of}

pub loop-before-preserved : goal.loop-before-preserved
loop-before-preserved c =
    elim c.if-is_pair_of.branch [
      | then-is_pair_of+in_ok-push w ↦
          pair-kept (hall_list c.args.hall.now.width c.args.hall.now.depth) c.args.sum c.args.a c.loop-before.before c.is_pair_of.result c.args.pairs.now.items c.loop-before.pairs.items c.if-is_pair_of.pairs.items c.is_pair_of.ensures
          w.if-is_pair_of.true c.loop-before.invariant (ap (λ v. v.items) w.pairs-is ∙ w.in_ok-push.ensures.items)
      | else-is_pair_of w ↦
          pair-passed (hall_list c.args.hall.now.width c.args.hall.now.depth) c.args.sum c.args.a c.loop-before.before c.is_pair_of.result c.args.pairs.now.items c.if-is_pair_of.pairs.items c.is_pair_of.ensures w.if-is_pair_of.false
          (ap (λ v. v.items) w.pairs-is ∙ c.loop-before.invariant)
    ]
