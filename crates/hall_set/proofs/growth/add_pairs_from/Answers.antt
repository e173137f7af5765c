use Rattle.std.proofs.Common.{ap, ◌∙◌}
use Rattle.hall_set.proofs.GrowthSteps.{pairs_from-take, pairs_from-pass}
use Rattle.hall_set.proofs.growth.add_pairs_from.Goals as goal
use Rattle.hall_set.proofs.growth.add_pairs_from.Goals.{then-degree-e+in_ok-add_pairs_with, else-degree-e}

pub loop-at-preserved : goal.loop-at-preserved
loop-at-preserved c =
    elim c.if-degree-e.branch [
      | then-degree-e+in_ok-add_pairs_with w ↦
          pairs_from-take c.args.hall.now c.args.n c.args.e c.loop-at.at c.degree.result c.args.pairs.now.items c.loop-at.pairs.items c.if-degree-e.pairs.items
          c.loop-at-test.true c.degree.ensures w.if-degree-e.true c.loop-at.invariant (ap (λ v. v.items) w.pairs-is ∙ w.in_ok-add_pairs_with.ensures)
      | else-degree-e w ↦
          pairs_from-pass c.args.hall.now c.args.n c.args.e c.loop-at.at c.degree.result c.args.pairs.now.items c.if-degree-e.pairs.items
          c.loop-at-test.true c.degree.ensures w.if-degree-e.false (ap (λ v. v.items) w.pairs-is ∙ c.loop-at.invariant)
    ]
