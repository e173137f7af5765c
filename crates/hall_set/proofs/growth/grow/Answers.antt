use Rattle.std.proofs.Common.{◌≡◌, ◌≤◌, ◌-◌, ap, ◌∙◌, arith, length}
use Rattle.definitions.specs.Hall.{grown}
use Rattle.hall_set.proofs.GrowthSteps.{grown-short, grown-more}
use Rattle.hall_set.proofs.growth.grow.Goals as goal

pub pairs_of_degree-requires : goal.pairs_of_degree-requires
pairs_of_degree-requires c =
    let same : c.deref.result.now ≡ grown c.args.shape.width (c.loop-degree.degree - 1) = c.deref.ensures.value ∙ c.loop-degree.invariant in
    let short : length (grown c.args.shape.width (c.loop-degree.degree - 1)) ≤ 1024 = grown-short c.args.shape (c.loop-degree.degree - 1) c.depth-degree-end.ensures.shape (omega (arith, c.loop-degree-test.true, c.depth-degree-end.ensures.value)) in
    omega (arith, ap length same, short)

pub loop-degree-preserved : goal.loop-degree-preserved
loop-degree-preserved c =
    grown-more c.args.shape.width c.loop-degree.degree c.loop-degree.hall.items c.deref.result.now c.deref-in-loop-degree.result.now _ c.loop-degree.auto.degree c.loop-degree.invariant c.deref.ensures.value
    (c.deref-in-loop-degree.ensures.value ∙ c.in_ok-pairs.ensures) c.in_ok-extend_from_slice.ensures.items
