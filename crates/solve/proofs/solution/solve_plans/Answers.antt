use Rattle.std.proofs.Common.{◌≡◌, ◌∙◌, ◌+◌, ◌^◌, ◌≤◌, arith, refl, ap, subst, sym, [], ◌++◌, take, append-nil}
use Rattle.std.specs.Arc.{arc_value}
use Rattle.definitions.specs.Words.{Extent}
use Rattle.definitions.specs.Signature.{limit}
use Rattle.tensor_product.specs.Sigs.{SigValue, StandsFor}
use Rattle.solve.specs.Plans.{plan_weight, exps_of, missed, all_missed, IsUnit}
use Rattle.solve.specs.Solutions.{AreSolved}
use Rattle.solve.proofs.PlanLists.{plan-fits, sum-fits, missed-more, count-more, count-within, solves-more, solves-same}
use Rattle.solve.proofs.solution.solve_plans.Goals as goal

pub solve_plan-requires-clause-fits : goal.solve_plan-requires-clause-fits
solve_plan-requires-clause-fits g c κs lives = plan-fits c.args.plans.now c.loop-plan.plan-index c.plan-item.result c.loop-plan-test.true c.plan-item.is c.args.hall.now.depth c.requires.fits

pub returns-in_err-next-clause-at_most : goal.returns-in_err-next-clause-at_most
returns-in_err-next-clause-at_most g c =
    let within = count-within c.args.plans.now c.loop-plan.plan-index c.plan-item.result c.loop-plan-test.true c.plan-item.is exps_of in
    (omega (arith, c.loop-plan.invariant.ticks, c.solve_plan.ensures.at_most), omega (arith, within, c.loop-plan.invariant.ticks, c.solve_plan.ensures.at_most))

pub multiply_by-requires-clause-fits : goal.multiply_by-requires-clause-fits
multiply_by-requires-clause-fits g c =
    let before = c.loop-plan.invariant.sig in
    let next : c.deref.result.now.weight ≡ plan_weight c.plan-item.result = ap (λ (s : SigValue). s.weight) c.deref.ensures ∙ c.in_ok-next.ensures.sig.weighs in
    let v = c.loop-plan.sig.weight + c.deref.result.now.weight in
    let depth : c.loop-plan.sig.tensor.extent.depth ≡ c.args.hall.now.depth = ap (λ (e : Extent). e.depth) before.same_extent in
    subst (λ n. v ^ n ≤ limit) (sym depth)
    (sum-fits c.args.plans.now c.loop-plan.plan-index c.plan-item.result c.loop-plan-test.true c.plan-item.is v c.args.hall.now.depth (omega (arith, before.weighs, next)) c.requires.fits)

pub loop-plan-preserved : goal.loop-plan-preserved
loop-plan-preserved g c =
    let plans = c.args.plans.now in let i = c.loop-plan.plan-index in let plan = c.plan-item.result in let here = c.loop-plan-test.true in let at = c.plan-item.is in
    let next : c.deref.result.now ≡ arc_value c.in_ok-next.next = c.deref.ensures in
    let joined = c.multiply_by.ensures in
    record {
      sig =
          solves-more plans i plan here at c.args.hall.now c.loop-plan.sig (arc_value c.in_ok-next.next) c.multiply_by.new.sig c.loop-plan.invariant.sig c.in_ok-next.ensures.sig joined.extent
          (joined.weight ∙ ap (λ (s : SigValue). c.loop-plan.sig.weight + s.weight) next)
          (λ a b first second. joined.stands a b first (subst (λ (s : SigValue). StandsFor s b) (sym next) second));
      nodes = subst (λ missed. AreSolved c.args.hall.now missed c.solve_plan.new.nodes.items) (missed-more plans i plan here at) (c.in_ok-next.ensures.nodes _ c.loop-plan.invariant.nodes);
      ticks = c.in_ok-next.ensures.ticks ∙ omega (arith, c.loop-plan.invariant.ticks, count-more plans i plan here at exps_of);
    }

pub loop-plan-preserved-then-is_unit : goal.loop-plan-preserved-then-is_unit
loop-plan-preserved-then-is_unit g c =
    let plans = c.args.plans.now in let i = c.loop-plan.plan-index in let plan = c.plan-item.result in let here = c.loop-plan-test.true in let at = c.plan-item.is in
    let unit : IsUnit plan = c.if-is_unit.ensures refl in
    let none : missed plan ≡ [] = ap missed unit.1 in
    record {
      sig = solves-same plans i plan here at c.args.hall.now c.loop-plan.sig unit c.loop-plan.invariant.sig;
      nodes = subst (λ missed. AreSolved c.args.hall.now missed c.loop-plan.nodes.items)
          (sym (append-nil (all_missed (take i plans))) ∙ ap (λ ps. all_missed (take i plans) ++ ps) (sym none) ∙ missed-more plans i plan here at) c.loop-plan.invariant.nodes;
      ticks = omega (arith, c.loop-plan.invariant.ticks, count-more plans i plan here at exps_of, ap exps_of unit.1);
    }
