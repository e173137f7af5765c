use Rattle.std.proofs.Common.{◌≡◌, ◌∙◌, ℕ, ◌+◌, ◌<◌, ◌++◌, [], ◌∷◌, List, length, get_or, ap, sym, map, take}
use Rattle.std.proofs.lemmas.List.{map-append, take_more, flat_map_more}
use Rattle.solve.specs.Plans.{node_of, missed, all_missed}
use Rattle.solve.specs.declared.plan.Plan.{Plan}
use Rattle.book.proofs.missed.missed_nodes.Goals as goal

missed-more : (plans : List Plan) (i : ℕ) (plan : Plan) → i < length plans → plan ≡ get_or plans i plan → all_missed (take i plans) ++ missed plan ≡ all_missed (take (i + 1) plans)
missed-more plans i plan within at =
    flat_map_more missed [] (take i plans) plan ∙ ap (λ (p : Plan). all_missed (take i plans ++ p ∷ [])) at ∙ ap all_missed (sym (take_more plans i plan within))

pub loop-plan-preserved : goal.loop-plan-preserved
loop-plan-preserved c =
    let plans = c.args.plans.now in let i = c.loop-plan.plan-index in let plan = c.plan-item.result in
    c.in_ok-add_missed.ensures
    ∙ ap (λ nodes. nodes ++ map node_of (missed plan)) c.loop-plan.invariant
    ∙ sym (map-append node_of (all_missed (take i plans)) (missed plan))
    ∙ ap (map node_of) (missed-more plans i plan c.loop-plan-test.true c.plan-item.is)
