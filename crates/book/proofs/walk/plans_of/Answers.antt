use Rattle.std.proofs.Common.{◌≡◌, ◌∙◌, ◌+◌, ap, subst, sym, arith, take, List}
use Rattle.std.specs.Prelude.{map, sum_by}
use Rattle.std.proofs.lemmas.List.{take_all}
use Rattle.solve.specs.declared.plan.Plan.{Plan}
use Rattle.versions.specs.LogNodes.{LogNodeValue}
use Rattle.book.specs.Walks.{Pair, Visit, visit_of, visits_of, pieces_of, walk}
use Rattle.book.specs.Plans.{IsPlanOf, ArePlansOf}
use Rattle.book.specs.Books.{held}
use Rattle.book.proofs.PieceLaws.{pieces-are}
use Rattle.book.proofs.WalkLaws.{plans-more, count-more, count-within}
use Rattle.book.proofs.walk.plans_of.Given.{Over}
use Rattle.book.proofs.walk.plans_of.Goals.{After-deref-node-items}
use Rattle.book.proofs.walk.plans_of.Goals as goal

-- the nodes are the pieces
nodes-are : (g : Over) (c : After-deref-node-items g) → c.deref-node-items.result.now ≡ pieces_of c.args.from c.args.to
nodes-are g c = c.deref-node-items.ensures.value ∙ pieces-are c.args.from c.args.to c.in_ok-nodes.nodes.items c.requires.forward c.requires.end c.in_ok-nodes.ensures.pieces

visits-are : (g : Over) (c : After-deref-node-items g)
    → map (visit_of c.args.log.now.edits c.args.version (held c.args.cache.now.entries)) c.deref-node-items.result.now
    ≡ walk c.args.log.now.edits c.args.version (held c.args.cache.now.entries) c.args.from c.args.to
visits-are g c = ap (map (visit_of c.args.log.now.edits c.args.version (held c.args.cache.now.entries))) (nodes-are g c)

-- the visit of a node in a version of a log
abbrev visit_at : List Pair → LogNodeValue → Visit
visit_at pairs w = visit_of w.log.edits w.version pairs w.node

pub loop-node-preserved : goal.loop-node-preserved
loop-node-preserved g c =
    let visit = visit_of c.args.log.now.edits c.args.version (held c.args.cache.now.entries) in
    let nodes = c.deref-node-items.result.now in let i = c.loop-node.node-index in let node = c.node-item.result in
    let visits : visits_of (visit_at (held c.args.cache.now.entries) c.node_at-here.result) ≡ visits_of (visit c.node-item.result) = ap (λ (w : LogNodeValue). visits_of (visit_at (held c.args.cache.now.entries) w)) c.node_at-here.ensures in
    let plan : IsPlanOf c.args.log.now.extent c.args.log.now.edits c.args.version (visit node) c.in_ok-visit.field-0 =
    subst (λ (w : LogNodeValue). IsPlanOf w.log.extent w.log.edits w.version (visit_at (held c.args.cache.now.entries) w) c.in_ok-visit.field-0) c.node_at-here.ensures c.in_ok-visit.ensures.plan in
    record {
      plans =
          subst (λ (plans : List Plan). ArePlansOf c.args.log.now.extent c.args.log.now.edits c.args.version (map visit (take (i + 1) nodes)) plans) (sym c.in_ok-push.ensures.items)
          (plans-more visit nodes i node c.loop-node-test.true c.node-item.is (IsPlanOf c.args.log.now.extent c.args.log.now.edits c.args.version) c.loop-node.plans.items c.in_ok-visit.field-0
          c.loop-node.invariant.plans plan);
      ticks = omega (arith, c.loop-node.invariant.ticks, c.in_ok-visit.ensures.ticks, visits, count-more visit nodes i node c.loop-node-test.true c.node-item.is);
    }

pub returns-in_err-visit-clause-at_most : goal.returns-in_err-visit-clause-at_most
returns-in_err-visit-clause-at_most g c =
    let visit = visit_of c.args.log.now.edits c.args.version (held c.args.cache.now.entries) in
    let visits : visits_of (visit_at (held c.args.cache.now.entries) c.node_at-here.result) ≡ visits_of (visit c.node-item.result) = ap (λ (w : LogNodeValue). visits_of (visit_at (held c.args.cache.now.entries) w)) c.node_at-here.ensures in
    let within = count-within visit c.deref-node-items.result.now c.loop-node.node-index c.node-item.result c.loop-node-test.true c.node-item.is in
    let all = ap (sum_by visits_of) (visits-are g (goal.at.returns-in_err-visit-clause-at_most g c).After-deref-node-items) in
    (omega (arith, c.loop-node.invariant.ticks, c.visit.ensures.at_most), omega (arith, c.loop-node.invariant.ticks, c.visit.ensures.at_most, visits, within, all))

pub returns-in_err-push-clause-at_most : goal.returns-in_err-push-clause-at_most
returns-in_err-push-clause-at_most g c =
    let visit = visit_of c.args.log.now.edits c.args.version (held c.args.cache.now.entries) in
    let visits : visits_of (visit_at (held c.args.cache.now.entries) c.node_at-here.result) ≡ visits_of (visit c.node-item.result) = ap (λ (w : LogNodeValue). visits_of (visit_at (held c.args.cache.now.entries) w)) c.node_at-here.ensures in
    let within = count-within visit c.deref-node-items.result.now c.loop-node.node-index c.node-item.result c.loop-node-test.true c.node-item.is in
    let all = ap (sum_by visits_of) (visits-are g (goal.at.returns-in_err-push-clause-at_most g c).After-deref-node-items) in
    (omega (arith, c.loop-node.invariant.ticks, c.in_ok-visit.ensures.ticks), omega (arith, c.loop-node.invariant.ticks, c.in_ok-visit.ensures.ticks, visits, within, all))

pub returns-clause-plans : goal.returns-clause-plans
returns-clause-plans g c =
    let visit = visit_of c.args.log.now.edits c.args.version (held c.args.cache.now.entries) in
    let nodes = c.deref-node-items.result.now in
    let all : take c.loop-node.node-index nodes ≡ nodes = take_all c.loop-node.node-index nodes (omega (arith, c.loop-node-test.false)) in
    subst (λ (visits : List Visit). ArePlansOf c.args.log.now.extent c.args.log.now.edits c.args.version visits c.loop-node.plans.items)
    (ap (map visit) all ∙ visits-are g (goal.at.returns-clause-plans g c).After-deref-node-items) c.loop-node.invariant.plans

pub returns-clause-ticks : goal.returns-clause-ticks
returns-clause-ticks g c =
    let visit = visit_of c.args.log.now.edits c.args.version (held c.args.cache.now.entries) in
    let nodes = c.deref-node-items.result.now in
    let all : take c.loop-node.node-index nodes ≡ nodes = take_all c.loop-node.node-index nodes (omega (arith, c.loop-node-test.false)) in
    c.loop-node.invariant.ticks
    ∙ ap (λ (visits : List Visit). c.args.steps.now + sum_by visits_of visits) (ap (map visit) all ∙ visits-are g (goal.at.returns-clause-ticks g c).After-deref-node-items)

pub returns-clause-at_most : goal.returns-clause-at_most
returns-clause-at_most g c =
    let visit = visit_of c.args.log.now.edits c.args.version (held c.args.cache.now.entries) in
    let nodes = c.deref-node-items.result.now in
    let all : take c.loop-node.node-index nodes ≡ nodes = take_all c.loop-node.node-index nodes (omega (arith, c.loop-node-test.false)) in
    let counts = ap (sum_by visits_of) (ap (map visit) all ∙ visits-are g (goal.at.returns-clause-at_most g c).After-deref-node-items) in
    (omega (arith, c.loop-node.invariant.ticks), omega (arith, c.loop-node.invariant.ticks, counts))
