use Rattle.std.proofs.Common.{◌≡◌, ◌∙◌, ◌+◌, ◌<◌, ap, subst, sym, arith, refl, ℕ, List, Some}
use Rattle.std.specs.Arc.{arc_value}
use Rattle.std.proofs.lemmas.List.{nil_from_length}
use Rattle.std.proofs.lemmas.Result.{IfOk-weaker}
use Rattle.dyadic.specs.Nodes.{NodeValue, IsNode, left_of, right_of}
use Rattle.node_cache.specs.Entries.{sig_of}
use Rattle.tensor_product.specs.Sigs.{SigValue}
use Rattle.solve.specs.declared.plan.Plan.{Plan, Hit as HitPlan, Unit as UnitPlan, Leaf as LeafPlan}
use Rattle.solve.specs.declared.plan.Plan.TheViews.{Split as SplitPlan}
use Rattle.versions.specs.LogNodes.{LogNodeValue}
use Rattle.book.specs.Walks.{Visit, Pair, Split, count_at, visit_of, visits_of}
use Rattle.book.specs.Plans.{node_rows, HasSignature, IsPlanOf}
use Rattle.book.specs.Books.{AreKept, held}
use Rattle.book.proofs.VisitLaws.{visit-hit, visit-unit, visit-few, visit-tick, no_half, plan-leaf, plan-split, kept-at, not_kept-at, kept-signature, halved}
use Rattle.book.proofs.walk.+visit.Given.{Over}
use Rattle.book.proofs.walk.+visit.Goals as goal
use Rattle.book.proofs.walk.+visit.Goals.{In-Some-Some, in_default-2-via-in-Some+in_default, in_default-2-via-in_default}

pub returns-in-Some-clause-plan : goal.returns-in-Some-clause-plan
returns-in-Some-clause-plan g t c =
    let log = c.args.here.now.log in let entries = c.args.cache.now.entries in let v = c.args.here.now.version in let s = c.since.result in let node = c.args.here.now.node in
    let at : c.node-node.result ≡ node = c.node-node.ensures.value in
    let found : sig_of node s entries ≡ Some (arc_value c.in-Some.sig.now) = ap (λ (n : NodeValue). sig_of n s entries) (sym at) ∙ sym c.in-Some.ensures in
    let arc = c.in_ok-try_clone.field-0 in
    let signature : HasSignature log.extent log.edits v node (arc_value c.in-Some.sig.now) =
    kept-signature log entries v s node c.since.ensures (arc_value c.in-Some.sig.now) c.node-node.ensures.log c.requires c.node-node.ensures.within found in
    subst (λ (w : Visit). IsPlanOf log.extent log.edits v w (HitPlan c.node-node.result arc)) (sym (visit-hit log.edits v (held entries) node (kept-at log entries v s node c.since.ensures (arc_value c.in-Some.sig.now) found)))
    (at, subst (λ (sig : SigValue). HasSignature log.extent log.edits v node sig) (sym c.in_ok-try_clone.ensures) signature)

pub returns-in-Some-clause-ticks : goal.returns-in-Some-clause-ticks
returns-in-Some-clause-ticks g t c =
    let log = c.args.here.now.log in let entries = c.args.cache.now.entries in let v = c.args.here.now.version in let s = c.since.result in let node = c.args.here.now.node in
    let at : c.node-node.result ≡ node = c.node-node.ensures.value in
    let found : sig_of node s entries ≡ Some (arc_value c.in-Some.sig.now) = ap (λ (n : NodeValue). sig_of n s entries) (sym at) ∙ sym c.in-Some.ensures in
    let one : visits_of (visit_of log.edits v (held entries) node) ≡ 1 = ap visits_of (visit-hit log.edits v (held entries) node (kept-at log entries v s node c.since.ensures (arc_value c.in-Some.sig.now) found)) in
    c.tick.ensures ∙ ap (λ (n : ℕ). c.args.steps.now + n) (sym one)

pub returns-then-count-eq0-clause-plan : goal.returns-then-count-eq0-clause-plan
returns-then-count-eq0-clause-plan g t c =
    let log = c.args.here.now.log in let entries = c.args.cache.now.entries in let v = c.args.here.now.version in let s = c.since.result in let node = c.args.here.now.node in
    let at : c.node-node.result ≡ node = c.node-node.ensures.value in
    let other = not_kept-at log entries v s node c.since.ensures (ap (λ (n : NodeValue). sig_of n s entries) (sym at) ∙ sym c.in_default.ensures) in
    let nothing : count_at log.edits v node ≡ 0 = sym c.count-count.ensures ∙ c.if-count-eq0.true in
    subst (λ (w : Visit). IsPlanOf log.extent log.edits v w (UnitPlan c.node-node.result)) (sym (visit-unit log.edits v (held entries) node other nothing))
    (at, nil_from_length (node_rows log.edits v node) nothing)

pub returns-then-count-le-LEAF_ROWS-clause-plan : goal.returns-then-count-le-LEAF_ROWS-clause-plan
returns-then-count-le-LEAF_ROWS-clause-plan g t c =
    let log = c.args.here.now.log in let entries = c.args.cache.now.entries in let v = c.args.here.now.version in let s = c.since.result in let node = c.args.here.now.node in
    let at : c.node-node.result ≡ node = c.node-node.ensures.value in
    let other = not_kept-at log entries v s node c.since.ensures (ap (λ (n : NodeValue). sig_of n s entries) (sym at) ∙ sym c.in_default.ensures) in
    let is_node : IsNode node = subst IsNode at c.high.ensures.node in
    let is : IsPlanOf log.extent log.edits v (visit_of log.edits v (held entries) node) (LeafPlan node (node_rows log.edits v node)) =
    plan-leaf log.extent log.edits v (held entries) node (node_rows log.edits v node) is_node refl
    (visit-few log.edits v (held entries) node other (omega (arith, c.count-count.ensures, c.if-count-eq0.false)) (omega (arith, c.count-count.ensures, c.if-count-le-LEAF_ROWS.true))) in
    IfOk-weaker c.leaf.result (λ plan. plan ≡ LeafPlan node (node_rows log.edits v node)) (IsPlanOf log.extent log.edits v (visit_of log.edits v (held entries) node))
    (λ plan e. subst (IsPlanOf log.extent log.edits v (visit_of log.edits v (held entries) node)) (sym e) is) c.leaf.ensures

pub returns-in_default-2-clause-plan : goal.returns-in_default-2-clause-plan
returns-in_default-2-clause-plan g t c =
    let log = c.args.here.now.log in let entries = c.args.cache.now.entries in let v = c.args.here.now.version in let s = c.since.result in let node = c.args.here.now.node in
    let at : c.node-node.result ≡ node = c.node-node.ensures.value in
    let other = not_kept-at log entries v s node c.since.ensures (ap (λ (n : NodeValue). sig_of n s entries) (sym at) ∙ sym c.in_default.ensures) in
    let is_node : IsNode node = subst IsNode at c.high.ensures.node in
    let tick : node.height ≡ 0 =
    elim c.in_default-2.branch [
      | in_default-2-via-in-Some+in_default w ↦ no_half c.right.result node (record { log = log; version = v; node = right_of node }) c.right.ensures w.in_default-2.is-1
      | in_default-2-via-in_default w ↦ no_half c.left.result node (record { log = log; version = v; node = left_of node }) c.left.ensures w.in_default-2.is-0
    ] in
    let is : IsPlanOf log.extent log.edits v (visit_of log.edits v (held entries) node) (LeafPlan node (node_rows log.edits v node)) =
    plan-leaf log.extent log.edits v (held entries) node (node_rows log.edits v node) is_node refl
    (visit-tick log.edits v (held entries) node other (omega (arith, c.count-count.ensures, c.if-count-le-LEAF_ROWS.false)) tick) in
    IfOk-weaker c.leaf-in_default-2.result (λ plan. plan ≡ LeafPlan node (node_rows log.edits v node)) (IsPlanOf log.extent log.edits v (visit_of log.edits v (held entries) node))
    (λ plan e. subst (IsPlanOf log.extent log.edits v (visit_of log.edits v (held entries) node)) (sym e) is) c.leaf-in_default-2.ensures

pub visit-requires : goal.visit-requires
visit-requires g t c κs within =
    let is : c.in-Some-Some.left ≡ record { log = c.args.here.now.log; version = c.args.here.now.version; node = left_of c.args.here.now.node } = c.in-Some-Some.ensures.1 in
    let some : 0 < c.args.here.now.node.height = c.in-Some-Some.ensures.0 in
    let smaller : c.in-Some-Some.left.node.height < c.args.here.now.node.height = omega (arith, ap (λ (w : LogNodeValue). w.node.height) is, some) in
    (omega (arith, smaller, c.decreases), (within, (search, subst (λ (w : LogNodeValue). AreKept w.log c.args.cache.now.entries) (sym is) c.requires)))

pub visit-requires-2 : goal.visit-requires-2
visit-requires-2 g t c κs within =
    let is : c.in-Some-Some.right ≡ record { log = c.args.here.now.log; version = c.args.here.now.version; node = right_of c.args.here.now.node } = c.in-Some-Some.ensures'.1 in
    let some : 0 < c.args.here.now.node.height = c.in-Some-Some.ensures.0 in
    let smaller : c.in-Some-Some.right.node.height < c.args.here.now.node.height = omega (arith, ap (λ (w : LogNodeValue). w.node.height) is, some) in
    (omega (arith, smaller, c.decreases), (within, (search, subst (λ (w : LogNodeValue). AreKept w.log c.args.cache.now.entries) (sym is) c.requires)))

-- the visit of a node in a version of a log
abbrev visit_at : List Pair → LogNodeValue → Visit
visit_at pairs w = visit_of w.log.edits w.version pairs w.node

-- the visit where there are many rows
many-halved : (g : Over) (t : ℕ) (c : In-Some-Some g t)
    → visit_at (held c.args.cache.now.entries) c.args.here.now
    ≡ Split c.args.here.now.node (visit_of c.args.here.now.log.edits c.args.here.now.version (held c.args.cache.now.entries) (left_of c.args.here.now.node))
    (visit_of c.args.here.now.log.edits c.args.here.now.version (held c.args.cache.now.entries) (right_of c.args.here.now.node))
many-halved g t c =
    halved c.args.here.now.log c.args.cache.now.entries c.args.here.now.version c.since.result c.args.here.now.node c.since.ensures
    (ap (λ (n : NodeValue). sig_of n c.since.result c.args.cache.now.entries) (sym c.node-node.ensures.value) ∙ sym c.in_default.ensures)
    (omega (arith, c.count-count.ensures, c.if-count-le-LEAF_ROWS.false)) c.in-Some-Some.ensures.0

many : (g : Over) (t : ℕ) (c : In-Some-Some g t)
    → visit_at (held c.args.cache.now.entries) c.args.here.now
    ≡ Split c.args.here.now.node (visit_at (held c.args.cache.now.entries) c.in-Some-Some.left) (visit_at (held c.args.cache.now.entries) c.in-Some-Some.right)
many g t c =
    let pairs = held c.args.cache.now.entries in
    many-halved g t c
    ∙ ap (λ (w : LogNodeValue). Split c.args.here.now.node (visit_at pairs w) (visit_of c.args.here.now.log.edits c.args.here.now.version pairs (right_of c.args.here.now.node))) (sym c.in-Some-Some.ensures.1)
    ∙ ap (λ (w : LogNodeValue). Split c.args.here.now.node (visit_at pairs c.in-Some-Some.left) (visit_at pairs w)) (sym c.in-Some-Some.ensures'.1)

pub returns-in_err-first-clause-at_most : goal.returns-in_err-first-clause-at_most
returns-in_err-first-clause-at_most g t c =
    let visits = ap visits_of (many g t (goal.at.returns-in_err-first-clause-at_most g t c).In-Some-Some) in
    (omega (arith, c.tick.ensures, c.visit.ensures.at_most), omega (arith, c.tick.ensures, c.visit.ensures.at_most, visits))

pub returns-in_err-second-clause-at_most : goal.returns-in_err-second-clause-at_most
returns-in_err-second-clause-at_most g t c =
    let visits = ap visits_of (many g t (goal.at.returns-in_err-second-clause-at_most g t c).In-Some-Some) in
    (omega (arith, c.tick.ensures, c.in_ok-first.ensures.ticks, c.visit-2.ensures.at_most), omega (arith, c.tick.ensures, c.in_ok-first.ensures.ticks, c.visit-2.ensures.at_most, visits))

pub returns-in_err-new-clause-at_most : goal.returns-in_err-new-clause-at_most
returns-in_err-new-clause-at_most g t c =
    let visits = ap visits_of (many g t (goal.at.returns-in_err-new-clause-at_most g t c).In-Some-Some) in
    (omega (arith, c.tick.ensures, c.in_ok-first.ensures.ticks, c.in_ok-second.ensures.ticks), omega (arith, c.tick.ensures, c.in_ok-first.ensures.ticks, c.in_ok-second.ensures.ticks, visits))

pub returns-in_err-new-2-clause-at_most : goal.returns-in_err-new-2-clause-at_most
returns-in_err-new-2-clause-at_most g t c =
    let visits = ap visits_of (many g t (goal.at.returns-in_err-new-2-clause-at_most g t c).In-Some-Some) in
    (omega (arith, c.tick.ensures, c.in_ok-first.ensures.ticks, c.in_ok-second.ensures.ticks), omega (arith, c.tick.ensures, c.in_ok-first.ensures.ticks, c.in_ok-second.ensures.ticks, visits))

pub returns-clause-at_most : goal.returns-clause-at_most
returns-clause-at_most g t c =
    let visits = ap visits_of (many g t (goal.at.returns-clause-at_most g t c).In-Some-Some) in
    (omega (arith, c.tick.ensures, c.in_ok-first.ensures.ticks, c.in_ok-second.ensures.ticks), omega (arith, c.tick.ensures, c.in_ok-first.ensures.ticks, c.in_ok-second.ensures.ticks, visits))

pub returns-clause-plan : goal.returns-clause-plan
returns-clause-plan g t c =
    let log = c.args.here.now.log in let v = c.args.here.now.version in let node = c.args.here.now.node in let pairs = held c.args.cache.now.entries in
    let PlanOf : LogNodeValue → Plan → Type 0 = λ w plan. IsPlanOf w.log.extent w.log.edits w.version (visit_at pairs w) plan in
    let first : IsPlanOf log.extent log.edits v (visit_of log.edits v pairs (left_of node)) c.in_ok-new.field-0.value =
    subst (λ (w : LogNodeValue). PlanOf w c.in_ok-new.field-0.value) c.in-Some-Some.ensures.1 (subst (PlanOf c.in-Some-Some.left) (sym c.in_ok-new.ensures.ok) c.in_ok-first.ensures.plan) in
    let second : IsPlanOf log.extent log.edits v (visit_of log.edits v pairs (right_of node)) c.in_ok-new-2.field-0.value =
    subst (λ (w : LogNodeValue). PlanOf w c.in_ok-new-2.field-0.value) c.in-Some-Some.ensures'.1 (subst (PlanOf c.in-Some-Some.right) (sym c.in_ok-new-2.ensures.ok) c.in_ok-second.ensures.plan) in
    let at : c.node-node.result ≡ node = c.node-node.ensures.value in
    subst (λ (n : NodeValue). IsPlanOf log.extent log.edits v (visit_of log.edits v pairs node) (SplitPlan n c.in_ok-new.field-0 c.in_ok-new-2.field-0)) (sym at)
    (plan-split log.extent log.edits v pairs node (left_of node) (right_of node) c.in_ok-new.field-0 c.in_ok-new-2.field-0 (subst IsNode at c.high.ensures.node) (many-halved g t (goal.at.returns-clause-plan g t c).In-Some-Some) first second)

pub returns-clause-ticks : goal.returns-clause-ticks
returns-clause-ticks g t c =
    let visits = ap visits_of (many g t (goal.at.returns-clause-ticks g t c).In-Some-Some) in
    omega (arith, c.tick.ensures, c.in_ok-first.ensures.ticks, c.in_ok-second.ensures.ticks, visits)
