use Rattle.std.proofs.Common.{arith, ◌≡◌, ◌∙◌, ◌+◌, ap, ◌<◌, ◌≤◌, ◌^◌, List, [], ◌++◌, append-nil, refl, length, subst, sym}
use Rattle.std.specs.Arc.{arc_value}
use Rattle.std.proofs.lemmas.Result.{on_ok_weaker}
use Rattle.definitions.specs.Signature.{limit}
use Rattle.definitions.specs.Rows.{RowValue, moves_of}
use Rattle.tensor_product.specs.Sigs.{SigValue, StandsFor}
use Rattle.solve.specs.Plans.{missed, plan_weight, IsValid, IsUnit}
use Rattle.solve.specs.Solutions.{SolvesPlan, AreSolved}
use Rattle.solve.specs.declared.plan.Plan.{Plan, Leaf}
use Rattle.solve.specs.declared.plan.Plan.TheViews.{Split}
use Rattle.solve.proofs.Halves.{left-misses, right-misses, left-fits, right-fits}
use Rattle.solve.proofs.Solutions.{AreSolved-push, solves-leaf, solves-split, solves-left, solves-right, missed-split}
use Rattle.solve.proofs.solution.+solve_plan.Goals as goal

pub solve_plan-requires-in-Split : goal.solve_plan-requires-in-Split
solve_plan-requires-in-Split g t c κs within =
    let plan = c.args.plan.now in let left = c.in-Split.left in let right = c.in-Split.right in let node = c.in-Split.node in
    let fewer : length (missed c.deref-in-Split-2.result.now) < length (missed plan) = subst (λ (p : Plan). length (missed p) < length (missed plan)) (sym c.deref-in-Split-2.ensures) (left-misses plan node left right c.in-Split.is) in
    let fits : plan_weight c.deref-in-Split-2.result.now ^ c.args.hall.now.depth ≤ limit = subst (λ (p : Plan). plan_weight p ^ c.args.hall.now.depth ≤ limit) (sym c.deref-in-Split-2.ensures) (left-fits plan node left right c.in-Split.is c.args.hall.now.depth c.requires.fits) in
    let valid : IsValid c.args.hall.now c.deref-in-Split-2.result.now = subst (IsValid c.args.hall.now) (sym c.deref-in-Split-2.ensures) (subst (IsValid c.args.hall.now) c.in-Split.is c.requires.valid).1 in
    (omega arith, (within, (search, (valid, fits))))

pub solve_plan-requires-in-Split-2 : goal.solve_plan-requires-in-Split-2
solve_plan-requires-in-Split-2 g t c κs within =
    let plan = c.args.plan.now in let left = c.in-Split.left in let right = c.in-Split.right in let node = c.in-Split.node in
    let fewer : length (missed c.deref-in-Split-3.result.now) < length (missed plan) = subst (λ (p : Plan). length (missed p) < length (missed plan)) (sym c.deref-in-Split-3.ensures) (right-misses plan node left right c.in-Split.is) in
    let fits : plan_weight c.deref-in-Split-3.result.now ^ c.args.hall.now.depth ≤ limit = subst (λ (p : Plan). plan_weight p ^ c.args.hall.now.depth ≤ limit) (sym c.deref-in-Split-3.ensures) (right-fits plan node left right c.in-Split.is c.args.hall.now.depth c.requires.fits) in
    let valid : IsValid c.args.hall.now c.deref-in-Split-3.result.now = subst (IsValid c.args.hall.now) (sym c.deref-in-Split-3.ensures) (subst (IsValid c.args.hall.now) c.in-Split.is c.requires.valid).2 in
    (omega arith, (within, (search, (valid, fits))))

pub returns-in_ok-new-in-Leaf-clause-nodes : goal.returns-in_ok-new-in-Leaf-clause-nodes
returns-in_ok-new-in-Leaf-clause-nodes g t c =
    let shape = c.args.hall.now in let node = c.in-Leaf.node in let rows = c.in-Leaf.rows in let sig = c.in_ok-sig-in-Leaf.sig in
    let old = c.args.nodes.now.items in let new = c.add_solved.new.nodes.items in
    let solves : SolvesPlan shape (Leaf node rows) sig =
    solves-leaf shape node rows sig c.in_ok-sig-in-Leaf.ensures.extent (subst (λ (rs : List RowValue). StandsFor sig (moves_of rs)) c.list.ensures c.in_ok-sig-in-Leaf.ensures.stands) in
    on_ok_weaker c.add_solved.result
    (λ added before solved. subst (λ (p : Plan). AreSolved shape (before ++ missed p) new) (sym c.in-Leaf.is) (AreSolved-push shape before (Leaf node rows) (arc_value c.in_ok-new-in-Leaf.field-0) old new solved (subst (SolvesPlan shape (Leaf node rows)) (sym c.in_ok-new-in-Leaf.ensures.ok) solves) added))
    c.add_solved.ensures.nodes

pub returns-in_ok-new-in-Split-clause-nodes : goal.returns-in_ok-new-in-Split-clause-nodes
returns-in_ok-new-in-Split-clause-nodes g t c =
    let shape = c.args.hall.now in let node = c.in-Split.node in let left = c.in-Split.left in let right = c.in-Split.right in
    let sig = c.in_ok-sig-in-Split-3.sig in let first = arc_value c.in_ok-first-in-Split.first in let second = arc_value c.in_ok-second-in-Split.second in
    let first_solves : SolvesPlan shape left.value first = subst (λ (p : Plan). SolvesPlan shape p first) c.deref-in-Split-2.ensures c.in_ok-first-in-Split.ensures.sig in
    let second_solves : SolvesPlan shape right.value second = subst (λ (p : Plan). SolvesPlan shape p second) c.deref-in-Split-3.ensures c.in_ok-second-in-Split.ensures.sig in
    let first_is : c.deref-in-Split-4.result.now ≡ first = c.deref-in-Split-4.ensures in
    let second_is : c.deref-in-Split-5.result.now ≡ second = c.deref-in-Split-5.ensures in
    let joined = c.in_ok-sig-in-Split-3.ensures in
    let solves : SolvesPlan shape (Split node left right) sig =
    solves-split shape node left right first second sig first_solves second_solves
    (joined.extent ∙ ap (λ (s : SigValue). s.tensor.extent) first_is)
    (joined.weight ∙ ap (λ (s : SigValue). s.weight + c.deref-in-Split-5.result.now.weight) first_is ∙ ap (λ (s : SigValue). first.weight + s.weight) second_is)
    (λ a b stands_first stands_second. joined.stands a b (subst (λ (s : SigValue). StandsFor s a) (sym first_is) stands_first) (subst (λ (s : SigValue). StandsFor s b) (sym second_is) stands_second)) in
    let middle = c.solve_plan-in-Split.new.nodes.items in let old = c.solve_plan-in-Split-2.new.nodes.items in let new = c.add_solved-in-Split.new.nodes.items in
    on_ok_weaker c.add_solved-in-Split.result
    (λ added before solved.
    let halves : AreSolved shape (before ++ missed left.value ++ missed right.value) old =
    subst (λ (p : Plan). AreSolved shape (before ++ missed left.value ++ missed p) old) c.deref-in-Split-3.ensures
    (c.in_ok-second-in-Split.ensures.nodes (before ++ missed left.value)
    (subst (λ (p : Plan). AreSolved shape (before ++ missed p) middle) c.deref-in-Split-2.ensures (c.in_ok-first-in-Split.ensures.nodes before solved))) in
    subst (λ (p : Plan). AreSolved shape (before ++ missed p) new) (sym c.in-Split.is)
    (subst (λ plans. AreSolved shape plans new) (missed-split before node left right)
    (AreSolved-push shape (before ++ missed left.value ++ missed right.value) (Split node left right) (arc_value c.in_ok-new-in-Split.field-0) old new halves (subst (SolvesPlan shape (Split node left right)) (sym c.in_ok-new-in-Split.ensures.ok) solves) added)))
    c.add_solved-in-Split.ensures.nodes

pub returns-then-is_unit-clause-nodes : goal.returns-then-is_unit-clause-nodes
returns-then-is_unit-clause-nodes g t c =
    let shape = c.args.hall.now in let node = c.in-Split.node in let left = c.in-Split.left in let right = c.in-Split.right in
    let sig = arc_value c.in_ok-sig-in-Split.sig in
    let unit : IsUnit left.value = subst IsUnit c.deref.ensures (c.if-is_unit.ensures refl) in
    let none : missed left.value ≡ [] = ap missed unit.1 in
    let solves : SolvesPlan shape (Split node left right) sig = solves-right shape node left right sig unit (subst (λ (p : Plan). SolvesPlan shape p sig) c.deref-then-is_unit.ensures c.in_ok-sig-in-Split.ensures.sig) in
    let old = c.solve_plan.new.nodes.items in let new = c.add_solved-then-is_unit.new.nodes.items in
    on_ok_weaker c.add_solved-then-is_unit.result
    (λ added before solved.
    let halves : AreSolved shape (before ++ missed left.value ++ missed right.value) old =
    subst (λ ps. AreSolved shape (ps ++ missed right.value) old) (sym (ap (λ m. before ++ m) none ∙ append-nil before))
    (subst (λ (p : Plan). AreSolved shape (before ++ missed p) old) c.deref-then-is_unit.ensures (c.in_ok-sig-in-Split.ensures.nodes before solved)) in
    subst (λ (p : Plan). AreSolved shape (before ++ missed p) new) (sym c.in-Split.is)
    (subst (λ plans. AreSolved shape plans new) (missed-split before node left right)
    (AreSolved-push shape (before ++ missed left.value ++ missed right.value) (Split node left right) sig old new halves solves added)))
    c.add_solved-then-is_unit.ensures.nodes

pub returns-then-is_unit-2-clause-nodes : goal.returns-then-is_unit-2-clause-nodes
returns-then-is_unit-2-clause-nodes g t c =
    let shape = c.args.hall.now in let node = c.in-Split.node in let left = c.in-Split.left in let right = c.in-Split.right in
    let sig = arc_value c.in_ok-sig-in-Split-2.sig in
    let unit : IsUnit right.value = subst IsUnit c.deref-in-Split.ensures (c.if-is_unit-2.ensures refl) in
    let none : missed right.value ≡ [] = ap missed unit.1 in
    let solves : SolvesPlan shape (Split node left right) sig = solves-left shape node left right sig unit (subst (λ (p : Plan). SolvesPlan shape p sig) c.deref-then-is_unit-2.ensures c.in_ok-sig-in-Split-2.ensures.sig) in
    let old = c.solve_plan-then-is_unit-2.new.nodes.items in let new = c.add_solved-then-is_unit-2.new.nodes.items in
    on_ok_weaker c.add_solved-then-is_unit-2.result
    (λ added before solved.
    let halves : AreSolved shape (before ++ missed left.value ++ missed right.value) old =
    subst (λ ps. AreSolved shape ps old) (sym (ap (λ m. before ++ missed left.value ++ m) none ∙ append-nil (before ++ missed left.value)))
    (subst (λ (p : Plan). AreSolved shape (before ++ missed p) old) c.deref-then-is_unit-2.ensures (c.in_ok-sig-in-Split-2.ensures.nodes before solved)) in
    subst (λ (p : Plan). AreSolved shape (before ++ missed p) new) (sym c.in-Split.is)
    (subst (λ plans. AreSolved shape plans new) (missed-split before node left right)
    (AreSolved-push shape (before ++ missed left.value ++ missed right.value) (Split node left right) sig old new halves solves added)))
    c.add_solved-then-is_unit-2.ensures.nodes
