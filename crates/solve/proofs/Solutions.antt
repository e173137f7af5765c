-- The nodes that are solved, one after another.
use Rattle.std.proofs.Common.{◌≡◌, ◌∙◌, sym, ap, subst, List, [], ◌∷◌, ◌++◌, ◌+◌, append_assoc, append-nil, arith, Box, Global}
use Rattle.std.specs.List.{AllZip}
use Rattle.definitions.specs.Words.{Extent}
use Rattle.definitions.specs.Moves.{Parts}
use Rattle.definitions.specs.Rows.{RowValue, moves_of}
use Rattle.dyadic.specs.Nodes.{NodeValue}
use Rattle.tensor_product.specs.Sigs.{SigValue, StandsFor}
use Rattle.solve.specs.Plans.{node_of, plan_weight, missed, IsUnit, PlanStands}
use Rattle.solve.specs.Solutions.{SolvesPlan, IsSolved, AreSolved, IsAdded}
use Rattle.solve.specs.declared.plan.Plan.{Plan, Leaf}
use Rattle.solve.specs.declared.plan.Plan.TheViews.{Split}
use Rattle.solve.specs.declared.solution.SolvedNode.{SolvedNode}

AllZip-append : {A B : Type 0} (R : A → B → Type 0) (xs : List A) (ys : List B) (x : A) (y : B) → AllZip R xs ys → R x y → AllZip R (xs ++ x ∷ []) (ys ++ y ∷ [])
AllZip-append R [] [] x y all last = (last, tt)
AllZip-append R [] (z ∷ ys) x y all last = absurd all
AllZip-append R (w ∷ xs) [] x y all last = absurd all
AllZip-append R (w ∷ xs) (z ∷ ys) x y all last = (all.0, AllZip-append R xs ys x y all.1 last)

-- one plan more
pub AreSolved-push : (extent : Extent) (before : List Plan) (plan : Plan) (sig : SigValue) (old new : List SolvedNode) → AreSolved extent before old
    → SolvesPlan extent plan sig → IsAdded (node_of plan) sig old new → AreSolved extent (before ++ plan ∷ []) new
AreSolved-push extent before plan sig old new solved solves added =
    let last : IsSolved extent plan added.0 = record { node = added.1; sig = subst (SolvesPlan extent plan) (sym added.2) solves } in
    subst (AreSolved extent (before ++ plan ∷ [])) (sym added.3) (AllZip-append (IsSolved extent) before old plan added.0 solved last)

-- the signature of its rows solves a leaf
pub solves-leaf : (extent : Extent) (node : NodeValue) (rows : List RowValue) (sig : SigValue) → sig.tensor.extent ≡ extent → StandsFor sig (moves_of rows) → SolvesPlan extent (Leaf node rows) sig
solves-leaf extent node rows sig same stands = record {
  same_extent = same;
  weighs = stands.weighs;
  stands = λ moves is. subst (StandsFor sig) (sym is) stands;
}

-- the product of the signatures of its halves solves a split
pub solves-split : (extent : Extent) (node : NodeValue) (left right : Box Plan Global) (a b sig : SigValue) → SolvesPlan extent left.value a → SolvesPlan extent right.value b
    → sig.tensor.extent ≡ a.tensor.extent → sig.weight ≡ a.weight + b.weight
    → ((first second : List Parts) → StandsFor a first → StandsFor b second → StandsFor sig (first ++ second))
    → SolvesPlan extent (Split node left right) sig
solves-split extent node left right a b sig solves_left solves_right same weighs joined = record {
  same_extent = same ∙ solves_left.same_extent;
  weighs = weighs ∙ ap (λ n. n + b.weight) solves_left.weighs ∙ ap (λ n. plan_weight left.value + n) solves_right.weighs;
  stands = λ moves split. subst (StandsFor sig) (sym split.4) (joined split.0 split.1 (solves_left.stands split.0 split.2) (solves_right.stands split.1 split.3));
}

-- a split with a half without rows is solved by the other half
pub solves-right : (extent : Extent) (node : NodeValue) (left right : Box Plan Global) (sig : SigValue) → IsUnit left.value → SolvesPlan extent right.value sig → SolvesPlan extent (Split node left right) sig
solves-right extent node left right sig unit solves = record {
  same_extent = solves.same_extent;
  weighs = omega (arith, solves.weighs, ap plan_weight unit.1);
  stands = λ moves split.
      let none : split.0 ≡ [] = subst (λ (p : Plan). PlanStands p split.0) unit.1 split.2 in
      subst (StandsFor sig) (sym (split.4 ∙ ap (λ a. a ++ split.1) none)) (solves.stands split.1 split.3);
}

-- so does that of the left half where the right one has no rows
pub solves-left : (extent : Extent) (node : NodeValue) (left right : Box Plan Global) (sig : SigValue) → IsUnit right.value → SolvesPlan extent left.value sig → SolvesPlan extent (Split node left right) sig
solves-left extent node left right sig unit solves = record {
  same_extent = solves.same_extent;
  weighs = omega (arith, solves.weighs, ap plan_weight unit.1);
  stands = λ moves split.
      let none : split.1 ≡ [] = subst (λ (p : Plan). PlanStands p split.1) unit.1 split.3 in
      subst (StandsFor sig) (sym (split.4 ∙ ap (λ b. split.0 ++ b) none ∙ append-nil split.0)) (solves.stands split.0 split.2);
}

-- the nodes of the left half, those of the right half, and the split
pub missed-split : (before : List Plan) (node : NodeValue) (left right : Box Plan Global)
    → before ++ missed left.value ++ missed right.value ++ Split node left right ∷ [] ≡ before ++ missed (Split node left right)
missed-split before node left right =
    ap (λ plans. plans ++ Split node left right ∷ []) (append_assoc before (missed left.value) (missed right.value))
    ∙ append_assoc before (missed left.value ++ missed right.value) (Split node left right ∷ [])
