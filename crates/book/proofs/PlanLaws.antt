-- Plans that follow a walk are valid, and stand for the rows of their nodes.
use Rattle.std.proofs.Common.{◌≡◌, ◌∙◌, ℕ, zero, suc, ◌+◌, ◌*◌, ◌-◌, ◌<◌, ◌≤◌, refl, sym, ap, ap₂, subst, arith, List, [], ◌∷◌, ◌++◌, Bool, true, false, cond}
use Rattle.std.specs.Prelude.{All, map, nat_le}
use Rattle.std.specs.Arc.{arc_value}
use Rattle.std.specs.List.{AllZip}
use Rattle.std.proofs.lemmas.List.Elements.{All-nil, All-cons, All-head, All-tail, All-append, All-push, All-filter, filter_passes}
use Rattle.std.proofs.lemmas.List.Kept.{AllPairs-filter}
use Rattle.std.proofs.lemmas.List.Sums.{sum_by-append, sum_by-cons}
use Rattle.definitions.specs.Words.{Extent}
use Rattle.definitions.specs.Moves.{Parts, IsMove, move_weight}
use Rattle.definitions.specs.Rows.{RowValue, lies_in, rows_in, moves_of}
use Rattle.definitions.specs.Signature.{weight}
use Rattle.dyadic.specs.Nodes.{NodeValue, low_of, high_of, left_of, right_of}
use Rattle.dyadic.proofs.Spans.{HalvesShare, halves-share}
use Rattle.decompose.specs.Pieces.{Adjoin}
use Rattle.increments.specs.Edits.{IsBefore, IsInOrder}
use Rattle.tensor_product.specs.Sigs.{StandsFor}
use Rattle.solve.specs.Plans.{node_of, AreRowsOf, IsValid, plan_weight, total_weight, PlanStands, PlansStand, missed, all_missed}
use Rattle.solve.specs.Solutions.{IsSolved, AreSolved}
use Rattle.solve.specs.declared.plan.Plan.{Plan, Hit as HitPlan, Unit as UnitPlan, Leaf as LeafPlan, Split' as SplitPlan}
use Rattle.solve.specs.declared.solution.SolvedNode.{SolvedNode}
use Rattle.versions.specs.declared.log.Accepted.{Accepted}
use Rattle.versions.specs.Versions.{rows_at}
use Rattle.book.specs.Walks.{Pair, pair_at, is_kept, count_at, Visit, Hit, Unit, Leaf, Split, absent, visited, visit_of, walk, pieces_of}
use Rattle.book.specs.Plans.{node_rows, HasSignature, IsPlanOf, ArePlansOf, IsForRows, AreForRows}
use Rattle.book.proofs.RowJoins.{moves_in, forward, adjoin-forward, moves-join, weight-join}
use Rattle.increments.proofs.Joins.{no-rows}

-- a plan for the rows of version v in this node
pub record IsFor (extent : Extent) (edits : List Accepted) (v : ℕ) (node : NodeValue) (plan : Plan) : Type 0 where
  -- its node
  pub node_is : node_of plan ≡ node
  -- it stands for the rows of its node, and all plans inside it for those of theirs
  pub rows : AreForRows edits v plan
  -- its hits are of the extent, its leaves have rows of their nodes, and its splits both halves
  pub valid : IsValid extent plan

-- of a plan and those inside it, the plan itself
pub own-rows : (edits : List Accepted) (v : ℕ) (plan : Plan) → AreForRows edits v plan → IsForRows edits v plan
own-rows edits v (HitPlan node sig) h = h
own-rows edits v (UnitPlan node) h = h
own-rows edits v (LeafPlan node rows) h = h
own-rows edits v (SplitPlan node p left q right) h = h.0

module _ (extent : Extent) (edits : List Accepted) (v : ℕ) where
  hit-for : (node : NodeValue) (plan : Plan) → IsPlanOf extent edits v (Hit node) plan → IsFor extent edits v node plan
  hit-for node (HitPlan at sig) is =
      let has : HasSignature extent edits v at (arc_value sig) = subst (λ (n : NodeValue). HasSignature extent edits v n (arc_value sig)) (sym is.0) is.1 in
      record { node_is = is.0; rows = record { stands = has.stands; weighs = has.stands.weighs }; valid = has.extent_is }
  hit-for node (UnitPlan at) is = absurd is
  hit-for node (LeafPlan at rows) is = absurd is
  hit-for node (SplitPlan at p left q right) is = absurd is

  unit-for : (node : NodeValue) (plan : Plan) → IsPlanOf extent edits v (Unit node) plan → IsFor extent edits v node plan
  unit-for node (UnitPlan at) is =
      let none : moves_of (node_rows edits v at) ≡ [] = ap (λ (n : NodeValue). moves_of (node_rows edits v n)) is.0 ∙ ap moves_of is.1 in
      record { node_is = is.0; rows = record { stands = none; weighs = sym (ap weight none) }; valid = tt }
  unit-for node (HitPlan at sig) is = absurd is
  unit-for node (LeafPlan at rows) is = absurd is
  unit-for node (SplitPlan at p left q right) is = absurd is

  -- the first half's rows, and then the second half's
  split-stands : IsInOrder (rows_at edits v) → (node : NodeValue) → 0 < node.height
      → moves_of (node_rows edits v node) ≡ moves_of (node_rows edits v (left_of node)) ++ moves_of (node_rows edits v (right_of node))
  split-stands order node halved =
      let rows = rows_at edits v in let left = left_of node in let right = right_of node in
      let share : HalvesShare node = halves-share node halved in
      let first : low_of left ≤ high_of left = forward left in
      let second : high_of left ≤ high_of right = omega (arith, share.meets, forward right) in
      ap₂ (λ (a b : ℕ). moves_in a b rows) (sym share.begins) (sym share.ends) ∙ moves-join (low_of left) (high_of left) (high_of right) rows order first second
      ∙ ap (λ (t : ℕ). moves_of (node_rows edits v left) ++ moves_in t (high_of right) rows) share.meets

  split-for : IsInOrder (rows_at edits v) → (node : NodeValue) (first second : Visit) → 0 < node.height
      → ((plan : Plan) → IsPlanOf extent edits v first plan → IsFor extent edits v (left_of node) plan)
      → ((plan : Plan) → IsPlanOf extent edits v second plan → IsFor extent edits v (right_of node) plan)
      → (plan : Plan) → IsPlanOf extent edits v (Split node first second) plan → IsFor extent edits v node plan
  split-for order node first second halved left-for right-for (SplitPlan at p left q right) is =
      let l : IsFor extent edits v (left_of node) left = left-for left is.2 in
      let r : IsFor extent edits v (right_of node) right = right-for right is.3 in
      let own_l : IsForRows edits v left = own-rows edits v left l.rows in
      let own_r : IsForRows edits v right = own-rows edits v right r.rows in
      let Moves : NodeValue → List Parts = λ n. moves_of (node_rows edits v n) in
      let whole : Moves at ≡ Moves (node_of left) ++ Moves (node_of right) =
      ap Moves is.0 ∙ split-stands order node halved ∙ ap₂ (λ (m n : NodeValue). Moves m ++ Moves n) (sym l.node_is) (sym r.node_is) in
      let weighs : weight (Moves at) ≡ weight (Moves (node_of left)) + weight (Moves (node_of right)) = ap weight whole ∙ sum_by-append move_weight (Moves (node_of left)) (Moves (node_of right)) in
      record {
        node_is = is.0;
        rows = (
          record { stands = (Moves (node_of left), Moves (node_of right), own_l.stands, own_r.stands, whole); weighs = omega (arith, weighs, own_l.weighs, own_r.weighs) },
          l.rows,
          r.rows,
        );
        valid = (
          record {
            halved = subst (λ (n : NodeValue). 0 < n.height) (sym is.0) halved;
            is_left = l.node_is ∙ ap left_of (sym is.0);
            is_right = r.node_is ∙ ap right_of (sym is.0);
          },
          l.valid,
          r.valid,
        );
      }
  split-for order node first second halved left-for right-for (HitPlan at sig) is = absurd is
  split-for order node first second halved left-for right-for (UnitPlan at) is = absurd is
  split-for order node first second halved left-for right-for (LeafPlan at rows) is = absurd is

  module _ (order : IsInOrder (rows_at edits v)) (moves : All (λ (row : RowValue). IsMove extent row.x) (rows_at edits v)) where
    rows-of : (node : NodeValue) → AreRowsOf extent node (node_rows edits v node)
    rows-of node =
        let inside : RowValue → Bool = λ row. lies_in (low_of node) (high_of node) row.tick in
        let rows = rows_at edits v in
        let are_moves : All (λ (row : RowValue). IsMove extent row.x) (node_rows edits v node) = All-filter inside (λ (row : RowValue). IsMove extent row.x) rows moves in
        let within : All (λ (row : RowValue). inside row ≡ true) (node_rows edits v node) = filter_passes inside rows in
        record {
          order = AllPairs-filter IsBefore inside rows order;
          each = λ k d here. record { within = within k d here; move = are_moves k d here };
        }

    leaf-for : (node : NodeValue) (count : ℕ) (plan : Plan) → IsPlanOf extent edits v (Leaf node count) plan → IsFor extent edits v node plan
    leaf-for node count (LeafPlan at rows) is =
        let are : rows ≡ node_rows edits v at = is.2 ∙ ap (node_rows edits v) (sym is.0) in
        record {
          node_is = is.0;
          rows = record { stands = ap moves_of (sym are); weighs = ap (λ (rs : List RowValue). weight (moves_of rs)) are };
          valid = subst (AreRowsOf extent at) (sym are) (rows-of at);
        }
    leaf-for node count (HitPlan at sig) is = absurd is
    leaf-for node count (UnitPlan at) is = absurd is
    leaf-for node count (SplitPlan at p left q right) is = absurd is

    few-for : (node : NodeValue) (few : Bool) (count : ℕ) (many : Visit) → ((plan : Plan) → IsPlanOf extent edits v many plan → IsFor extent edits v node plan)
        → (plan : Plan) → IsPlanOf extent edits v (cond few (Leaf node count) many) plan → IsFor extent edits v node plan
    few-for node true count many many-for plan is = leaf-for node count plan is
    few-for node false count many many-for plan is = many-for plan is

    node-for : (node : NodeValue) (kept : Bool) (count : ℕ) (many : Visit) → ((plan : Plan) → IsPlanOf extent edits v many plan → IsFor extent edits v node plan)
        → (plan : Plan) → IsPlanOf extent edits v (cond kept (Hit node) (absent node count many)) plan → IsFor extent edits v node plan
    node-for node true count many many-for plan is = hit-for node plan is
    node-for node false zero many many-for plan is = unit-for node plan is
    node-for node false (suc n) many many-for plan is = few-for node (nat_le (suc n) 8) (suc n) many many-for plan is

    -- a plan that follows the visit of a node is one for its rows
    pub visit-for : (pairs : List Pair) (height index : ℕ) (plan : Plan) → IsPlanOf extent edits v (visited edits v pairs height index) plan
        → IsFor extent edits v (record { index = index; height = height }) plan
    visit-for pairs zero index plan is =
        let node : NodeValue = record { index = index; height = 0 } in
        let count : ℕ = count_at edits v node in
        node-for node (is_kept (pair_at edits v node) pairs) count (Leaf node count) (leaf-for node count) plan is
    visit-for pairs (suc height) index plan is =
        let node : NodeValue = record { index = index; height = suc height } in
        let lower : height ≡ suc height - 1 = omega arith in
        let left-for : (p : Plan) → IsPlanOf extent edits v (visited edits v pairs height (2 * index)) p → IsFor extent edits v (left_of node) p =
        λ p of. subst (λ (n : ℕ). IsFor extent edits v (record { index = 2 * index; height = n }) p) lower (visit-for pairs height (2 * index) p of) in
        let right-for : (p : Plan) → IsPlanOf extent edits v (visited edits v pairs height (2 * index + 1)) p → IsFor extent edits v (right_of node) p =
        λ p of. subst (λ (n : ℕ). IsFor extent edits v (record { index = 2 * index + 1; height = n }) p) lower (visit-for pairs height (2 * index + 1) p of) in
        let first : Visit = visited edits v pairs height (2 * index) in let second : Visit = visited edits v pairs height (2 * index + 1) in
        node-for node (is_kept (pair_at edits v node) pairs) (count_at edits v node) (Split node first second) (split-for order node first second (omega arith) left-for right-for) plan is

    visits-for : (pairs : List Pair) (nodes : List NodeValue) (plans : List Plan) → ArePlansOf extent edits v (map (visit_of edits v pairs) nodes) plans → AllZip (IsFor extent edits v) nodes plans
    visits-for pairs [] [] are = tt
    visits-for pairs [] (plan ∷ plans) are = absurd are
    visits-for pairs (node ∷ nodes) [] are = absurd are
    visits-for pairs (node ∷ nodes) (plan ∷ plans) are = (visit-for pairs node.height node.index plan are.0, visits-for pairs nodes plans are.1)

-- ---- plans for nodes, one after another
module _ (extent : Extent) (edits : List Accepted) (v : ℕ) where
  nodes-each : (nodes : List NodeValue) (plans : List Plan) → AllZip (IsFor extent edits v) nodes plans → All (AreForRows edits v) plans
  nodes-each [] [] are = All-nil (AreForRows edits v)
  nodes-each [] (plan ∷ plans) are = absurd are
  nodes-each (node ∷ nodes) [] are = absurd are
  nodes-each (node ∷ nodes) (plan ∷ plans) are = All-cons (AreForRows edits v) plan plans are.0.rows (nodes-each nodes plans are.1)

  nodes-valid : (nodes : List NodeValue) (plans : List Plan) → AllZip (IsFor extent edits v) nodes plans → All (IsValid extent) plans
  nodes-valid [] [] are = All-nil (IsValid extent)
  nodes-valid [] (plan ∷ plans) are = absurd are
  nodes-valid (node ∷ nodes) [] are = absurd are
  nodes-valid (node ∷ nodes) (plan ∷ plans) are = All-cons (IsValid extent) plan plans are.0.valid (nodes-valid nodes plans are.1)

  module _ (order : IsInOrder (rows_at edits v)) where
    -- the moves of an interval are those of its first node and then those of the others
    first-moves : (b : ℕ) (node : NodeValue) (nodes : List NodeValue) → Adjoin (high_of node) b nodes
        → moves_in (low_of node) b (rows_at edits v) ≡ moves_of (node_rows edits v node) ++ moves_in (high_of node) b (rows_at edits v)
    first-moves b node nodes adjoin = moves-join (low_of node) (high_of node) b (rows_at edits v) order (forward node) (adjoin-forward (high_of node) b nodes adjoin)

    nodes-stand : (a b : ℕ) (nodes : List NodeValue) (plans : List Plan) → AllZip (IsFor extent edits v) nodes plans → Adjoin a b nodes
        → PlansStand plans (moves_in a b (rows_at edits v))
    nodes-stand a b [] [] are adjoin = ap (λ (t : ℕ). moves_in t b (rows_at edits v)) adjoin ∙ ap moves_of (no-rows b (rows_at edits v))
    nodes-stand a b [] (plan ∷ plans) are adjoin = absurd are
    nodes-stand a b (node ∷ nodes) [] are adjoin = absurd are
    nodes-stand a b (node ∷ nodes) (plan ∷ plans) are adjoin =
        let rows = rows_at edits v in
        let own : IsForRows edits v plan = own-rows edits v plan are.0.rows in
        let first : PlanStands plan (moves_of (node_rows edits v node)) = subst (λ (n : NodeValue). PlanStands plan (moves_of (node_rows edits v n))) are.0.node_is own.stands in (
          moves_of (node_rows edits v node),
          moves_in (high_of node) b rows,
          first,
          nodes-stand (high_of node) b nodes plans are.1 adjoin.1,
          ap (λ (t : ℕ). moves_in t b rows) (sym adjoin.0) ∙ first-moves b node nodes adjoin.1,
        )

    nodes-weigh : (a b : ℕ) (nodes : List NodeValue) (plans : List Plan) → AllZip (IsFor extent edits v) nodes plans → Adjoin a b nodes
        → total_weight plans ≡ weight (moves_in a b (rows_at edits v))
    nodes-weigh a b [] [] are adjoin = sym (ap weight (nodes-stand a b [] [] are adjoin))
    nodes-weigh a b [] (plan ∷ plans) are adjoin = absurd are
    nodes-weigh a b (node ∷ nodes) [] are adjoin = absurd are
    nodes-weigh a b (node ∷ nodes) (plan ∷ plans) are adjoin =
        let rows = rows_at edits v in
        let own : plan_weight plan ≡ weight (moves_of (node_rows edits v node)) =
        (own-rows edits v plan are.0.rows).weighs ∙ ap (λ (n : NodeValue). weight (moves_of (node_rows edits v n))) are.0.node_is in
        sum_by-cons plan_weight plan plans ∙ ap₂ (λ (x y : ℕ). x + y) own (nodes-weigh (high_of node) b nodes plans are.1 adjoin.1)
        ∙ sym (weight-join (low_of node) (high_of node) b rows order (forward node) (adjoin-forward (high_of node) b nodes adjoin.1))
        ∙ ap (λ (t : ℕ). weight (moves_in t b rows)) adjoin.0

-- ---- the plans of a walk
module _ (extent : Extent) (edits : List Accepted) (v : ℕ) (pairs : List Pair) (a b : ℕ) (plans : List Plan)
    (order : IsInOrder (rows_at edits v)) (moves : All (λ (row : RowValue). IsMove extent row.x) (rows_at edits v))
    (are : ArePlansOf extent edits v (walk edits v pairs a b) plans) where
  walk-for : AllZip (IsFor extent edits v) (pieces_of a b) plans
  walk-for = visits-for extent edits v order moves pairs (pieces_of a b) plans are

  -- each plan of the walk is one for the rows of its node
  pub plans-each : All (AreForRows edits v) plans
  plans-each = nodes-each extent edits v (pieces_of a b) plans walk-for

  -- each is valid
  pub plans-valid : All (IsValid extent) plans
  plans-valid = nodes-valid extent edits v (pieces_of a b) plans walk-for

  module _ (adjoin : Adjoin a b (pieces_of a b)) where
    -- together they stand for the rows in [a, b)
    pub plans-stand : PlansStand plans (moves_of (rows_in a b (rows_at edits v)))
    plans-stand = nodes-stand extent edits v order a b (pieces_of a b) plans walk-for adjoin

    -- and weigh what these do
    pub plans-weigh : total_weight plans ≡ weight (moves_of (rows_in a b (rows_at edits v)))
    plans-weigh = nodes-weigh extent edits v order a b (pieces_of a b) plans walk-for adjoin

-- ---- solved plans
module _ (edits : List Accepted) (v : ℕ) where
  missed-for : (plan : Plan) → AreForRows edits v plan → All (IsForRows edits v) (missed plan)
  missed-for (HitPlan node sig) are = All-nil (IsForRows edits v)
  missed-for (UnitPlan node) are = All-nil (IsForRows edits v)
  missed-for (LeafPlan node rows) are = All-cons (IsForRows edits v) (LeafPlan node rows) [] are (All-nil (IsForRows edits v))
  missed-for (SplitPlan node p left q right) are =
      All-push (IsForRows edits v) (missed left ++ missed right) (SplitPlan node p left q right)
      (All-append (IsForRows edits v) (missed left) (missed right) (missed-for left are.1) (missed-for right are.2)) are.0

  all_missed-for : (plans : List Plan) → All (AreForRows edits v) plans → All (IsForRows edits v) (all_missed plans)
  all_missed-for [] are = All-nil (IsForRows edits v)
  all_missed-for (plan ∷ plans) are =
      All-append (IsForRows edits v) (missed plan) (all_missed plans) (missed-for plan (All-head (AreForRows edits v) plan plans are))
      (all_missed-for plans (All-tail (AreForRows edits v) plan plans are))

  module _ (extent : Extent) where
    -- the signature of a node, that of its rows
    abbrev IsSettled : SolvedNode → Type 0
    IsSettled s = HasSignature extent edits v s.node (arc_value s.sig)

    settled : (plan : Plan) (s : SolvedNode) → IsForRows edits v plan → IsSolved extent plan s → IsSettled s
    settled plan s own is = record {
      extent_is = is.sig.same_extent;
      stands = subst (λ (n : NodeValue). StandsFor (arc_value s.sig) (moves_of (node_rows edits v n))) (sym is.node) (is.sig.stands (moves_of (node_rows edits v (node_of plan))) own.stands);
    }

    each-settled : (plans : List Plan) (solved : List SolvedNode) → All (IsForRows edits v) plans → AreSolved extent plans solved
        → All IsSettled solved × (map (λ s. s.node) solved ≡ map node_of plans)
    each-settled [] [] own are = (All-nil IsSettled, refl)
    each-settled [] (s ∷ solved) own are = absurd are
    each-settled (plan ∷ plans) [] own are = absurd are
    each-settled (plan ∷ plans) (s ∷ solved) own are =
        let rest = each-settled plans solved (All-tail (IsForRows edits v) plan plans own) are.1 in (
          All-cons IsSettled s solved (settled plan s (All-head (IsForRows edits v) plan plans own) are.0) rest.0,
          ap₂ (λ (n : NodeValue) (ns : List NodeValue). n ∷ ns) are.0.node rest.1,
        )

-- the nodes that plans miss, once they are solved, have the signatures of their rows
pub settled-by : (extent : Extent) (edits : List Accepted) (v : ℕ) (plans : List Plan) (solved : List SolvedNode) → All (AreForRows edits v) plans → AreSolved extent (all_missed plans) solved
    → All (λ s. HasSignature extent edits v s.node (arc_value s.sig)) solved × (map (λ s. s.node) solved ≡ map node_of (all_missed plans))
settled-by extent edits v plans solved are is = each-settled edits v extent (all_missed plans) solved (all_missed-for edits v plans are) is
