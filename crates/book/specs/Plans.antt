-- Plans for the nodes that a walk visits, and what they stand for.
use Rattle.std.specs.Prelude.{◌≡◌, ℕ, List, [], All, map, length}
use Rattle.std.specs.List.{AllZip}
use Rattle.std.specs.Arc.{arc_value}
use Rattle.definitions.specs.Words.{Extent}
use Rattle.definitions.specs.Rows.{RowValue, rows_in, moves_of}
use Rattle.definitions.specs.Signature.{weight}
use Rattle.dyadic.specs.Nodes.{NodeValue, IsNode, low_of, high_of}
use Rattle.tensor_product.specs.Sigs.{SigValue, StandsFor}
use Rattle.solve.specs.Plans.{node_of, plan_weight, PlanStands}
use Rattle.solve.specs.declared.plan.Plan.{Plan, Hit as HitPlan, Unit as UnitPlan, Leaf as LeafPlan, Split' as SplitPlan}
use Rattle.solve.specs.declared.solution.SolvedNode.{SolvedNode}
use Rattle.versions.specs.declared.log.Accepted.{Accepted}
use Rattle.versions.specs.Versions.{rows_at}
use Rattle.book.specs.Walks.{Visit, Hit, Unit, Leaf, Split}

-- the rows of a version in a node
abbrev pub node_rows : List Accepted → ℕ → NodeValue → List RowValue
node_rows edits v node = rows_in (low_of node) (high_of node) (rows_at edits v)

-- the signature of the rows of version v in the node, of this extent
pub record HasSignature (extent : Extent) (edits : List Accepted) (v : ℕ) (node : NodeValue) (sig : SigValue) : Type 0 where
  pub extent_is : sig.tensor.extent ≡ extent
  pub stands : StandsFor sig (moves_of (node_rows edits v node))

-- the plan follows the visit: a hit has the signature, a leaf the rows of its node at version v
abbrev pub IsPlanOf : Extent → List Accepted → ℕ → Visit → Plan → Type 0
IsPlanOf extent edits v (Hit at) (HitPlan node sig) = (node ≡ at) × HasSignature extent edits v at (arc_value sig)
IsPlanOf extent edits v (Unit at) (UnitPlan node) = (node ≡ at) × (node_rows edits v at ≡ [])
IsPlanOf extent edits v (Leaf at count) (LeafPlan node rows) = (node ≡ at) × IsNode at × (rows ≡ node_rows edits v at) × (count ≡ length rows)
IsPlanOf extent edits v (Split at first second) (SplitPlan node p left q right) = (node ≡ at) × IsNode at × IsPlanOf extent edits v first left × IsPlanOf extent edits v second right
IsPlanOf extent edits v _ _ = ⊥

-- each plan follows its visit, one after the other
abbrev pub ArePlansOf : Extent → List Accepted → ℕ → List Visit → List Plan → Type 0
ArePlansOf extent edits v visits plans = AllZip (IsPlanOf extent edits v) visits plans

-- the plan stands for the rows of version v in its node, and weighs what they do
pub record IsForRows (edits : List Accepted) (v : ℕ) (plan : Plan) : Type 0 where
  pub stands : PlanStands plan (moves_of (node_rows edits v (node_of plan)))
  pub weighs : plan_weight plan ≡ weight (moves_of (node_rows edits v (node_of plan)))

-- so do the plan and all plans inside it
abbrev pub AreForRows : List Accepted → ℕ → Plan → Type 0
AreForRows edits v (HitPlan node sig) = IsForRows edits v (HitPlan node sig)
AreForRows edits v (UnitPlan node) = IsForRows edits v (UnitPlan node)
AreForRows edits v (LeafPlan node rows) = IsForRows edits v (LeafPlan node rows)
AreForRows edits v (SplitPlan node p left q right) = IsForRows edits v (SplitPlan node p left q right) × AreForRows edits v left × AreForRows edits v right

-- what is settled: these nodes, each with the signature of its rows at version v
pub record IsSettlement (extent : Extent) (edits : List Accepted) (v : ℕ) (nodes : List NodeValue) (solved : List SolvedNode) : Type 0 where
  pub nodes_are : map (λ s. s.node) solved ≡ nodes
  pub signatures : All (λ s. HasSignature extent edits v s.node (arc_value s.sig)) solved
