-- Signatures for plans.
use Rattle.std.specs.Prelude.{◌≡◌, ℕ, List, [], ◌∷◌, ◌++◌}
use Rattle.std.specs.List.{AllZip}
use Rattle.std.specs.Arc.{arc_value}
use Rattle.definitions.specs.Words.{Extent}
use Rattle.definitions.specs.Moves.{Parts}
use Rattle.tensor_product.specs.Sigs.{SigValue, StandsFor}
use Rattle.dyadic.specs.Nodes.{NodeValue}
use Rattle.solve.specs.Plans.{node_of, plan_weight, total_weight, PlanStands, PlansStand}
use Rattle.solve.specs.declared.plan.Plan.{Plan}
use Rattle.solve.specs.declared.solution.SolvedNode.{SolvedNode}

-- a signature of this shape and weight, which stands for what meets P
pub record Solves (extent : Extent) (weight : ℕ) (P : List Parts → Type 0) (sig : SigValue) : Type 0 where
  pub same_extent : sig.tensor.extent ≡ extent
  pub weighs : sig.weight ≡ weight
  pub stands : (moves : List Parts) → P moves → StandsFor sig moves

-- the signature of a plan
abbrev pub SolvesPlan : Extent → Plan → SigValue → Type 0
SolvesPlan extent plan sig = Solves extent (plan_weight plan) (PlanStands plan) sig

-- the signature of plans, one after another
abbrev pub SolvesPlans : Extent → List Plan → SigValue → Type 0
SolvesPlans extent plans sig = Solves extent (total_weight plans) (PlansStand plans) sig

-- the node of a plan, with its signature
pub record IsSolved (extent : Extent) (plan : Plan) (solved : SolvedNode) : Type 0 where
  pub node : solved.node ≡ node_of plan
  pub sig : SolvesPlan extent plan (arc_value solved.sig)

-- these plans are solved, in this order
abbrev pub AreSolved : Extent → List Plan → List SolvedNode → Type 0
AreSolved extent plans solved = AllZip (IsSolved extent) plans solved

-- one node more, with this signature
abbrev pub IsAdded : NodeValue → SigValue → List SolvedNode → List SolvedNode → Type 0
IsAdded node sig old new = (s : SolvedNode) × (s.node ≡ node) × (arc_value s.sig ≡ sig) × (new ≡ old ++ s ∷ [])
