-- Plans for the signatures of nodes: when they are valid, what they weigh, and what they stand for.
use Rattle.std.specs.Prelude.{◌≡◌, ℕ, ◌+◌, ◌<◌, ⊤, IsTrue, All, List, [], ◌∷◌, ◌++◌, flat_map, sum_by, length}
use Rattle.std.specs.Arc.{arc_value}
use Rattle.definitions.specs.Words.{Extent}
use Rattle.definitions.specs.Moves.{Parts, IsMove}
use Rattle.definitions.specs.Rows.{RowValue, lies_in, moves_of}
use Rattle.definitions.specs.Signature.{weight}
use Rattle.dyadic.specs.Nodes.{NodeValue, low_of, high_of, left_of, right_of}
use Rattle.increments.specs.Edits.{IsInOrder}
use Rattle.tensor_product.specs.Sigs.{StandsFor}
use Rattle.solve.specs.declared.plan.Plan.{Plan, Hit, Unit, Leaf, Split'}

-- the node that a plan is for; p and q are the places in memory of the halves, which nothing here reads
abbrev pub node_of : Plan → NodeValue
node_of (Hit node sig) = node
node_of (Unit node) = node
node_of (Leaf node rows) = node
node_of (Split' node p left q right) = node

-- a row of a node's leaf
pub record IsRowOf (extent : Extent) (node : NodeValue) (row : RowValue) : Type 0 where
  pub within : IsTrue (lies_in (low_of node) (high_of node) row.tick)
  pub move : IsMove extent row.x

-- the rows of a leaf are in order, lie in its node, and have moves of the shape
pub record AreRowsOf (extent : Extent) (node : NodeValue) (rows : List RowValue) : Type 0 where
  pub order : IsInOrder rows
  pub each : All (IsRowOf extent node) rows

-- the two plans of a split are for the left and the right half of its node
pub record AreHalves (node left right : NodeValue) : Type 0 where
  pub halved : 0 < node.height
  pub is_left : left ≡ left_of node
  pub is_right : right ≡ right_of node

-- a hit is of the shape, a leaf has the rows of its node, and the plans of a split are valid and for its halves
abbrev pub IsValid : Extent → Plan → Type 0
IsValid extent (Hit node sig) = (arc_value sig).tensor.extent ≡ extent
IsValid extent (Unit node) = ⊤
IsValid extent (Leaf node rows) = AreRowsOf extent node rows
IsValid extent (Split' node p left q right) = AreHalves node (node_of left) (node_of right) × IsValid extent left × IsValid extent right

-- the weight of the hits and rows
abbrev pub plan_weight : Plan → ℕ
plan_weight (Hit node sig) = (arc_value sig).weight
plan_weight (Unit node) = 0
plan_weight (Leaf node rows) = weight (moves_of rows)
plan_weight (Split' node p left q right) = plan_weight left + plan_weight right

abbrev pub total_weight : List Plan → ℕ
total_weight plans = sum_by plan_weight plans

-- a plan stands for these moves: a hit for those of its signature, a leaf for those of its rows, a split for those of its left half and then those of its right half
abbrev pub PlanStands : Plan → List Parts → Type 0
PlanStands (Hit node sig) moves = StandsFor (arc_value sig) moves
PlanStands (Unit node) moves = moves ≡ []
PlanStands (Leaf node rows) moves = moves ≡ moves_of rows
PlanStands (Split' node p left q right) moves = (a : List Parts) × (b : List Parts) × PlanStands left a × PlanStands right b × (moves ≡ a ++ b)

-- the plans stand for these moves, one after another
abbrev pub PlansStand : List Plan → List Parts → Type 0
PlansStand [] moves = moves ≡ []
PlansStand (plan ∷ plans) moves = (a : List Parts) × (b : List Parts) × PlanStands plan a × PlansStand plans b × (moves ≡ a ++ b)

-- for a node without rows
abbrev pub IsUnit : Plan → Type 0
IsUnit plan = (node : NodeValue) × (plan ≡ Unit node)

-- how many nodes are kept
abbrev pub hits_of : Plan → ℕ
hits_of (Hit node sig) = 1
hits_of (Unit node) = 0
hits_of (Leaf node rows) = 0
hits_of (Split' node p left q right) = hits_of left + hits_of right

-- the plans for nodes whose signature isn't kept, the left half's first, then the right half's, then the split itself
abbrev pub missed : Plan → List Plan
missed (Hit node sig) = []
missed (Unit node) = []
missed (Leaf node rows) = Leaf node rows ∷ []
missed (Split' node p left q right) = missed left ++ missed right ++ Split' node p left q right ∷ []

abbrev pub all_missed : List Plan → List Plan
all_missed plans = flat_map missed plans

-- how many rows the leaves have
abbrev pub exps_of : Plan → ℕ
exps_of (Hit node sig) = 0
exps_of (Unit node) = 0
exps_of (Leaf node rows) = length rows
exps_of (Split' node p left q right) = exps_of left + exps_of right
