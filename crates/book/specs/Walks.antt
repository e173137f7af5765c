-- The walk of an interval's pieces at a version, over the pairs that are kept.
use Rattle.std.specs.Prelude.{ℕ, zero, suc, ◌+◌, ◌*◌, Bool, ◌&&◌, nat_eq, nat_le, if◌then◌else◌, List, [], ◌∷◌, ◌++◌, map, flat_map, length}
use Rattle.std.specs.List.{list_any}
use Rattle.definitions.specs.Rows.{rows_in}
use Rattle.dyadic.specs.Nodes.{NodeValue, low_of, high_of}
use Rattle.versions.specs.declared.log.Accepted.{Accepted}
use Rattle.versions.specs.Versions.{rows_at, since}

-- ---- pieces
-- where a node lies: in [a, b), outside of it, or across an end
pub data Place : Type 0 where
  Inside : Place
  Outside : Place
  Across : Place

-- the place of a node; one that ends at a or begins at b is outside
abbrev pub place_of : ℕ → ℕ → NodeValue → Place
place_of a b node =
    if nat_le a (low_of node) && nat_le (high_of node) b then Inside
    else if nat_le (high_of node) a then Outside
    else if nat_le b (low_of node) then Outside
    else Across

-- the maximal nodes in [a, b) among a node of this place and height and those inside it, from left to right
abbrev pub pieces_inside : ℕ → ℕ → Place → ℕ → ℕ → List NodeValue
pieces_inside a b Inside height index = record { index = index; height = height } ∷ []
pieces_inside a b Outside height index = []
pieces_inside a b Across zero index = []
pieces_inside a b Across (suc height) index =
    pieces_inside a b (place_of a b (record { index = 2 * index; height = height })) height (2 * index)
    ++ pieces_inside a b (place_of a b (record { index = 2 * index + 1; height = height })) height (2 * index + 1)

-- the maximal nodes in [a, b), from left to right
abbrev pub pieces_of : ℕ → ℕ → List NodeValue
pieces_of a b = pieces_inside a b (place_of a b (record { index = 0; height = 32 })) 32 0

-- ---- pairs
-- a node, and a version from which on it has the same rows
pub record Pair : Type 0 where
  pub node : NodeValue
  pub since : ℕ

-- both are of the same node and version
abbrev pub is_pair : Pair → Pair → Bool
is_pair p q = nat_eq p.node.index q.node.index && nat_eq p.node.height q.node.height && nat_eq p.since q.since

-- the pair is one of these
abbrev pub is_kept : Pair → List Pair → Bool
is_kept pair pairs = list_any (is_pair pair) pairs

-- the pair of a node at a version: it goes back to the last edit up to it that touches the node
abbrev pub pair_at : List Accepted → ℕ → NodeValue → Pair
pair_at edits v node = record { node = node; since = since (low_of node) (high_of node) edits v }

-- how many rows of the version lie in the node
abbrev pub count_at : List Accepted → ℕ → NodeValue → ℕ
count_at edits v node = length (rows_in (low_of node) (high_of node) (rows_at edits v))

-- ---- visits
-- what a walk finds at a node, and at the halves that it visits
pub data Visit : Type 0 where
  -- the node's pair is kept
  Hit : NodeValue → Visit
  -- it has no rows
  Unit : NodeValue → Visit
  -- it has few rows, this many, or is of one tick
  Leaf : NodeValue → ℕ → Visit
  -- its left half and its right half are visited
  Split : NodeValue → Visit → Visit → Visit

-- the most rows of a leaf, but where the node is of one tick
abbrev pub leaf_rows : ℕ
leaf_rows = 8

-- a node that isn't kept, with so many rows; where there are more than a leaf has, the visit is the last one
abbrev pub absent : NodeValue → ℕ → Visit → Visit
absent node zero many = Unit node
absent node (suc n) many = if nat_le (suc n) leaf_rows then Leaf node (suc n) else many

-- the visit of a node of this height at version v
abbrev pub visited : List Accepted → ℕ → List Pair → ℕ → ℕ → Visit
visited edits v pairs zero index =
    let node : NodeValue = record { index = index; height = 0 } in
    if is_kept (pair_at edits v node) pairs then Hit node
    else absent node (count_at edits v node) (Leaf node (count_at edits v node))
visited edits v pairs (suc height) index =
    let node : NodeValue = record { index = index; height = suc height } in
    if is_kept (pair_at edits v node) pairs then Hit node
    else absent node (count_at edits v node) (Split node (visited edits v pairs height (2 * index)) (visited edits v pairs height (2 * index + 1)))

-- the visit of a node at version v, with its halves where they are visited
abbrev pub visit_of : List Accepted → ℕ → List Pair → NodeValue → Visit
visit_of edits v pairs node = visited edits v pairs node.height node.index

-- the visits of the pieces of [a, b)
abbrev pub walk : List Accepted → ℕ → List Pair → ℕ → ℕ → List Visit
walk edits v pairs a b = map (visit_of edits v pairs) (pieces_of a b)

-- ---- what a walk gives
-- the nodes that are kept, in the order of the visits
abbrev pub hits_of : Visit → List NodeValue
hits_of (Hit node) = node ∷ []
hits_of (Unit node) = []
hits_of (Leaf node rows) = []
hits_of (Split node left right) = hits_of left ++ hits_of right

-- the nodes with rows that aren't kept: the left half's, the right half's, the node
abbrev pub misses_of : Visit → List NodeValue
misses_of (Hit node) = []
misses_of (Unit node) = []
misses_of (Leaf node rows) = node ∷ []
misses_of (Split node left right) = misses_of left ++ misses_of right ++ node ∷ []

-- how many rows the leaves have
abbrev pub exps_of : Visit → ℕ
exps_of (Hit node) = 0
exps_of (Unit node) = 0
exps_of (Leaf node rows) = rows
exps_of (Split node left right) = exps_of left + exps_of right

-- how many nodes are visited
abbrev pub visits_of : Visit → ℕ
visits_of (Hit node) = 1
visits_of (Unit node) = 1
visits_of (Leaf node rows) = 1
visits_of (Split node left right) = 1 + visits_of left + visits_of right

-- the hits of all visits, in their order
abbrev pub all_hits : List Visit → List NodeValue
all_hits visits = flat_map hits_of visits

-- the misses of all visits, in their order
abbrev pub all_misses : List Visit → List NodeValue
all_misses visits = flat_map misses_of visits
