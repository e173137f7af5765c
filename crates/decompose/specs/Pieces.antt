-- The pieces of an interval: the maximal nodes inside it, from left to right.
use Rattle.std.specs.Prelude.{◌≡◌, ℕ, ◌<◌, ◌↔◌, List, [], ◌∷◌, Contains, AllPairs}
use Rattle.dyadic.specs.Nodes.{NodeValue, IsNode, LiesWithin, low_of, high_of, parent_of}

-- a maximal node inside [a, b): its span lies in [a, b), and its parent's doesn't, or it has none
pub record IsPiece (a b : ℕ) (node : NodeValue) : Type 0 where
  pub is_node : IsNode node
  pub within : LiesWithin a b node
  pub maximal : node.height < 32 → ¬ LiesWithin a b (parent_of node)

-- all maximal nodes inside [a, b), by rising low
pub record IsPieces (a b : ℕ) (nodes : List NodeValue) : Type 0 where
  pub ordered : AllPairs (λ v w. low_of v < low_of w) nodes
  pub members : (node : NodeValue) → Contains nodes node ↔ IsPiece a b node

-- the first span begins at a, each other one where the one before it ends, and the last one ends at b
abbrev pub Adjoin : ℕ → ℕ → List NodeValue → Type 0
Adjoin a b [] = a ≡ b
Adjoin a b (node ∷ nodes) = (low_of node ≡ a) × Adjoin (high_of node) b nodes
