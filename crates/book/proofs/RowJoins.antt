-- The rows of intervals that adjoin: their moves and weights add up to those of the whole.
use Rattle.std.proofs.Common.{◌≡◌, ◌∙◌, ℕ, ◌+◌, ◌≤◌, ap, arith, List, [], ◌∷◌, ◌++◌}
use Rattle.std.proofs.lemmas.List.{map-append}
use Rattle.std.proofs.lemmas.List.Sums.{sum_by-append}
use Rattle.definitions.specs.Moves.{Parts, move_weight}
use Rattle.definitions.specs.Signature.{weight}
use Rattle.definitions.specs.Rows.{RowValue, rows_in, moves_of}
use Rattle.dyadic.specs.Nodes.{NodeValue, low_of, high_of}
use Rattle.dyadic.proofs.Spans.{low-lt-high}
use Rattle.decompose.specs.Pieces.{Adjoin}
use Rattle.increments.specs.Edits.{IsInOrder}
use Rattle.increments.proofs.Joins.{rows_in-join}

-- the moves of the rows in [a, b)
abbrev pub moves_in : ℕ → ℕ → List RowValue → List Parts
moves_in a b rows = moves_of (rows_in a b rows)

-- a node begins no later than it ends
pub forward : (node : NodeValue) → low_of node ≤ high_of node
forward node = omega (arith, low-lt-high node)

-- what adjoins from a to b goes forward
pub adjoin-forward : (a b : ℕ) (nodes : List NodeValue) → Adjoin a b nodes → a ≤ b
adjoin-forward a b [] h = omega (arith, h)
adjoin-forward a b (node ∷ nodes) h = omega (arith, h.0, forward node, adjoin-forward (high_of node) b nodes h.1)

module _ (a b c : ℕ) (rows : List RowValue) (order : IsInOrder rows) (ab : a ≤ b) (bc : b ≤ c) where
  -- the moves of [a, c) are those of [a, b) and then those of [b, c)
  pub moves-join : moves_in a c rows ≡ moves_in a b rows ++ moves_in b c rows
  moves-join = ap moves_of (rows_in-join a b c rows order ab bc) ∙ map-append (λ (r : RowValue). r.x) (rows_in a b rows) (rows_in b c rows)

  -- the weight of [a, c) is that of both parts
  pub weight-join : weight (moves_in a c rows) ≡ weight (moves_in a b rows) + weight (moves_in b c rows)
  weight-join = ap weight moves-join ∙ sum_by-append move_weight (moves_in a b rows) (moves_in b c rows)
