-- A walk has few hits, misses and rows of leaves, so that the counts fit.
use Rattle.std.proofs.Common.{◌≡◌, ◌∙◌, ℕ, zero, suc, ◌+◌, ◌-◌, ◌*◌, ◌^◌, ◌<◌, ◌≤◌, refl, sym, ap, arith, true, false, cond, not, List, [], ◌∷◌, ◌++◌, length, map, length-append}
use Rattle.std.specs.Prelude.{sum_by, nat_le}
use Rattle.std.proofs.lemmas.List.{map-append}
use Rattle.std.proofs.lemmas.List.Sums.{sum_by-append}
use Rattle.std.proofs.lemmas.List.Filters.{length-filter_both}
use Rattle.std.proofs.lemmas.List.Concat.{length-flat_map}
use Rattle.std.proofs.lemmas.Nat.{pow_pos}
use Rattle.std.proofs.Math.Nat.{pow-suc}
use Rattle.definitions.specs.Rows.{RowValue, lies_in, rows_in}
use Rattle.dyadic.specs.Nodes.{NodeValue, low_of, high_of}
use Rattle.dyadic.proofs.Spans.{halves-share, low-lt-high}
use Rattle.increments.specs.Edits.{IsInOrder}
use Rattle.increments.proofs.Joins.{rows_in-join}
use Rattle.versions.specs.declared.log.Accepted.{Accepted}
use Rattle.versions.specs.Versions.{rows_at}
use Rattle.book.specs.Walks.{Pair, pair_at, is_kept, count_at, Visit, Hit, Unit, Leaf, Split, absent, visited, visit_of, Place, Inside, Outside, Across, place_of, pieces_inside, walk, hits_of, misses_of, exps_of, all_hits, all_misses}

abbrev node_at : ℕ → ℕ → NodeValue
node_at height index = record { index = index; height = height }

-- the sum of a count over the visits of these nodes
abbrev total : List Accepted → ℕ → List Pair → (Visit → ℕ) → List NodeValue → ℕ
total edits v pairs count nodes = sum_by count (map (visit_of edits v pairs) nodes)

-- a count of visits that each node bounds, as its halves do
record IsBounded (edits : List Accepted) (v : ℕ) (count : Visit → ℕ) (bound : NodeValue → ℕ) : Type 0 where
  hit : (node : NodeValue) → count (Hit node) ≤ bound node
  unit : (node : NodeValue) → count (Unit node) ≤ bound node
  leaf : (node : NodeValue) → count (Leaf node (count_at edits v node)) ≤ bound node
  split : (height index : ℕ) (left right : Visit) → count left ≤ bound (node_at height (2 * index)) → count right ≤ bound (node_at height (2 * index + 1))
      → count (Split (node_at (suc height) index) left right) ≤ bound (node_at (suc height) index)
  halves : (height index : ℕ) → bound (node_at height (2 * index)) + bound (node_at height (2 * index + 1)) ≤ bound (node_at (suc height) index)

module _ (edits : List Accepted) (v : ℕ) (pairs : List Pair) (count : Visit → ℕ) (bound : NodeValue → ℕ) (is : IsBounded edits v count bound) where
  absent-bounded : (node : NodeValue) (n most : ℕ) (many : Visit) → count (Unit node) ≤ most → count (Leaf node n) ≤ most → count many ≤ most → count (absent node n many) ≤ most
  absent-bounded node zero most many unit leaf large = unit
  absent-bounded node (suc n) most many unit leaf large =
      elim (nat_le (suc n) 8) as (λ t. count (cond t (Leaf node (suc n)) many) ≤ most) [ true ↦ leaf | false ↦ large ]

  node-bounded : (node : NodeValue) (many : Visit) → count many ≤ bound node
      → count (cond (is_kept (pair_at edits v node) pairs) (Hit node) (absent node (count_at edits v node) many)) ≤ bound node
  node-bounded node many large =
      elim (is_kept (pair_at edits v node) pairs) as (λ t. count (cond t (Hit node) (absent node (count_at edits v node) many)) ≤ bound node) [
        | true ↦ is.hit node
        | false ↦ absent-bounded node (count_at edits v node) (bound node) many (is.unit node) (is.leaf node) large
      ]

  visited-bounded : (height index : ℕ) → count (visited edits v pairs height index) ≤ bound (node_at height index)
  visited-bounded zero index = node-bounded (node_at 0 index) (Leaf (node_at 0 index) (count_at edits v (node_at 0 index))) (is.leaf (node_at 0 index))
  visited-bounded (suc height) index =
      let left : Visit = visited edits v pairs height (2 * index) in let right : Visit = visited edits v pairs height (2 * index + 1) in
      node-bounded (node_at (suc height) index) (Split (node_at (suc height) index) left right)
      (is.split height index left right (visited-bounded height (2 * index)) (visited-bounded height (2 * index + 1)))

  total-append : (nodes more : List NodeValue) → total edits v pairs count (nodes ++ more) ≡ total edits v pairs count nodes + total edits v pairs count more
  total-append nodes more =
      ap (sum_by count) (map-append (visit_of edits v pairs) nodes more)
      ∙ sum_by-append count (map (visit_of edits v pairs) nodes) (map (visit_of edits v pairs) more)

  pieces-bounded : (a b : ℕ) (place : Place) (height index : ℕ) → total edits v pairs count (pieces_inside a b place height index) ≤ bound (node_at height index)
  pieces-bounded a b Inside height index = omega (arith, visited-bounded height index)
  pieces-bounded a b Outside height index = omega arith
  pieces-bounded a b Across zero index = omega arith
  pieces-bounded a b Across (suc height) index =
      let left : NodeValue = node_at height (2 * index) in let right : NodeValue = node_at height (2 * index + 1) in
      omega (
        arith,
        total-append (pieces_inside a b (place_of a b left) height (2 * index)) (pieces_inside a b (place_of a b right) height (2 * index + 1)),
        pieces-bounded a b (place_of a b left) height (2 * index),
        pieces-bounded a b (place_of a b right) height (2 * index + 1),
        is.halves height index,
      )

  walk-bounded : (a b : ℕ) → sum_by count (walk edits v pairs a b) ≤ bound (node_at 32 0)
  walk-bounded a b = pieces-bounded a b (place_of a b (node_at 32 0)) 32 0

-- ---- hits and misses
-- how many nodes there are in a node, itself included
abbrev nodes_of : NodeValue → ℕ
nodes_of node = 2 ^ (node.height + 1) - 1

-- a node has twice as many ticks as a half
double : (height : ℕ) → 2 ^ (height + 1) ≡ 2 ^ height * 2
double height = ap (λ (h : ℕ). 2 ^ h) (omega arith) ∙ pow-suc 2 height

some-nodes : (node : NodeValue) → 1 ≤ nodes_of node
some-nodes node = omega (arith, double node.height, pow_pos node.height)

split-nodes : (height index : ℕ) → nodes_of (node_at height (2 * index)) + nodes_of (node_at height (2 * index + 1)) + 1 ≤ nodes_of (node_at (suc height) index)
split-nodes height index =
    let twice : 2 ^ (suc height + 1) ≡ 2 ^ (height + 1) * 2 = ap (λ (h : ℕ). 2 ^ h) (omega arith) ∙ pow-suc 2 (height + 1) in
    omega (arith, twice, pow_pos (height + 1))

module _ (edits : List Accepted) (v : ℕ) where
  hits-bounded : IsBounded edits v (λ visit. length (hits_of visit)) nodes_of
  hits-bounded = record {
    hit = some-nodes;
    unit = λ node. omega arith;
    leaf = λ node. omega arith;
    split = λ height index left right one two. omega (arith, split-nodes height index, length-append (hits_of left) (hits_of right));
    halves = λ height index. omega (arith, split-nodes height index);
  }

  misses-bounded : IsBounded edits v (λ visit. length (misses_of visit)) nodes_of
  misses-bounded = record {
    hit = λ node. omega arith;
    unit = λ node. omega arith;
    leaf = some-nodes;
    split = λ height index left right one two.
        let node : NodeValue = node_at (suc height) index in
        omega (arith, split-nodes height index, length-append (misses_of left ++ misses_of right) (node ∷ []), length-append (misses_of left) (misses_of right));
    halves = λ height index. omega (arith, split-nodes height index);
  }

  module _ (pairs : List Pair) (a b : ℕ) where
    -- the count of the hits fits 64 bits: pieces and halves are no more than the nodes of their ticks
    pub few-hits : length (all_hits (walk edits v pairs a b)) < 2 ^ 64
    few-hits =
        omega (
          arith,
          length-flat_map hits_of (walk edits v pairs a b),
          walk-bounded edits v pairs (λ visit. length (hits_of visit)) nodes_of hits-bounded a b,
        )

    -- so does the count of the misses
    pub few-misses : length (all_misses (walk edits v pairs a b)) < 2 ^ 64
    few-misses =
        omega (
          arith,
          length-flat_map misses_of (walk edits v pairs a b),
          walk-bounded edits v pairs (λ visit. length (misses_of visit)) nodes_of misses-bounded a b,
        )

-- ---- rows of leaves
module _ (edits : List Accepted) (v : ℕ) (order : IsInOrder (rows_at edits v)) where
  -- the rows of a node are those of its halves
  halves-count : (height index : ℕ) → count_at edits v (node_at height (2 * index)) + count_at edits v (node_at height (2 * index + 1)) ≡ count_at edits v (node_at (suc height) index)
  halves-count height index =
      let node : NodeValue = node_at (suc height) index in let left : NodeValue = node_at height (2 * index) in let right : NodeValue = node_at height (2 * index + 1) in
      let share = halves-share node (omega arith) in
      let half : suc height - 1 ≡ height = omega arith in
      let begins : low_of left ≡ low_of node = ap (λ (h : ℕ). 2 * index * 2 ^ h) (sym half) ∙ share.begins in
      let meets : high_of left ≡ low_of right = omega arith in
      let ends : high_of right ≡ high_of node = ap (λ (h : ℕ). (2 * index + 1 + 1) * 2 ^ h) (sym half) ∙ share.ends in
      let rows : List RowValue = rows_at edits v in
      sym (length-append (rows_in (low_of left) (high_of left) rows) (rows_in (low_of right) (high_of right) rows))
      ∙ ap (λ (n : ℕ). length (rows_in (low_of left) (high_of left) rows ++ rows_in n (high_of right) rows)) (sym meets)
      ∙ ap length (sym (rows_in-join (low_of left) (high_of left) (high_of right) rows order (omega (arith, low-lt-high left)) (omega (arith, meets, low-lt-high right))))
      ∙ ap (λ (n : ℕ). length (rows_in n (high_of right) rows)) begins
      ∙ ap (λ (n : ℕ). length (rows_in (low_of node) n rows)) ends

  exps-bounded : IsBounded edits v exps_of (count_at edits v)
  exps-bounded = record {
    hit = λ node. omega arith;
    unit = λ node. omega arith;
    leaf = λ node. omega arith;
    split = λ height index left right one two. omega (arith, halves-count height index);
    halves = λ height index. omega (arith, halves-count height index);
  }

-- and that of the rows in leaves, which are some of the version's rows
pub few-exps : (edits : List Accepted) (v : ℕ) (pairs : List Pair) (a b : ℕ) → IsInOrder (rows_at edits v) → a ≤ b → b ≤ 2 ^ 32 → length (rows_at edits v) < 2 ^ 63
    → sum_by exps_of (walk edits v pairs a b) < 2 ^ 64
few-exps edits v pairs a b order le end few =
    let whole : NodeValue = node_at 32 0 in
    omega (
      arith,
      walk-bounded edits v pairs exps_of (count_at edits v) (exps-bounded edits v order) a b,
      length-filter_both (λ (row : RowValue). lies_in (low_of whole) (high_of whole) row.tick) (λ (row : RowValue). not (lies_in (low_of whole) (high_of whole) row.tick)) (λ row. refl) (rows_at edits v),
    )
