-- The longest node from the left end, again and again, is maximal each time.
use Rattle.std.proofs.Common.{◌≡◌, ℕ, ◌<◌, ◌≤◌, inl, inr, arith, ap}
use Rattle.std.proofs.lemmas.Bool.{cases_lt, cases_order}
use Rattle.dyadic.specs.Nodes.{NodeValue, IsNode, LiesWithin, low_of, high_of, parent_of}
use Rattle.dyadic.proofs.Spans.{low-lt-high, meet-same, meet-within, within-parent}
use Rattle.decompose.specs.Pieces.{IsPiece}

-- the longest node from a tick on that ends at b or before
pub record IsLongest (at b : ℕ) (node : NodeValue) : Type 0 where
  -- it is a node
  pub is_node : IsNode node
  -- it begins at the tick
  pub begins : low_of node ≡ at
  -- it ends at b or before
  pub ends : high_of node ≤ b
  -- its parent, where it has one, doesn't lie in [at, b)
  pub longest : node.height < 32 → ¬ LiesWithin at b (parent_of node)

-- no node inside [a, b) crosses the tick
abbrev pub IsCut : ℕ → ℕ → ℕ → Type 0
IsCut a b at = (v : NodeValue) → v.height ≤ 32 → a ≤ low_of v → low_of v < at → at < high_of v → high_of v ≤ b → ⊥

-- nothing crosses the left end of the interval
pub cut-first : (a b : ℕ) → IsCut a b a
cut-first a b v short low before after high = omega arith

-- nothing crosses the end of the longest node from a tick that nothing crosses
pub cut-next : (a b at : ℕ) (node : NodeValue) → IsCut a b at → IsLongest at b node → IsCut a b (high_of node)
cut-next a b at node cut is v short low before after high =
    elim (cases_lt (low_of v) at) [
      | inl lt ↦ cut v short low lt (omega (arith, is.begins, low-lt-high node)) high
      | inr le ↦ elim (cases_order node.height v.height) [
        | inl e ↦ omega (arith, ap high_of (meet-same node v (low_of v) e (omega (arith, is.begins)) before (omega arith) (omega arith)))
        | inr differ ↦ elim differ [
          | inl lt ↦
              let parent = meet-within node v (low_of v) lt (omega (arith, is.begins)) before (omega arith) (omega arith) in
              is.longest (omega arith) (record { after = omega (arith, parent.after); before = omega (arith, parent.before) })
          | inr lt ↦
              let parent = meet-within v node (low_of v) lt (omega arith) (omega arith) (omega (arith, is.begins)) before in
              omega (arith, parent.before, (within-parent v).before)
        ]
      ]
    ]

-- the longest node from a tick that nothing crosses is maximal
pub longest-is_piece : (a b at : ℕ) (node : NodeValue) → IsCut a b at → a ≤ at → IsLongest at b node → IsPiece a b node
longest-is_piece a b at node cut le is =
    record {
      is_node = is.is_node;
      within = record { after = omega (arith, is.begins); before = is.ends };
      maximal = λ short within. elim (cases_lt (low_of (parent_of node)) at) [
        | inl lt ↦ cut (parent_of node) (omega arith) within.after lt (omega (arith, is.begins, low-lt-high node, (within-parent node).before)) within.before
        | inr ge ↦ is.longest short (record { after = ge; before = within.before })
      ];
    }
