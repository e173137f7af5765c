-- The pieces cover the interval.
use Rattle.std.proofs.Common.{◌≡◌, ℕ, zero, suc, ◌+◌, ◌<◌, ◌≤◌, ◌^◌, inl, inr, List, [], ◌∷◌, arith, ap}
use Rattle.std.specs.Prelude.{Contains}
use Rattle.std.proofs.lemmas.Bool.{cases_lt}
use Rattle.dyadic.specs.Nodes.{NodeValue, IsNode, LiesWithin, low_of, high_of, parent_of}
use Rattle.dyadic.proofs.Heights.{is_node-parent}
use Rattle.dyadic.proofs.Spans.{low-lt-high, within-parent}
use Rattle.decompose.specs.Pieces.{IsPiece, IsPieces, Adjoin}
use Rattle.decompose.proofs.Lists.{Ordered, Ordered-head, Ordered-tail, Found, here, there, here_or_there, not_in_none, meeting_pieces}

-- a piece that has the tick
record Covered (a b tick : ℕ) : Type 0 where
  piece : NodeValue
  is_piece : IsPiece a b piece
  after : low_of piece ≤ tick
  before : tick < high_of piece

-- the parent of the parent, and so on, while that lies inside
climb : (steps a b tick : ℕ) (v : NodeValue) → 32 ≤ v.height + steps → IsNode v → LiesWithin a b v → low_of v ≤ tick → tick < high_of v → Covered a b tick
climb zero a b tick v tall is within low high =
    record { piece = v; is_piece = record { is_node = is; within = within; maximal = λ short inside. omega arith }; after = low; before = high }
climb (suc steps) a b tick v tall is within low high =
    elim (cases_lt v.height 32) [
      | inr whole ↦ stay (λ short inside. omega arith)
      | inl short ↦ elim (cases_lt (low_of (parent_of v)) a) [
        | inl out ↦ stay (λ short inside. omega (arith, inside.after))
        | inr after ↦ elim (cases_lt b (high_of (parent_of v))) [
          | inl out ↦ stay (λ short inside. omega (arith, inside.before))
          | inr before ↦
              let wider = within-parent v in
              climb steps a b tick (parent_of v) (omega arith) (is_node-parent v is short) (record { after = after; before = before }) (omega (arith, wider.after)) (omega (arith, wider.before))
        ]
      ]
    ]
  where
    stay : (v.height < 32 → ¬ LiesWithin a b (parent_of v)) → Covered a b tick
    stay maximal = record { piece = v; is_piece = record { is_node = is; within = within; maximal = maximal }; after = low; before = high }

cover : (a b tick : ℕ) → b ≤ 2 ^ 32 → a ≤ tick → tick < b → Covered a b tick
cover a b tick line low high =
    let v : NodeValue = record { index = tick; height = 0 } in
    climb 32 a b tick v (omega arith) (record { within_height = omega arith; within_line = omega arith }) (record { after = omega arith; before = omega arith }) (omega arith) (omega arith)

-- pieces in order that cover the rest of the interval adjoin
adjoin-from : (a b at : ℕ) (nodes : List NodeValue) → at ≤ b → Ordered nodes
    → ((v : NodeValue) → Contains nodes v → at ≤ low_of v)
    → ((v : NodeValue) → Contains nodes v → IsPiece a b v)
    → ((tick : ℕ) → at ≤ tick → tick < b → Found nodes tick)
    → Adjoin at b nodes
adjoin-from a b at [] le up from each covered =
    elim (cases_lt at b) [
      | inl lt ↦
          let found = covered at (omega arith) lt in
          absurd (not_in_none found.node found.member)
      | inr ge ↦ omega arith
    ]
adjoin-from a b at (v ∷ nodes) le up from each covered =
    (begins, adjoin-from a b (high_of v) nodes is.within.before (Ordered-tail v nodes up) rest_from rest_each rest_covered)
  where
    is : IsPiece a b v
    is = each v (here v nodes)

    begins : low_of v ≡ at
    begins =
        let low = from v (here v nodes) in
        let found = covered at (omega arith) (omega (arith, low, low-lt-high v, is.within.before)) in
        elim (here_or_there found.node v nodes found.member) [
          | inl e ↦ omega (arith, low, found.after, ap low_of e)
          | inr m ↦ absurd (omega (arith, low, found.after, Ordered-head v found.node nodes up m))
        ]

    rest_each : (w : NodeValue) → Contains nodes w → IsPiece a b w
    rest_each w m = each w (there w v nodes m)

    rest_from : (w : NodeValue) → Contains nodes w → high_of v ≤ low_of w
    rest_from w m =
        let later = Ordered-head v w nodes up m in
        elim (cases_lt (low_of w) (high_of v)) [
          | inl lt ↦ absurd (omega (arith, later, ap low_of (meeting_pieces a b v w (low_of w) is (rest_each w m) (omega (arith, later)) lt (omega arith) (low-lt-high w))))
          | inr le ↦ le
        ]

    rest_covered : (tick : ℕ) → high_of v ≤ tick → tick < b → Found nodes tick
    rest_covered tick low high =
        let found = covered tick (omega (arith, low, low-lt-high v, from v (here v nodes))) high in
        elim (here_or_there found.node v nodes found.member) [
          | inl e ↦ absurd (omega (arith, low, found.before, ap high_of e))
          | inr m ↦ record { node = found.node; member = m; after = found.after; before = found.before }
        ]

-- the spans of the pieces are together the interval
pub pieces-adjoin : (a b : ℕ) (nodes : List NodeValue) → a ≤ b → b ≤ 2 ^ 32 → IsPieces a b nodes → Adjoin a b nodes
pieces-adjoin a b nodes le line pieces =
    adjoin-from a b a nodes le pieces.ordered (λ v m. (each v m).within.after) each (λ tick low high. found (cover a b tick line low high))
  where
    each : (v : NodeValue) → Contains nodes v → IsPiece a b v
    each v m = (pieces.members v).0 m

    found : {tick : ℕ} → Covered a b tick → Found nodes tick
    found covered =
        record { node = covered.piece; member = (pieces.members covered.piece).1 covered.is_piece; after = covered.after; before = covered.before }
