-- The recursion over halves finds all the pieces of an interval, from left to right.
use Rattle.std.proofs.Common.{◌≡◌, ◌∙◌, ℕ, zero, suc, ◌+◌, ◌-◌, ◌*◌, ◌/◌, ◌^◌, ◌<◌, ◌≤◌, ◌⊎◌, inl, inr, refl, sym, ap, subst, arith, Bool, false, cond, List, [], ◌∷◌, ◌++◌}
use Rattle.std.specs.Prelude.{min, max, All, nat_le, ◌&&◌}
use Rattle.std.proofs.lemmas.Bool.{cases_lt, and_from, and_left, and_right, le-leb, lt-leb}
use Rattle.std.proofs.lemmas.List.Elements.{All-nil, All-cons, All-append}
use Rattle.std.proofs.Math.Nat.{pow-suc}
use Rattle.dyadic.specs.Nodes.{NodeValue, IsNode, LiesWithin, low_of, high_of, parent_of}
use Rattle.dyadic.proofs.Spans.{low-lt-high, halves-share}
use Rattle.decompose.specs.Pieces.{IsPiece, IsPieces, Adjoin}
use Rattle.decompose.proofs.Lists.{pieces-from_adjoin, same-members}
use Rattle.book.specs.Walks.{Place, Inside, Outside, Across, place_of, pieces_inside, pieces_of}

-- what the place of a node says
data Lies (a b : ℕ) (node : NodeValue) : Type 0 where
  Within : a ≤ low_of node → high_of node ≤ b → place_of a b node ≡ Inside → Lies a b node
  Before : high_of node ≤ a → place_of a b node ≡ Outside → Lies a b node
  After : b ≤ low_of node → place_of a b node ≡ Outside → Lies a b node
  Crosses : (a ≤ low_of node → high_of node ≤ b → ⊥) → a < high_of node → low_of node < b → place_of a b node ≡ Across → Lies a b node

module _ (a b : ℕ) (node : NodeValue) where
  abbrev chosen : Bool → Bool → Bool → Place
  chosen all early late = cond all Inside (cond early Outside (cond late Outside Across))

  not_within : (nat_le a (low_of node) && nat_le (high_of node) b) ≡ false → (a ≤ low_of node → high_of node ≤ b → ⊥) → Lies a b node
  not_within test out =
      let early : Bool = nat_le (high_of node) a in
      let late : Bool = nat_le b (low_of node) in
      let first : place_of a b node ≡ chosen false early late = ap (λ t. chosen t early late) test in
      elim (cases_lt a (high_of node)) [
        | inr le ↦ Before le (first ∙ ap (λ t. chosen false t late) (le-leb (high_of node) a le))
        | inl lt ↦ elim (cases_lt (low_of node) b) [
          | inr le ↦ After le (first ∙ ap (λ t. chosen false t late) (lt-leb (high_of node) a lt) ∙ ap (λ t. chosen false false t) (le-leb b (low_of node) le))
          | inl below ↦ Crosses out lt below (first ∙ ap (λ t. chosen false t late) (lt-leb (high_of node) a lt) ∙ ap (λ t. chosen false false t) (lt-leb b (low_of node) below))
        ]
      ]

  lies : Lies a b node
  lies =
      let begins : Bool = nat_le a (low_of node) in
      let ends : Bool = nat_le (high_of node) b in
      elim (cases_lt (low_of node) a) [
        | inl lt ↦ not_within (and_left begins ends (lt-leb a (low_of node) lt)) (λ after before. omega arith)
        | inr after ↦ elim (cases_lt b (high_of node)) [
          | inl lt ↦ not_within (and_right begins ends (lt-leb (high_of node) b lt)) (λ after before. omega arith)
          | inr before ↦
              Within after before (ap (λ t. chosen t (nat_le (high_of node) a) (nat_le b (low_of node))) (and_from begins ends (le-leb a (low_of node) after) (le-leb (high_of node) b before)))
        ]
      ]

-- the pieces in a node
abbrev at : ℕ → ℕ → NodeValue
at height index = record { index = index; height = height }

abbrev pieces_at : ℕ → ℕ → ℕ → ℕ → List NodeValue
pieces_at a b height index = pieces_inside a b (place_of a b (at height index)) height index

pieces-are_at : (a b height index : ℕ) (place : Place) → place_of a b (at height index) ≡ place → pieces_at a b height index ≡ pieces_inside a b place height index
pieces-are_at a b height index place is = ap (λ (p : Place). pieces_inside a b p height index) is

-- ---- halves
-- where the halves begin and end
record Halves (height index : ℕ) : Type 0 where
  begins : low_of (at height (2 * index)) ≡ low_of (at (suc height) index)
  meets : high_of (at height (2 * index)) ≡ low_of (at height (2 * index + 1))
  ends : high_of (at height (2 * index + 1)) ≡ high_of (at (suc height) index)

halves-meet : (height index : ℕ) → Halves height index
halves-meet height index =
    let share = halves-share (at (suc height) index) (omega arith) in
    let span : 2 ^ height ≡ 2 ^ (suc height - 1) = ap (λ (h : ℕ). 2 ^ h) (omega arith) in
    let product : index * 2 ^ height ≡ index * 2 ^ (suc height - 1) = ap (λ (n : ℕ). index * n) span in
    record {
      begins = omega (arith, share.begins, product);
      meets = omega arith;
      ends = omega (arith, share.ends, product, span);
    }

-- a half is a node, and its parent is the node
half-is_node : (height index half : ℕ) → half ≤ 2 * index + 1 → IsNode (at (suc height) index) → IsNode (at height half)
half-is_node height index half small is =
    let e : 32 - height ≡ suc (32 - suc height) = omega (arith, is.within_height) in
    let double : 2 ^ (32 - height) ≡ 2 ^ (32 - suc height) * 2 = ap (λ (h : ℕ). 2 ^ h) e ∙ pow-suc 2 (32 - suc height) in
    record {
      within_height = omega (arith, is.within_height);
      within_line = omega (arith, is.within_line, double);
    }

-- both halves have their parent
parent-is : (height index half : ℕ) → half / 2 ≡ index → parent_of (at height half) ≡ at (suc height) index
parent-is height index half e = ap (λ (i : ℕ). at (height + 1) i) e ∙ ap (λ (h : ℕ). at h index) (omega arith)

-- ---- they are pieces
-- the parent isn't inside [a, b)
abbrev Ends : ℕ → ℕ → NodeValue → Type 0
Ends a b node = node.height < 32 → ¬ LiesWithin a b (parent_of node)

-- a half ends inside where its node doesn't
half-ends : (a b height index half : ℕ) → half / 2 ≡ index → (a ≤ low_of (at (suc height) index) → high_of (at (suc height) index) ≤ b → ⊥) → Ends a b (at height half)
half-ends a b height index half e out short within =
    let whole : LiesWithin a b (at (suc height) index) = subst (LiesWithin a b) (parent-is height index half e) within in
    out whole.after whole.before

-- the pieces among a node, by its place
in_place : (a b height index : ℕ) → IsNode (at height index) → Ends a b (at height index)
    → ((a ≤ low_of (at height index) → high_of (at height index) ≤ b → ⊥) → All (IsPiece a b) (pieces_inside a b Across height index))
    → All (IsPiece a b) (pieces_at a b height index)
in_place a b height index is ends crosses =
    elim (lies a b (at height index)) [
      | Within after before e ↦
          subst (All (IsPiece a b)) (sym (pieces-are_at a b height index Inside e))
          (All-cons (IsPiece a b) (at height index) [] (record { is_node = is; within = record { after = after; before = before }; maximal = ends }) (All-nil (IsPiece a b)))
      | Before le e ↦ subst (All (IsPiece a b)) (sym (pieces-are_at a b height index Outside e)) (All-nil (IsPiece a b))
      | After le e ↦ subst (All (IsPiece a b)) (sym (pieces-are_at a b height index Outside e)) (All-nil (IsPiece a b))
      | Crosses out lt below e ↦ subst (All (IsPiece a b)) (sym (pieces-are_at a b height index Across e)) (crosses out)
    ]

inside-are_pieces : (a b height index : ℕ) → IsNode (at height index) → Ends a b (at height index) → All (IsPiece a b) (pieces_at a b height index)
inside-are_pieces a b zero index is ends = in_place a b zero index is ends (λ out. All-nil (IsPiece a b))
inside-are_pieces a b (suc height) index is ends =
    in_place a b (suc height) index is ends
    (λ out.
    All-append (IsPiece a b) (pieces_at a b height (2 * index)) (pieces_at a b height (2 * index + 1))
    (inside-are_pieces a b height (2 * index) (half-is_node height index (2 * index) (omega arith) is) (half-ends a b height index (2 * index) (omega arith) out))
    (inside-are_pieces a b height (2 * index + 1) (half-is_node height index (2 * index + 1) (omega arith) is) (half-ends a b height index (2 * index + 1) (omega arith) out)))

-- ---- they adjoin
-- the interval and the node have both begun at from, and at to one of them ends
record Meets (a b start end from to : ℕ) : Type 0 where
  forward : from ≤ to
  begins : from ≡ max a start
  ends : to ≡ min b end

-- an empty list adjoins from a place to itself
adjoin-none : (from to : ℕ) (nodes : List NodeValue) → from ≡ to → nodes ≡ [] → Adjoin from to nodes
adjoin-none from to nodes same e = subst (Adjoin from to) (sym e) same

adjoin-append : (from mid to : ℕ) (xs ys : List NodeValue) → Adjoin from mid xs → Adjoin mid to ys → Adjoin from to (xs ++ ys)
adjoin-append from mid to [] ys first second = subst (λ (n : ℕ). Adjoin n to ys) (sym first) second
adjoin-append from mid to (x ∷ xs) ys first second = (first.0, adjoin-append (high_of x) mid to xs ys first.1 second)

-- none where the two are apart
none-apart : (a b height index : ℕ) → (b ≤ low_of (at height index)) ⊎ (high_of (at height index) ≤ a) → pieces_at a b height index ≡ []
none-apart a b height index apart =
    let positive = low-lt-high (at height index) in
    elim (lies a b (at height index)) [
      | Within after before e ↦ elim apart [ inl le ↦ absurd (omega (arith, positive)) | inr le ↦ absurd (omega (arith, positive)) ]
      | Before le e ↦ pieces-are_at a b height index Outside e
      | After le e ↦ pieces-are_at a b height index Outside e
      | Crosses out lt below e ↦ elim apart [ inl le ↦ absurd (omega arith) | inr le ↦ absurd (omega arith) ]
    ]

adjoin_place : (a b height index from to : ℕ) → Meets a b (low_of (at height index)) (high_of (at height index)) from to
    → ((a ≤ low_of (at height index) → high_of (at height index) ≤ b → ⊥) → a < high_of (at height index) → low_of (at height index) < b → Adjoin from to (pieces_inside a b Across height index))
    → Adjoin from to (pieces_at a b height index)
adjoin_place a b height index from to m crosses =
    elim (lies a b (at height index)) [
      | Within after before e ↦ subst (Adjoin from to) (sym (pieces-are_at a b height index Inside e)) (omega (arith, m.begins), omega (arith, m.ends))
      | Before le e ↦ adjoin-none from to (pieces_at a b height index) (omega (arith, m.forward, m.begins, m.ends)) (pieces-are_at a b height index Outside e)
      | After le e ↦ adjoin-none from to (pieces_at a b height index) (omega (arith, m.forward, m.begins, m.ends)) (pieces-are_at a b height index Outside e)
      | Crosses out lt below e ↦ subst (Adjoin from to) (sym (pieces-are_at a b height index Across e)) (crosses out lt below)
    ]

inside-adjoin : (a b height index from to : ℕ) → Meets a b (low_of (at height index)) (high_of (at height index)) from to → Adjoin from to (pieces_at a b height index)
inside-adjoin a b zero index from to m = adjoin_place a b zero index from to m (λ out lt below. absurd (out (omega arith) (omega arith)))
inside-adjoin a b (suc height) index from to m =
    adjoin_place a b (suc height) index from to m
    (λ out lt below.
    let h = halves-meet height index in
    let mid : ℕ = low_of (at height (2 * index + 1)) in
    let left = pieces_at a b height (2 * index) in
    let right = pieces_at a b height (2 * index + 1) in
    let first = low-lt-high (at height (2 * index)) in
    let second = low-lt-high (at height (2 * index + 1)) in
    elim (cases_lt to mid) [
      | inl early ↦ adjoin-append from to to left right
          (inside-adjoin a b height (2 * index) from to (record { forward = m.forward; begins = omega (arith, m.begins, h.begins); ends = omega (arith, m.ends, h.meets, h.ends, second) }))
          (adjoin-none to to right refl (none-apart a b height (2 * index + 1) (inl (omega (arith, m.ends, h.ends, second)))))
      | inr mid_first ↦ elim (cases_lt mid from) [
        | inl late ↦ adjoin-append from from to left right
            (adjoin-none from from left refl (none-apart a b height (2 * index) (inr (omega (arith, m.begins, h.meets, h.begins, first)))))
            (inside-adjoin a b height (2 * index + 1) from to (record { forward = m.forward; begins = omega (arith, m.begins, h.meets, h.begins, first); ends = omega (arith, m.ends, h.ends) }))
        | inr from_first ↦ adjoin-append from mid to left right
            (inside-adjoin a b height (2 * index) from mid (record { forward = from_first; begins = omega (arith, m.begins, h.begins); ends = omega (arith, m.ends, h.meets) }))
            (inside-adjoin a b height (2 * index + 1) mid to (record { forward = mid_first; begins = omega (arith, m.begins); ends = omega (arith, m.ends, h.ends) }))
      ]
    ])

-- ---- all of them
-- the pieces begin at a, adjoin, and end at b
pub pieces_of-adjoin : (a b : ℕ) → a ≤ b → b ≤ 2 ^ 32 → Adjoin a b (pieces_of a b)
pieces_of-adjoin a b forward end = inside-adjoin a b 32 0 a b (record { forward = forward; begins = omega arith; ends = omega arith })

-- they are all maximal nodes in [a, b)
pub pieces_of-are : (a b : ℕ) → a ≤ b → b ≤ 2 ^ 32 → IsPieces a b (pieces_of a b)
pieces_of-are a b forward end =
    pieces-from_adjoin a b (pieces_of a b) (pieces_of-adjoin a b forward end)
    (inside-are_pieces a b 32 0 (record { within_height = omega arith; within_line = omega arith }) (λ short within. omega arith))

-- a list of all maximal nodes in [a, b) by rising start is this one
pub pieces-are : (a b : ℕ) (nodes : List NodeValue) → a ≤ b → b ≤ 2 ^ 32 → IsPieces a b nodes → nodes ≡ pieces_of a b
pieces-are a b nodes forward end are =
    let all = pieces_of-are a b forward end in
    same-members nodes (pieces_of a b) are.ordered all.ordered
    (λ v member. (all.members v).1 ((are.members v).0 member))
    (λ v member. (are.members v).1 ((all.members v).0 member))
