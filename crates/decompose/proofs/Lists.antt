-- Lists of nodes whose spans adjoin.
use Rattle.std.proofs.Common.{◌≡◌, ℕ, zero, suc, ◌<◌, ◌≤◌, ◌⊎◌, inl, inr, List, [], ◌∷◌, ◌++◌, get_or, arith, ap, sym, ◌∙◌, subst, refl}
use Rattle.std.specs.Prelude.{Contains, AllPairs, All}
use Rattle.std.proofs.lemmas.Bool.{cases_lt, cases_order}
use Rattle.std.proofs.lemmas.List.Elements.{All-contains, Contains-get_or}
use Rattle.dyadic.specs.Nodes.{NodeValue, LiesWithin, low_of, high_of, parent_of}
use Rattle.dyadic.proofs.Spans.{low-lt-high, meet-same, meet-within}
use Rattle.decompose.specs.Pieces.{IsPiece, IsPieces, Adjoin}

-- by rising low
abbrev pub Ordered : List NodeValue → Type 0
Ordered nodes = AllPairs (λ v w. low_of v < low_of w) nodes

-- the first node is in the list
pub here : (v : NodeValue) (nodes : List NodeValue) → Contains (v ∷ nodes) v
here v nodes = (zero, omega arith, refl)

-- what is in the rest is in the list
pub there : (v w : NodeValue) (nodes : List NodeValue) → Contains nodes v → Contains (w ∷ nodes) v
there v w nodes (k, lt, e) = (suc k, omega arith, e)

-- what is in the list is the first or in the rest
pub here_or_there : (v w : NodeValue) (nodes : List NodeValue) → Contains (w ∷ nodes) v → (w ≡ v) ⊎ Contains nodes v
here_or_there v w nodes (zero, lt, e) = inl e
here_or_there v w nodes (suc k, lt, e) = inr (k, omega arith, e)

-- nothing is in the empty list
pub not_in_none : (v : NodeValue) → Contains [] v → ⊥
not_in_none v (k, lt, e) = omega arith

-- the rest of an ordered list is ordered
pub Ordered-tail : (v : NodeValue) (nodes : List NodeValue) → Ordered (v ∷ nodes) → Ordered nodes
Ordered-tail v nodes up i j d lt within = up (suc i) (suc j) d (omega arith) (omega arith)

-- the first node begins before each other one
pub Ordered-head : (v w : NodeValue) (nodes : List NodeValue) → Ordered (v ∷ nodes) → Contains nodes w → low_of v < low_of w
Ordered-head v w nodes up (k, lt, e) =
    let later : low_of v < low_of (get_or nodes k w) = up zero (suc k) w (omega arith) (omega arith) in
    omega (arith, later, ap low_of e)

-- two lists by rising low with the same members are the same
pub same-members : (xs ys : List NodeValue) → Ordered xs → Ordered ys → ((v : NodeValue) → Contains xs v → Contains ys v) → ((v : NodeValue) → Contains ys v → Contains xs v) → xs ≡ ys
same-members [] [] up down to from = refl
same-members [] (y ∷ ys) up down to from = absurd (not_in_none y (from y (here y ys)))
same-members (x ∷ xs) [] up down to from = absurd (not_in_none x (to x (here x xs)))
same-members (x ∷ xs) (y ∷ ys) up down to from =
    let same : y ≡ x = same-heads x y xs ys up down (to x (here x xs)) (from y (here y ys)) in
    let rest : xs ≡ ys = same-members xs ys (Ordered-tail x xs up) (Ordered-tail y ys down) (λ v m. later x y v xs ys same up m (to v (there v x xs m))) (λ v m. later y x v ys xs (sym same) down m (from v (there v y ys m))) in
    ap (λ (v : NodeValue). v ∷ xs) (sym same) ∙ ap (λ (nodes : List NodeValue). y ∷ nodes) rest
  where
    same-heads : (x y : NodeValue) (xs ys : List NodeValue) → Ordered (x ∷ xs) → Ordered (y ∷ ys) → Contains (y ∷ ys) x → Contains (x ∷ xs) y → y ≡ x
    same-heads x y xs ys up down x_in y_in =
        elim (here_or_there x y ys x_in) [
          | inl e ↦ e
          | inr a ↦ elim (here_or_there y x xs y_in) [
            | inl e ↦ sym e
            | inr b ↦ absurd (omega (arith, Ordered-head y x ys down a, Ordered-head x y xs up b))
          ]
        ]

    later : (x y v : NodeValue) (xs ys : List NodeValue) → y ≡ x → Ordered (x ∷ xs) → Contains xs v → Contains (y ∷ ys) v → Contains ys v
    later x y v xs ys same up m n =
        elim (here_or_there v y ys n) [
          | inl e ↦ absurd (omega (arith, Ordered-head x v xs up m, ap low_of (sym same ∙ e)))
          | inr a ↦ a
        ]

adjoin-within : (a b : ℕ) (nodes : List NodeValue) (v : NodeValue) → Adjoin a b nodes → Contains nodes v → a ≤ low_of v
adjoin-within a b [] v adjoin m = absurd (not_in_none v m)
adjoin-within a b (w ∷ nodes) v adjoin m =
    elim (here_or_there v w nodes m) [
      | inl e ↦ omega (arith, adjoin.0, ap low_of e)
      | inr n ↦ omega (arith, adjoin.0, low-lt-high w, adjoin-within (high_of w) b nodes v adjoin.1 n)
    ]

-- spans that adjoin are in order, and apart
pub adjoin-ordered : (a b : ℕ) (nodes : List NodeValue) → Adjoin a b nodes → Ordered nodes
adjoin-ordered a b [] adjoin i j d lt within = absurd (omega arith)
adjoin-ordered a b (v ∷ nodes) adjoin zero zero d lt within = absurd (omega arith)
adjoin-ordered a b (v ∷ nodes) adjoin zero (suc j) d lt within =
    let member : Contains nodes (get_or nodes j d) = Contains-get_or nodes j d (omega arith) in
    omega (arith, low-lt-high v, adjoin-within (high_of v) b nodes (get_or nodes j d) adjoin.1 member)
adjoin-ordered a b (v ∷ nodes) adjoin (suc i) zero d lt within = absurd (omega arith)
adjoin-ordered a b (v ∷ nodes) adjoin (suc i) (suc j) d lt within =
    adjoin-ordered (high_of v) b nodes adjoin.1 i j d (omega arith) (omega arith)

-- a node of the list that has the tick
pub record Found (nodes : List NodeValue) (tick : ℕ) : Type 0 where
  -- the node
  pub node : NodeValue
  -- it is in the list
  pub member : Contains nodes node
  -- it begins at the tick or before
  pub after : low_of node ≤ tick
  -- it ends after the tick
  pub before : tick < high_of node

adjoin-find : (a b : ℕ) (nodes : List NodeValue) (tick : ℕ) → Adjoin a b nodes → a ≤ tick → tick < b → Found nodes tick
adjoin-find a b [] tick adjoin low high = absurd (omega arith)
adjoin-find a b (v ∷ nodes) tick adjoin low high =
    elim (cases_lt tick (high_of v)) [
      | inl lt ↦ record { node = v; member = here v nodes; after = omega (arith, adjoin.0); before = lt }
      | inr le ↦
          let found = adjoin-find (high_of v) b nodes tick adjoin.1 le high in
          record { node = found.node; member = there found.node v nodes found.member; after = found.after; before = found.before }
    ]

-- one node more, where the others end
pub adjoin-push : (a at : ℕ) (nodes : List NodeValue) (v : NodeValue) → Adjoin a at nodes → low_of v ≡ at → Adjoin a (high_of v) (nodes ++ v ∷ [])
adjoin-push a at [] v adjoin e = (e ∙ sym adjoin, refl)
adjoin-push a at (w ∷ nodes) v adjoin e = (adjoin.0, adjoin-push (high_of w) at nodes v adjoin.1 e)

-- the parent of a piece lies in no interval inside [a, b)
parent-not_inside : (a b c d : ℕ) (v : NodeValue) → IsPiece a b v → v.height < 32 → a ≤ c → d ≤ b → LiesWithin c d (parent_of v) → ⊥
parent-not_inside a b c d v piece short low high within =
    piece.maximal short (record { after = omega (arith, within.after); before = omega (arith, within.before) })

-- two pieces that meet are the same
pub meeting_pieces : (a b : ℕ) (v w : NodeValue) (tick : ℕ) → IsPiece a b v → IsPiece a b w → low_of v ≤ tick → tick < high_of v → low_of w ≤ tick → tick < high_of w → v ≡ w
meeting_pieces a b v w tick v_is w_is v_low v_high w_low w_high =
    elim (cases_order v.height w.height) [
      | inl e ↦ meet-same v w tick e v_low v_high w_low w_high
      | inr differ ↦ elim differ [
        | inl lt ↦ absurd (parent-not_inside a b (low_of w) (high_of w) v v_is (omega (arith, w_is.is_node.within_height)) w_is.within.after w_is.within.before (meet-within v w tick lt v_low v_high w_low w_high))
        | inr lt ↦ absurd (parent-not_inside a b (low_of v) (high_of v) w w_is (omega (arith, v_is.is_node.within_height)) v_is.within.after v_is.within.before (meet-within w v tick lt w_low w_high v_low v_high))
      ]
    ]

-- maximal nodes that adjoin from end to end are all of them
pub pieces-from_adjoin : (a b : ℕ) (nodes : List NodeValue) → Adjoin a b nodes → All (IsPiece a b) nodes → IsPieces a b nodes
pieces-from_adjoin a b nodes adjoin each =
    record {
      ordered = adjoin-ordered a b nodes adjoin;
      members = λ v. (All-contains (IsPiece a b) nodes v each, λ piece. every v piece);
    }
  where
    every : (v : NodeValue) → IsPiece a b v → Contains nodes v
    every v piece =
        let tick = low_of v in
        let found : Found nodes tick = adjoin-find a b nodes tick adjoin piece.within.after (omega (arith, low-lt-high v, piece.within.before)) in
        let other : IsPiece a b found.node = All-contains (IsPiece a b) nodes found.node each found.member in
        let same : found.node ≡ v = meeting_pieces a b found.node v tick other piece found.after found.before (omega arith) (low-lt-high v) in
        subst (λ (w : NodeValue). Contains nodes w) same found.member
