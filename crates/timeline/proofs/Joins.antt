-- New tree nodes.
use Rattle.std.proofs.Common.{◌≡◌, ◌∙◌, ℕ, zero, suc, ◌+◌, ◌*◌, ◌<◌, ◌≤◌, ◌^◌, List, [], ◌∷◌, length, get_or, take, refl, sym, ap, subst, arith}
use Rattle.std.specs.List.{All}
use Rattle.std.proofs.lemmas.List.Elements.{All-nil, All-push, All-append, All-head, All-tail, All-get_or}
use Rattle.definitions.specs.Rows.{RowValue, moves_of}
use Rattle.definitions.specs.Signature.{weight as weight_of}
use Rattle.timeline.specs.Tries.{Label, Trie, Leaf, Fork, label_of, rows_of, IsTrie}
use Rattle.timeline.specs.Stores.{Store, no_row, span_at, row_at, edit_key, weight_in, label_at, trie, Draws, Stands}
use Rattle.timeline.specs.Puts.{Grows, GainsSpans, IsJoined, IsTip, IsFit, AreFit}
use Rattle.timeline.proofs.Filters.{weight-append}
use Rattle.timeline.proofs.Tries.{count-is, weight-is}
use Rattle.timeline.proofs.Growth.{Grows-gained}
use Rattle.timeline.proofs.Drawings.{trie-is, drawn-stands, stands-label, has-tip, draws-kept}
use Rattle.timeline.proofs.Changes.{IsOver, IsTipTrie}

-- a new tree node draws the tree over those of its halves
module _ (a b : Store) (half l r edit j : ℕ) (joined : IsJoined a b half l r edit j) (left : Stands a l) (right : Stands a r) (made : edit < length a.keys) (low : half ≤ 62) where
  grown : Grows a b
  grown = Grows-gained a b joined.gains

  drawn : Draws b j (Fork (label_at b j) (trie a l) (trie a r))
  unfolding Draws
  drawn = (
    record { within = joined.within; made = omega (arith, joined.parts.edit, ap length joined.gains.keys, made); label = refl },
    subst (λ (i : ℕ). Draws b i (trie a l)) (sym joined.parts.left) (draws-kept a b grown l (trie a l) left.drawn),
    subst (λ (i : ℕ). Draws b i (trie a r)) (sym joined.parts.right) (draws-kept a b grown r (trie a r) right.drawn),
  )

  module _ (is : IsTrie (Fork (label_at b j) (trie a l) (trie a r))) where
    -- the new tree node is the root of its tree
    pub joined-stands : Stands b j
    joined-stands = drawn-stands b j (Fork (label_at b j) (trie a l) (trie a r)) drawn is (omega (arith, joined.parts.height, low))

    -- its tree is the fork over those of its halves
    pub joined-trie : trie b j ≡ Fork (label_at b j) (trie a l) (trie a r)
    joined-trie = trie-is b j (Fork (label_at b j) (trie a l) (trie a r)) drawn is (omega (arith, joined.parts.height, low))

  -- its label is that of a fork over the labels of its halves, with the key and the version of the edit
  pub joined-over : IsOver (label_at b j) half (edit_key a edit) (suc edit) (label_of (trie a l)) (label_of (trie a r))
  joined-over = record {
    height = joined.parts.height;
    key = ap (λ (n : ℕ). edit_key b n) joined.parts.edit ∙ ap (λ ks. get_or ks edit 0) joined.gains.keys;
    version = ap suc joined.parts.edit;
    counted = omega (arith, joined.parts.count, ap (λ (m : Label). m.count) (stands-label a l left), ap (λ (m : Label). m.count) (stands-label a r right));
    weighed = omega (arith, joined.parts.weight, ap (λ (m : Label). m.weight) (stands-label a l left), ap (λ (m : Label). m.weight) (stands-label a r right));
  }

-- ---- sizes
-- the root of a tree counts the rows of the tree
pub size-of : (store : Store) (i : ℕ) → Stands store i → (span_at store i).count ≡ length (rows_of (trie store i))
size-of store i s = sym (ap (λ (m : Label). m.count) (stands-label store i s)) ∙ count-is (trie store i) s.is

take-empty : (n : ℕ) → take {A = RowValue} n [] ≡ []
take-empty zero = refl
take-empty (suc n) = refl

first-fit : (n : ℕ) (r : RowValue) → (0 < n → IsFit r) → All IsFit (take n (r ∷ []))
first-fit zero r h = All-nil IsFit
first-fit (suc n) r h = subst (λ (rs : List RowValue). All IsFit (r ∷ rs)) (sym (take-empty n)) (All-push IsFit [] r (All-nil IsFit) (h (omega arith)))

rows-fit : (store : Store) (i : ℕ) (t : Trie) → AreFit store → Draws store i t → All IsFit (rows_of t)
unfolding Draws
rows-fit store i (Leaf l rows) fit d =
    subst (λ (rs : List RowValue). All IsFit rs) (sym d.1.listed)
    (first-fit (span_at store i).count (row_at store (span_at store i).right) (λ some. All-get_or IsFit store.rows (span_at store i).right no_row (d.1.within some) fit.rows))
rows-fit store i (Fork l x y) fit d =
    All-append IsFit (rows_of x) (rows_of y) (rows-fit store (span_at store i).left x fit d.1) (rows-fit store (span_at store i).right y fit d.2)

-- rows that have their bounds weigh together at most 2 ^ 64 times their number
pub light : (rows : List RowValue) → All IsFit rows → weight_of (moves_of rows) ≤ 2 ^ 64 * length rows
light [] fit = omega arith
light (r ∷ rows) fit =
    let one : weight_of (moves_of (r ∷ rows)) ≡ weight_of (moves_of (r ∷ [])) + weight_of (moves_of rows) = weight-append (r ∷ []) rows in
    let here : IsFit r = All-head IsFit r rows fit in
    omega (arith, one, here.light, light rows (All-tail IsFit r rows fit))

-- if all rows of the store have their bounds, so have those of a tree
pub all-fit : (store : Store) (i : ℕ) → AreFit store → Stands store i → All IsFit (rows_of (trie store i))
all-fit store i fit s = rows-fit store i (trie store i) fit s.drawn

-- a tree node weighs at most 2 ^ 64 for each row that it counts
pub mass-of : (store : Store) (i : ℕ) → AreFit store → Stands store i → weight_in (span_at store i) ≤ 2 ^ 64 * (span_at store i).count
mass-of store i fit s =
    let mass : weight_in (span_at store i) ≡ weight_of (moves_of (rows_of (trie store i))) = sym (ap (λ (m : Label). m.weight) (stands-label store i s)) ∙ weight-is (trie store i) s.is in
    omega (arith, mass, size-of store i s, light (rows_of (trie store i)) (all-fit store i fit s))

take-few : (n : ℕ) (r : RowValue) → length (take n (r ∷ [])) ≤ 1
take-few zero r = omega arith
take-few (suc n) r = omega (arith, ap length (take-empty n))

-- a tree node of one key has one row at most
pub tip-few : (store : Store) (i edit : ℕ) (rows : List RowValue) → IsTip store edit rows i → length (rows_of (trie store i)) ≤ 1
tip-few store i edit rows tip =
    omega (arith, ap (λ (t : Trie). length (rows_of t)) (has-tip store i tip.stands tip.lowest).tree, take-few (span_at store i).count (row_at store (span_at store i).right))

-- with more tree nodes alone, the rows and the keys still have their bounds
pub fit-kept : (a b : Store) → GainsSpans a b → AreFit a → AreFit b
fit-kept a b g fit = record {
  rows = subst (λ (rs : List RowValue). All IsFit rs) (sym g.rows) fit.rows;
  keys = subst (λ (ks : List ℕ). All (λ (k : ℕ). k < 2 ^ 63) ks) (sym g.keys) fit.keys;
}

-- ---- the tree of a tip
-- the tree of a tree node of one key has the key that its edit touched, and the version of this edit
pub tip-trie : (store : Store) (i edit : ℕ) (rows : List RowValue) → IsTip store edit rows i → IsTipTrie (edit_key store edit) (suc edit) (trie store i)
tip-trie store i edit rows tip =
    let l = stands-label store i tip.stands in
    record {
      is = tip.stands.is;
      lowest = ap (λ (m : Label). m.height) l ∙ tip.lowest;
      key = ap (λ (m : Label). m.key) l ∙ ap (λ (n : ℕ). edit_key store n) tip.edit;
      version = ap (λ (m : Label). m.version) l ∙ ap suc tip.edit;
    }
