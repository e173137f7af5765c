-- A tree node and the tree of which it is the root.
use Rattle.std.proofs.Common.{◌≡◌, ◌∙◌, ℕ, zero, suc, ◌<◌, ◌≤◌, List, [], ◌∷◌, length, take, refl, sym, ap, subst, arith, true, false, cond}
use Rattle.std.specs.Prelude.{nat_eq}
use Rattle.std.proofs.lemmas.Bool.Decides.{nat_tests}
use Rattle.definitions.specs.Rows.{RowValue}
use Rattle.timeline.specs.declared.span.Span.{Span}
use Rattle.timeline.specs.Tries.{Label, Trie, Leaf, Fork, label_of, IsForkOf, IsTrie}
use Rattle.timeline.specs.Stores.{Store, span_at, row_at, edit_key, weight_in, label_at, tip_rows, trie_below, trie, IsLabelled, IsTipOf, Draws, Stands}
use Rattle.timeline.specs.Puts.{Grows}

zero-test : (n : ℕ) → n ≡ 0 → nat_eq n 0 ≡ true
zero-test n h = grind (arith, nat_tests)

some-test : (n m : ℕ) → n ≡ suc m → nat_eq n 0 ≡ false
some-test n m h = grind (arith, nat_tests)

-- ---- the tree that is drawn
-- a tree of height n at most that a tree node draws is the tree below this node, followed for at most n forks
pub trie_below-is : (store : Store) (i n : ℕ) (t : Trie) → Draws store i t → IsTrie t → (label_of t).height ≤ n → trie_below store n i ≡ t
unfolding Draws IsTrie trie_below
trie_below-is store i zero (Leaf l rows) d is low =
    ap (λ (m : Label). Leaf m (tip_rows store i)) (sym d.0.label) ∙ ap (λ (rs : List RowValue). Leaf l rs) (sym d.1.listed)
trie_below-is store i (suc n) (Leaf l rows) d is low =
    let lowest : (span_at store i).height ≡ 0 = sym (ap (λ (m : Label). m.height) d.0.label) ∙ is.lowest in
    ap (λ c. cond c (Leaf (label_at store i) (tip_rows store i)) (Fork (label_at store i) (trie_below store n (span_at store i).left) (trie_below store n (span_at store i).right)))
    (zero-test (span_at store i).height lowest)
    ∙ ap (λ (m : Label). Leaf m (tip_rows store i)) (sym d.0.label) ∙ ap (λ (rs : List RowValue). Leaf l rs) (sym d.1.listed)
trie_below-is store i zero (Fork l x y) d is low = absurd (omega (arith, is.0.higher, low))
trie_below-is store i (suc n) (Fork l x y) d is low =
    let f : IsForkOf l (label_of x) (label_of y) = is.0 in
    let higher : (span_at store i).height ≡ suc f.half = sym (ap (λ (m : Label). m.height) d.0.label) ∙ f.higher in
    ap (λ c. cond c (Leaf (label_at store i) (tip_rows store i)) (Fork (label_at store i) (trie_below store n (span_at store i).left) (trie_below store n (span_at store i).right)))
    (some-test (span_at store i).height f.half higher)
    ∙ ap (λ (m : Label). Fork m (trie_below store n (span_at store i).left) (trie_below store n (span_at store i).right)) (sym d.0.label)
    ∙ ap (λ (t : Trie). Fork l t (trie_below store n (span_at store i).right)) (trie_below-is store (span_at store i).left n x d.1 is.1 (omega (arith, f.higher, f.first_low, low)))
    ∙ ap (λ (t : Trie). Fork l x t) (trie_below-is store (span_at store i).right n y d.2 is.2 (omega (arith, f.higher, f.second_low, low)))

-- a tree of height 63 at most that a tree node draws is the tree of this node
pub trie-is : (store : Store) (i : ℕ) (t : Trie) → Draws store i t → IsTrie t → (label_of t).height ≤ 63 → trie store i ≡ t
unfolding trie
trie-is store i t d is low = trie_below-is store i 63 t d is low

-- a tree node that draws a tree is there, with the label of the tree's root
pub labelled : (store : Store) (i : ℕ) (t : Trie) → Draws store i t → IsLabelled store i (label_of t)
unfolding Draws
labelled store i (Leaf l rows) d = d.0
labelled store i (Fork l x y) d = d.0

-- a tree node that draws a tree of height 63 at most is the root of its tree
pub drawn-stands : (store : Store) (i : ℕ) (t : Trie) → Draws store i t → IsTrie t → (label_of t).height ≤ 63 → Stands store i
drawn-stands store i t d is low =
    let e : trie store i ≡ t = trie-is store i t d is low in
    record {
      low = omega (arith, ap (λ (m : Label). m.height) (labelled store i t d).label, low);
      drawn = subst (Draws store i) (sym e) d;
      is = subst IsTrie (sym e) is;
    }

-- ---- what stands
-- the tree of a root has the label that is written at the tree node
pub stands-label : (store : Store) (i : ℕ) → Stands store i → label_of (trie store i) ≡ label_at store i
stands-label store i s = (labelled store i (trie store i) s.drawn).label

-- the root of a tree is one of the tree nodes of the store
pub stands-within : (store : Store) (i : ℕ) → Stands store i → i < length store.spans
stands-within store i s = (labelled store i (trie store i) s.drawn).within

-- its edit is one of those of the store
pub stands-made : (store : Store) (i : ℕ) → Stands store i → (span_at store i).edit < length store.keys
stands-made store i s = (labelled store i (trie store i) s.drawn).made

-- a tree node with halves
pub record HasHalves (store : Store) (i : ℕ) : Type 0 where
  -- how many digits follow the one at which the keys of the halves part
  pub half : ℕ
  -- the height of the tree node is one more
  pub higher : (span_at store i).height ≡ suc half
  -- the height of the left half is at most this number
  pub first_low : (span_at store (span_at store i).left).height ≤ half
  -- so is that of the right one
  pub second_low : (span_at store (span_at store i).right).height ≤ half
  -- the left half is the root of its tree
  pub left : Stands store (span_at store i).left
  -- so is the right one
  pub right : Stands store (span_at store i).right
  -- the tree is the fork over those of the halves
  pub tree : trie store i ≡ Fork (label_at store i) (trie store (span_at store i).left) (trie store (span_at store i).right)

has-halves-of : (store : Store) (i : ℕ) (t : Trie) → trie store i ≡ t → Draws store i t → IsTrie t → (span_at store i).height ≤ 63 → ((span_at store i).height ≡ 0 → ⊥) → HasHalves store i
unfolding Draws IsTrie
has-halves-of store i (Leaf l rows) e d is low some = absurd (some (sym (ap (λ (m : Label). m.height) d.0.label) ∙ is.lowest))
has-halves-of store i (Fork l x y) e d is low some =
    let f : IsForkOf l (label_of x) (label_of y) = is.0 in
    let height : (span_at store i).height ≡ suc f.half = sym (ap (λ (m : Label). m.height) d.0.label) ∙ f.higher in
    let left-low : (label_of x).height ≤ 63 = omega (arith, height, low, f.first_low) in
    let right-low : (label_of y).height ≤ 63 = omega (arith, height, low, f.second_low) in
    record {
      half = f.half;
      higher = height;
      first_low = omega (arith, ap (λ (m : Label). m.height) (labelled store (span_at store i).left x d.1).label, f.first_low);
      second_low = omega (arith, ap (λ (m : Label). m.height) (labelled store (span_at store i).right y d.2).label, f.second_low);
      left = drawn-stands store (span_at store i).left x d.1 is.1 left-low;
      right = drawn-stands store (span_at store i).right y d.2 is.2 right-low;
      tree =
          e ∙ ap (λ (m : Label). Fork m x y) d.0.label ∙ ap (λ (t : Trie). Fork (label_at store i) t y) (sym (trie-is store (span_at store i).left x d.1 is.1 left-low))
          ∙ ap (λ (t : Trie). Fork (label_at store i) (trie store (span_at store i).left) t) (sym (trie-is store (span_at store i).right y d.2 is.2 right-low));
    }

-- a root of a tree whose height isn't 0 has halves
pub has-halves : (store : Store) (i : ℕ) → Stands store i → ((span_at store i).height ≡ 0 → ⊥) → HasHalves store i
has-halves store i s some = has-halves-of store i (trie store i) refl s.drawn s.is s.low some

-- a tree node of one key
pub record HasTip (store : Store) (i : ℕ) : Type 0 where
  -- its tree is a leaf with its rows
  pub tree : trie store i ≡ Leaf (label_at store i) (tip_rows store i)
  -- it counts its rows
  pub counted : (span_at store i).count ≡ length (tip_rows store i)
  -- if it counts any, its row is there
  pub row_within : 0 < (span_at store i).count → (span_at store i).right < length store.rows

has-tip-of : (store : Store) (i : ℕ) (t : Trie) → trie store i ≡ t → Draws store i t → IsTrie t → (span_at store i).height ≡ 0 → HasTip store i
unfolding Draws IsTrie
has-tip-of store i (Leaf l rows) e d is none = record {
  tree = e ∙ ap (λ (m : Label). Leaf m rows) d.0.label ∙ ap (λ (rs : List RowValue). Leaf (label_at store i) rs) d.1.listed;
  counted = sym (ap (λ (m : Label). m.count) d.0.label) ∙ is.counted ∙ ap length d.1.listed;
  row_within = d.1.within;
}
has-tip-of store i (Fork l x y) e d is none = absurd (omega (arith, ap (λ (m : Label). m.height) d.0.label, is.0.higher, none))

-- a root of a tree whose height is 0 is a tree node of one key
pub has-tip : (store : Store) (i : ℕ) → Stands store i → (span_at store i).height ≡ 0 → HasTip store i
has-tip store i s none = has-tip-of store i (trie store i) refl s.drawn s.is none

-- ---- a store that grows
module _ (a b : Store) (g : Grows a b) where
  label-kept : (i : ℕ) → i < length a.spans → (span_at a i).edit < length a.keys → label_at b i ≡ label_at a i
  label-kept i h m =
      let e : span_at b i ≡ span_at a i = g.spans.same i h in
      let k : edit_key b (span_at a i).edit ≡ edit_key a (span_at a i).edit = g.keys.same (span_at a i).edit m in
      ap (λ (s : Span). record { key = edit_key b s.edit; height = s.height; version = suc s.edit; count = s.count; weight = weight_in s }) e
      ∙ ap (λ (n : ℕ). record { key = n; height = (span_at a i).height; version = suc (span_at a i).edit; count = (span_at a i).count; weight = weight_in (span_at a i) }) k

  labelled-kept : (i : ℕ) (l : Label) → IsLabelled a i l → IsLabelled b i l
  labelled-kept i l is =
      let e : span_at b i ≡ span_at a i = g.spans.same i is.within in
      record {
        within = omega (arith, g.spans.longer, is.within);
        made = omega (arith, ap (λ (s : Span). s.edit) e, g.keys.longer, is.made);
        label = is.label ∙ sym (label-kept i is.within is.made);
      }

  take-one : (n : ℕ) (r s : RowValue) → (0 < n → s ≡ r) → take n (s ∷ []) ≡ take n (r ∷ [])
  take-one zero r s h = refl
  take-one (suc n) r s h = ap (λ (q : RowValue). q ∷ take n []) (h (omega arith))

  tip-kept : (i : ℕ) (rows : List RowValue) → i < length a.spans → IsTipOf a i rows → IsTipOf b i rows
  tip-kept i rows h is =
      let e : span_at b i ≡ span_at a i = g.spans.same i h in
      record {
        within = λ some. omega (arith, ap (λ (s : Span). s.right) e, is.within (omega (arith, ap (λ (s : Span). s.count) e, some)), g.rows.longer);
        listed =
            is.listed
            ∙ sym (ap (λ (s : Span). take s.count (row_at b s.right ∷ [])) e
            ∙ take-one (span_at a i).count (row_at a (span_at a i).right) (row_at b (span_at a i).right) (λ some. g.rows.same (span_at a i).right (is.within some)));
      }

  -- a tree node still draws the tree that it drew
  pub draws-kept : (i : ℕ) (t : Trie) → Draws a i t → Draws b i t
  unfolding Draws
  draws-kept i (Leaf l rows) d = (labelled-kept i l d.0, tip-kept i rows d.0.within d.1)
  draws-kept i (Fork l x y) d =
      let e : span_at b i ≡ span_at a i = g.spans.same i d.0.within in (
        labelled-kept i l d.0,
        subst (λ (s : Span). Draws b s.left x) (sym e) (draws-kept (span_at a i).left x d.1),
        subst (λ (s : Span). Draws b s.right y) (sym e) (draws-kept (span_at a i).right y d.2),
      )

  low-label : (i : ℕ) → Stands a i → (label_of (trie a i)).height ≤ 63
  low-label i s = omega (arith, ap (λ (m : Label). m.height) (stands-label a i s), s.low)

  -- the root of a tree stays one
  pub stands-kept : (i : ℕ) → Stands a i → Stands b i
  stands-kept i s = drawn-stands b i (trie a i) (draws-kept i (trie a i) s.drawn) s.is (low-label i s)

  -- its tree stays the same
  pub trie-kept : (i : ℕ) → Stands a i → trie b i ≡ trie a i
  trie-kept i s = trie-is b i (trie a i) (draws-kept i (trie a i) s.drawn) s.is (low-label i s)

  -- so does the tree node itself
  pub span-kept : (i : ℕ) → Stands a i → span_at b i ≡ span_at a i
  span-kept i s = g.spans.same i (stands-within a i s)
