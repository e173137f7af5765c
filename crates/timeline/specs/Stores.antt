-- The tree nodes of all versions, and the tree that each is the root of.
use Rattle.std.specs.Prelude.{◌≡◌, ℕ, zero, suc, ◌+◌, ◌*◌, ◌<◌, ◌≤◌, ◌^◌, nat_eq, if◌then◌else◌, List, [], ◌∷◌, length, take, slice_index_or}
use Rattle.definitions.specs.Rows.{RowValue}
use Rattle.timeline.specs.declared.span.Span.{Span}
use Rattle.timeline.specs.declared.tree.Tree.{Tree}
use Rattle.timeline.specs.Tries.{Label, Trie, Leaf, Fork, IsTrie}

-- the tree nodes, the rows, and the keys that the edits touched
pub record Store : Type 0 where
  pub spans : List Span
  pub rows : List RowValue
  pub keys : List ℕ

abbrev pub store_of : Tree → Store
store_of tree = record { spans = tree.spans.items; rows = tree.rows.items; keys = tree.keys.items }

abbrev pub no_span : Span
no_span = record { weight_low = 0; weight_high = 0; height = 0; left = 0; right = 0; edit = 0; count = 0 }

abbrev pub no_row : RowValue
no_row = record { name = []; tick = 0; birth = 0; x = [] }

abbrev pub span_at : Store → ℕ → Span
span_at store i = slice_index_or store.spans i no_span

abbrev pub row_at : Store → ℕ → RowValue
row_at store i = slice_index_or store.rows i no_row

abbrev pub edit_key : Store → ℕ → ℕ
edit_key store edit = slice_index_or store.keys edit 0

-- the weight of the rows of a tree node
abbrev pub weight_in : Span → ℕ
weight_in span = span.weight_low + span.weight_high * 2 ^ 64

-- what is written at a tree node
abbrev pub label_at : Store → ℕ → Label
label_at store i = record {
  key = edit_key store (span_at store i).edit;
  height = (span_at store i).height;
  version = suc (span_at store i).edit;
  count = (span_at store i).count;
  weight = weight_in (span_at store i);
}

-- the rows of a tree node of one key
abbrev pub tip_rows : Store → ℕ → List RowValue
tip_rows store i = take (span_at store i).count (row_at store (span_at store i).right ∷ [])

-- the tree of at most that many forks on a path below a tree node
unfoldable pub trie_below : Store → ℕ → ℕ → Trie
trie_below store zero i = Leaf (label_at store i) (tip_rows store i)
trie_below store (suc n) i =
    if nat_eq (span_at store i).height 0 then Leaf (label_at store i) (tip_rows store i)
    else Fork (label_at store i) (trie_below store n (span_at store i).left) (trie_below store n (span_at store i).right)

-- the tree of a tree node
unfoldable pub trie : Store → ℕ → Trie
trie store i = trie_below store 63 i

-- the tree node at i is there, with this label
pub record IsLabelled (store : Store) (i : ℕ) (l : Label) : Type 0 where
  pub within : i < length store.spans
  pub made : (span_at store i).edit < length store.keys
  pub label : l ≡ label_at store i

-- the tree node at i has these rows
pub record IsTipOf (store : Store) (i : ℕ) (rows : List RowValue) : Type 0 where
  pub within : 0 < (span_at store i).count → (span_at store i).right < length store.rows
  pub listed : rows ≡ tip_rows store i

-- the tree nodes from i on draw this tree
unfoldable pub Draws : Store → ℕ → Trie → Type 0
Draws store i (Leaf l rows) = IsLabelled store i l × IsTipOf store i rows
Draws store i (Fork l x y) = IsLabelled store i l × Draws store (span_at store i).left x × Draws store (span_at store i).right y

-- the tree node at i is the root of its tree
pub record Stands (store : Store) (i : ℕ) : Type 0 where
  pub low : (span_at store i).height ≤ 63
  pub drawn : Draws store i (trie store i)
  pub is : IsTrie (trie store i)
