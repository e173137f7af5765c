-- What the code reads of the tree.
use Rattle.std.proofs.Common.{◌≡◌, ℕ, ◌<◌, ◌^◌, length, get_or, ap, arith}
use Rattle.std.proofs.lemmas.List.{get_or_read}
use Rattle.std.specs.Vec.{vec_len}
use Rattle.std.proofs.lemmas.List.Elements.{All-get_or}
use Rattle.definitions.specs.Rows.{RowValue}
use Rattle.timeline.specs.declared.span.Span.{Span}
use Rattle.timeline.specs.declared.tree.Tree.{Tree}
use Rattle.timeline.specs.Stores.{store_of, span_at, row_at, edit_key, no_span, no_row, trie, Stands}
use Rattle.timeline.specs.Tries.{rows_of}
use Rattle.timeline.specs.Puts.{AreFit}
use Rattle.timeline.proofs.Joins.{size-of}
use Rattle.timeline.proofs.Drawings.{stands-within, stands-made}

-- the root of a tree has a place that the code can read
pub span-place : (tree : Tree) (i : ℕ) → Stands (store_of tree) i → i < vec_len tree.spans
span-place tree i s = omega (arith, stands-within (store_of tree) i s, tree.spans.ok.0)

-- what the code reads at the place of a root is this tree node
pub span-read : (tree : Tree) (i : ℕ) (s : Span) → Stands (store_of tree) i → s ≡ get_or tree.spans.items i s → s ≡ span_at (store_of tree) i
span-read tree i s stands e = get_or_read tree.spans.items i s (stands-within (store_of tree) i stands) e no_span

-- each key has a place that the code can read
pub key-place : (tree : Tree) (i : ℕ) → i < length tree.keys.items → i < vec_len tree.keys
key-place tree i h = omega (arith, h, tree.keys.ok.0)

-- what the code reads at the place of a key is this key
pub key-read : (tree : Tree) (i k : ℕ) → i < length tree.keys.items → k ≡ get_or tree.keys.items i k → k ≡ edit_key (store_of tree) i
key-read tree i k h e = get_or_read tree.keys.items i k h e 0

-- each row has a place that the code can read
pub row-place : (tree : Tree) (i : ℕ) → i < length tree.rows.items → i < vec_len tree.rows
row-place tree i h = omega (arith, h, tree.rows.ok.0)

-- what the code reads at the place of a row is this row
pub row-read : (tree : Tree) (i : ℕ) (r : RowValue) → i < length tree.rows.items → r ≡ get_or tree.rows.items i r → r ≡ row_at (store_of tree) i
row-read tree i r h e = get_or_read tree.rows.items i r h e no_row

-- the edit of a tree node that was read
pub made-read : (tree : Tree) (i : ℕ) (s : Span) → Stands (store_of tree) i → s ≡ span_at (store_of tree) i → s.edit < length tree.keys.items
made-read tree i s stands e = omega (arith, ap (λ (w : Span). w.edit) e, stands-made (store_of tree) i stands)

-- what was read fits its types
pub key-low : (tree : Tree) (i k : ℕ) → AreFit (store_of tree) → Stands (store_of tree) i → k ≡ edit_key (store_of tree) (span_at (store_of tree) i).edit → k < 2 ^ 63
key-low tree i k fit stands e =
    omega (arith, e, All-get_or (λ (n : ℕ). n < 2 ^ 63) tree.keys.items (span_at (store_of tree) i).edit 0 (stands-made (store_of tree) i stands) fit.keys)

-- a root that was read, of a tree of fewer than 2 ^ 32 rows, has a count below 2 ^ 64
pub size-read : (tree : Tree) (i : ℕ) (s : Span) → Stands (store_of tree) i → s ≡ span_at (store_of tree) i → length (rows_of (trie (store_of tree) i)) < 2 ^ 32 → s.count < 2 ^ 64
size-read tree i s stands e room = omega (arith, ap (λ (w : Span). w.count) e, size-of (store_of tree) i stands, room)

-- the number of the edit of a root that was read is below 2 ^ 64
pub edit-read : (tree : Tree) (i : ℕ) (s : Span) → Stands (store_of tree) i → s ≡ span_at (store_of tree) i → s.edit < 2 ^ 64
edit-read tree i s stands e = omega (arith, made-read tree i s stands e, tree.keys.ok.0)
