-- What a new version adds to the tree nodes.
use Rattle.std.specs.Prelude.{◌≡◌, ℕ, suc, ◌+◌, ◌<◌, ◌≤◌, ◌^◌, if◌then◌else◌, List, [], ◌∷◌, ◌++◌, All, length, slice_index_or, Option, Some, None}
use Rattle.definitions.specs.Moves.{move_weight}
use Rattle.definitions.specs.Rows.{RowValue, lies_in}
use Rattle.timeline.specs.declared.span.Span.{Span}
use Rattle.timeline.specs.Keys.{with_at}
use Rattle.timeline.specs.Tries.{Trie, label_of, rows_of, last_in, IsTrie}
use Rattle.timeline.specs.Stores.{Store, no_span, no_row, span_at, edit_key, weight_in, trie, Stands}

-- the elements of a list stay where they are
pub record Keeps {A : Type 0} (d : A) (xs ys : List A) : Type 0 where
  pub longer : length xs ≤ length ys
  pub same : (i : ℕ) → i < length xs → slice_index_or ys i d ≡ slice_index_or xs i d

pub record Grows (a b : Store) : Type 0 where
  pub spans : Keeps no_span a.spans b.spans
  pub rows : Keeps no_row a.rows b.rows
  pub keys : Keeps 0 a.keys b.keys

-- more tree nodes, of the same rows and edits
pub record GainsSpans (a b : Store) : Type 0 where
  pub spans : Keeps no_span a.spans b.spans
  pub rows : b.rows ≡ a.rows
  pub keys : b.keys ≡ a.keys

-- a row's birth and weight have a bound
pub record IsFit (row : RowValue) : Type 0 where
  pub young : row.birth < 2 ^ 31
  pub light : move_weight row.x ≤ 2 ^ 64

-- the rows and the keys have their bounds
pub record AreFit (store : Store) : Type 0 where
  pub rows : All IsFit store.rows
  pub keys : All (λ key. key < 2 ^ 63) store.keys

-- a tree node with these parts
pub record IsSpan (span : Span) (high l r number size mass : ℕ) : Type 0 where
  pub height : span.height ≡ high
  pub left : span.left ≡ l
  pub right : span.right ≡ r
  pub edit : span.edit ≡ number
  pub count : span.count ≡ size
  pub weight : weight_in span ≡ mass

-- the store with one more tree node, at the place j
pub record IsAppended (a b : Store) (span : Span) (j : ℕ) : Type 0 where
  pub place : j ≡ length a.spans
  pub spans : b.spans ≡ a.spans ++ span ∷ []
  pub rows : b.rows ≡ a.rows
  pub keys : b.keys ≡ a.keys

-- a new tree node at j is over those at l and r
pub record IsJoined (a b : Store) (half l r edit j : ℕ) : Type 0 where
  pub gains : GainsSpans a b
  pub within : j < length b.spans
  pub parts : IsSpan (span_at b j) (suc half) l r edit ((span_at a l).count + (span_at a r).count) (weight_in (span_at a l) + weight_in (span_at a r))

-- no row, or one
abbrev pub listed : Option RowValue → List RowValue
listed None = []
listed (Some row) = row ∷ []

-- a tree node of one key is at j
pub record IsTip (store : Store) (number : ℕ) (list : List RowValue) (j : ℕ) : Type 0 where
  pub stands : Stands store j
  pub lowest : (span_at store j).height ≡ 0
  pub edit : (span_at store j).edit ≡ number
  pub rows : rows_of (trie store j) ≡ list

-- more rows, each with its bounds, and more tree nodes
pub record GainsRows (a b : Store) : Type 0 where
  pub grows : Grows a b
  pub keys : b.keys ≡ a.keys
  pub fit : AreFit b

-- a tree of these rows, but with new ones in place of those of key k, at version v; before it other versions were the last ones that touched an interval
pub record IsChanged (k v : ℕ) (new old : List RowValue) (before : ℕ → ℕ → ℕ) (t : Trie) : Type 0 where
  pub is : IsTrie t
  pub key : (label_of t).key ≡ k
  pub version : (label_of t).version ≡ v
  pub rows : rows_of t ≡ with_at k new old
  pub last : (a b : ℕ) → last_in a b t ≡ (if lies_in a b k then v else before a b)

-- the tree node at j is that at i with the tip of an edit in place of what had its key
pub record IsPut (old new : Store) (limit i tip edit j : ℕ) : Type 0 where
  pub gains : GainsSpans old new
  pub stands : Stands new j
  pub low : (span_at new j).height ≤ limit
  pub changed : IsChanged (edit_key old edit) (suc edit) (rows_of (trie old tip)) (rows_of (trie old i)) (λ a b. last_in a b (trie old i)) (trie new j)
