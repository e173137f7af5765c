-- Where the rows with some keys are in a tree: the keys that agree with a key but for the last digits.
use Rattle.std.specs.Prelude.{◌≡◌, ℕ, ◌+◌, ◌/◌, ◌≤◌, ◌^◌, List, [], length, Option, Some, None}
use Rattle.definitions.specs.Rows.{RowValue}
use Rattle.dyadic.specs.Nodes.{NodeValue, low_of}
use Rattle.timeline.specs.Keys.{key_at, keyed_in}
use Rattle.timeline.specs.Moments.{since}
use Rattle.timeline.specs.Pasts.{PastValue, rows_at}
use Rattle.timeline.specs.Tries.{rows_of, last_in}
use Rattle.timeline.specs.Stores.{Store, span_at, edit_key, trie, Stands}
use Rattle.timeline.specs.Views.{lowest}
use Rattle.timeline.specs.Timelines.{IsTimeline, past_in}

-- [a, b) has only keys that agree with k but for the last d digits
pub record IsWithin (k d a b : ℕ) : Type 0 where
  pub from : lowest k d ≤ a
  pub to : b ≤ lowest k d + 2 ^ d

-- of these rows, those with such keys are under the tree node at j, which has only such keys; so are the versions that touched them
pub record IsPlace (store : Store) (rows : List RowValue) (last : ℕ → ℕ → ℕ) (k d j : ℕ) : Type 0 where
  pub stands : Stands store j
  pub low : (span_at store j).height ≤ d
  pub key : edit_key store (span_at store j).edit / 2 ^ d ≡ k / 2 ^ d
  pub few : length (rows_of (trie store j)) ≤ length rows
  pub keyed : (a b : ℕ) → IsWithin k d a b → keyed_in a b rows ≡ keyed_in a b (rows_of (trie store j))
  pub latest : (a b : ℕ) → IsWithin k d a b → last a b ≡ last_in a b (trie store j)

-- none of these rows has such a key, and no version touched one
pub record IsBare (rows : List RowValue) (last : ℕ → ℕ → ℕ) (k d : ℕ) : Type 0 where
  pub keyed : (a b : ℕ) → IsWithin k d a b → keyed_in a b rows ≡ []
  pub latest : (a b : ℕ) → IsWithin k d a b → last a b ≡ 0

-- the place of the rows with such keys, where any was touched
abbrev pub IsPlaced : Store → List RowValue → (ℕ → ℕ → ℕ) → ℕ → ℕ → Option ℕ → Type 0
IsPlaced store rows last k d None = IsBare rows last k d
IsPlaced store rows last k d (Some j) = IsPlace store rows last k d j

-- the place of what is under the tree node at i
abbrev pub IsPlacedUnder : Store → ℕ → ℕ → ℕ → Option ℕ → Type 0
IsPlacedUnder store i k d at = IsPlaced store (rows_of (trie store i)) (λ a b. last_in a b (trie store i)) k d at

-- the first key of a node
abbrev pub key_in : NodeValue → ℕ
key_in node = key_at (low_of node) 0

-- how many last digits of its keys differ
abbrev pub digits_of : NodeValue → ℕ
digits_of node = node.height + 31

-- the rows of a version in a node
pub record NodeViewValue : Type 0 where
  pub past : PastValue
  pub version : ℕ
  pub node : NodeValue

-- the place of the rows of version v in a node
pub record IsView (store : Store) (roots : List ℕ) (v : ℕ) (node : NodeValue) (at : Option ℕ) : Type 0 where
  pub line : IsTimeline store roots
  pub within : v ≤ length store.keys
  pub placed : IsPlaced store (rows_at (past_in store roots) v) (λ a b. since a b store.keys v) (key_in node) (digits_of node) at
