-- What the tree nodes are in a timeline.
use Rattle.std.specs.Prelude.{◌≡◌, ℕ, suc, ◌<◌, ◌≤◌, ◌^◌, List, [], ◌∷◌, map, length, slice_index, slice_index_or}
use Rattle.definitions.specs.Rows.{RowValue}
use Rattle.timeline.specs.declared.tree.Tree.{Tree}
use Rattle.timeline.specs.Keys.{tick_of, with_at}
use Rattle.timeline.specs.Moments.{since}
use Rattle.timeline.specs.Pasts.{PastValue}
use Rattle.timeline.specs.Tries.{rows_of, last_in}
use Rattle.timeline.specs.Stores.{Store, store_of, span_at, edit_key, trie, Stands}
use Rattle.timeline.specs.Puts.{GainsSpans, AreFit}

-- the tree node at i is the root of a version, whose number is that of its edit and 1
pub record IsRoot (store : Store) (number i : ℕ) : Type 0 where
  pub stands : Stands store i
  pub edit : (span_at store i).edit ≡ number
  pub touched : (a b : ℕ) → last_in a b (trie store i) ≡ since a b store.keys (suc number)
  pub few : length (rows_of (trie store i)) ≤ suc number

abbrev pub AreRoots : Store → List ℕ → Type 0
AreRoots store roots = (edit : ℕ) → edit < length roots → IsRoot store edit (slice_index roots edit)

-- the root of each version, from version 1 on
pub record IsTimeline (store : Store) (roots : List ℕ) : Type 0 where
  pub versions : length roots ≡ length store.keys
  pub each : AreRoots store roots
  pub fit : AreFit store
  pub bound : length store.keys < 2 ^ 31

abbrev pub rows_below : Store → ℕ → List RowValue
rows_below store i = rows_of (trie store i)

abbrev pub past_in : Store → List ℕ → PastValue
past_in store roots = record { ticks = map tick_of store.keys; rows = [] ∷ map (rows_below store) roots }

abbrev pub past_of : Tree → List ℕ → PastValue
past_of tree roots = past_in (store_of tree) roots

-- the rows of the last version
abbrev pub last_rows : Store → List ℕ → List RowValue
last_rows store roots = slice_index_or ([] ∷ map (rows_below store) roots) (length roots) []

-- the tree node at j is the root of the next version, with a tip in it
pub record IsNext (old new : Store) (roots : List ℕ) (tip edit j : ℕ) : Type 0 where
  pub gains : GainsSpans old new
  pub root : IsRoot new edit j
  pub rows : rows_below new j ≡ with_at (edit_key old edit) (rows_below old tip) (last_rows old roots)
