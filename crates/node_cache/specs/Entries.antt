-- The entries of the cache, the most recent first, and what they are after a call.
use Rattle.std.specs.Prelude.{ℕ, ◌≤◌, Bool, not, ◌&&◌, nat_eq, List, ◌∷◌, map, filter, length, take, Option}
use Rattle.std.specs.List.{find, IsDistinct}
use Rattle.std.specs.Option.{option_map, option_map_or}
use Rattle.std.specs.Arc.{arc_value}
use Rattle.std.specs.declared.sync.Arc.{Arc}
use Rattle.lru.specs.LruCache.{LruCache}
use Rattle.words.specs.Capacities.{most_capacity}
use Rattle.tensor_product.specs.Sigs.{SigValue}
use Rattle.dyadic.specs.Nodes.{NodeValue}

-- a kept signature: that of a node's rows at the version `since`
pub record Entry : Type 0 where
  pub node : NodeValue
  pub since : ℕ
  pub sig : SigValue

-- at most so many entries, the most recent first
pub record CacheValue : Type 0 where
  pub capacity : ℕ
  pub entries : List Entry

-- the entry is that of the pair of this node and version
abbrev pub is_of : NodeValue → ℕ → Entry → Bool
is_of node since entry = nat_eq node.index entry.node.index && nat_eq node.height entry.node.height && nat_eq since entry.since

-- the two entries are of one pair
abbrev pub are_of_one_pair : Entry → Entry → Bool
are_of_one_pair e f = is_of e.node e.since f

-- a cache that is served: 1 to 16384 entries at most, no two of one pair of a node and a version
pub record IsCache (cache : CacheValue) : Type 0 where
  pub some : 1 ≤ cache.capacity
  pub within : cache.capacity ≤ most_capacity
  pub room : length cache.entries ≤ cache.capacity
  pub apart : IsDistinct are_of_one_pair cache.entries

-- the entry of a pair
abbrev pub entry_of : NodeValue → ℕ → List Entry → Option Entry
entry_of node since entries = find (is_of node since) entries

-- the signature of a pair
abbrev pub sig_of : NodeValue → ℕ → List Entry → Option SigValue
sig_of node since entries = option_map (λ e. e.sig) (entry_of node since entries)

-- the other entries, in their order
abbrev pub without_pair : NodeValue → ℕ → List Entry → List Entry
without_pair node since entries = filter (λ e. not (is_of node since e)) entries

-- a pair that is there goes to the front
abbrev pub promoted : NodeValue → ℕ → List Entry → List Entry
promoted node since entries = option_map_or (λ e. e ∷ without_pair node since entries) (entry_of node since entries) entries

-- a pair goes to the front with this signature, whether or not it was there, and past the capacity the last entry is dropped
abbrev pub kept : NodeValue → ℕ → SigValue → ℕ → List Entry → List Entry
kept node since sig capacity entries =
    take capacity (record { node = node; since = since; sig = sig } ∷ without_pair node since entries)

-- what a map from pairs to shared signatures stands for
abbrev pub entry_at : {Z : Type 0} → (NodeValue × ℕ) × Arc SigValue Z → Entry
entry_at e = record { node = e.0.0; since = e.0.1; sig = arc_value e.1 }

-- the cache that a map with this capacity stands for
abbrev pub cache_of : {Z : Type 0} → LruCache (NodeValue × ℕ) (Arc SigValue Z) → CacheValue
cache_of c = record { capacity = c.cap; entries = map entry_at c.entries }
