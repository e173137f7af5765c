-- What holds of every cache holds after each call.
use Rattle.std.proofs.Common.{◌≡◌, ℕ, ◌≤◌, arith, refl, List, [], ◌∷◌, Option, None, Some, true, length-take}
use Rattle.std.specs.Bool.{OnFalse}
use Rattle.std.specs.List.{IsDistinct}
use Rattle.std.specs.Option.{option_map_or, is_some}
use Rattle.std.proofs.lemmas.Bool.Decides.{nat_tests}
use Rattle.tensor_product.specs.Sigs.{SigValue}
use Rattle.dyadic.specs.Nodes.{NodeValue}
use Rattle.words.specs.Capacities.{most_capacity}
use Rattle.node_cache.specs.Entries.{Entry, CacheValue, IsCache, is_of, entry_of, without_pair, promoted, kept}
use Rattle.node_cache.proofs.Apart.{apart-take, apart-without, apart-front, length-without, entry_of-found}

-- the cache with other entries, of the same capacity
abbrev pub with_entries : CacheValue → List Entry → CacheValue
with_entries cache entries = record { capacity = cache.capacity; entries = entries }

-- the entry that goes to the front
abbrev pub front : NodeValue → ℕ → SigValue → Entry
front node since sig = record { node = node; since = since; sig = sig }

-- a cache without entries is one, for capacities from 1 to 16384
pub IsCache-new : (capacity : ℕ) → 1 ≤ capacity → capacity ≤ most_capacity → IsCache (record { capacity = capacity; entries = [] })
unfolding IsDistinct
IsCache-new capacity some within = record { some = some; within = within; room = omega arith; apart = tt }

module _ (cache : CacheValue) (node : NodeValue) (since : ℕ) (is : IsCache cache) where
  -- a cache without an entry is one
  pub IsCache-without : IsCache (with_entries cache (without_pair node since cache.entries))
  IsCache-without = record {
    some = is.some;
    within = is.within;
    room = omega (arith, is.room, length-without node since cache.entries);
    apart = apart-without node since cache.entries is.apart;
  }

  by_entry : (o : Option Entry) → entry_of node since cache.entries ≡ o → IsCache (with_entries cache (option_map_or (λ e. e ∷ without_pair node since cache.entries) o cache.entries))
  by_entry None at = is
  by_entry (Some e) at =
      let found = entry_of-found node since cache.entries e at in
      record {
        some = is.some;
        within = is.within;
        room = omega (arith, is.room, found.1);
        apart = apart-front node since e cache.entries found.0 is.apart;
      }

  -- a cache whose entry went to the front is one
  pub IsCache-promoted : IsCache (with_entries cache (promoted node since cache.entries))
  IsCache-promoted = by_entry (entry_of node since cache.entries) refl

  of_itself : (sig : SigValue) → is_of node since (front node since sig) ≡ true
  of_itself sig = grind (arith, nat_tests)

  -- a cache that an entry was put into is one
  pub IsCache-kept : (sig : SigValue) → IsCache (with_entries cache (kept node since sig cache.capacity cache.entries))
  IsCache-kept sig = record {
    some = is.some;
    within = is.within;
    room = omega (arith, length-take cache.capacity (front node since sig ∷ without_pair node since cache.entries));
    apart = apart-take cache.capacity (front node since sig ∷ without_pair node since cache.entries) (apart-front node since (front node since sig) cache.entries (of_itself sig) is.apart);
  }

unmoved : (cache : CacheValue) (f : Entry → List Entry) (o : Option Entry) → OnFalse (is_some o) (with_entries cache (option_map_or f o cache.entries) ≡ cache)
unmoved cache f None = refl
unmoved cache f (Some e) = tt

-- where the pair is absent, nothing goes to the front
pub promoted-absent : (cache : CacheValue) (node : NodeValue) (since : ℕ) → OnFalse (is_some (entry_of node since cache.entries)) (with_entries cache (promoted node since cache.entries) ≡ cache)
promoted-absent cache node since = unmoved cache (λ e. e ∷ without_pair node since cache.entries) (entry_of node since cache.entries)
