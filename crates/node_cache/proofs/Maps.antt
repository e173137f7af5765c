-- The list of entries as that of the map from pairs to shared signatures.
use Rattle.std.proofs.Common.{◌≡◌, ◌∙◌, ℕ, zero, suc, ◌-◌, ◌≤◌, arith, refl, sym, ap, List, [], ◌∷◌, take, Option, None, Some, true, false, cond, not, inl, inr, take_all}
use Rattle.std.specs.Prelude.{map}
use Rattle.std.specs.List.{IsDistinct, AllByRecursion}
use Rattle.std.specs.Option.{option_map, option_map_or, is_some}
use Rattle.std.specs.Map.{lookup, lookup_entry, remove_entry}
use Rattle.std.specs.Arc.{arc_value}
use Rattle.std.specs.declared.sync.Arc.{Arc}
use Rattle.std.proofs.lemmas.Bool.{cases_Bool}
use Rattle.std.proofs.lemmas.List.{take-map}
use Rattle.lru.specs.LruCache.{LruCache, lru_cache, promoted as moved, put_entries}
use Rattle.definitions.proofs.Options.{is_some-map}
use Rattle.tensor_product.specs.Sigs.{SigValue}
use Rattle.dyadic.specs.Nodes.{NodeValue}
use Rattle.node_cache.specs.Entries.{Entry, IsCache, is_of, are_of_one_pair, entry_of, sig_of, without_pair, promoted, kept, entry_at, cache_of}
use Rattle.node_cache.proofs.Apart.{is_of-same, is_of-along, without-none, entry_of-found, entry_of-none}
use Rattle.node_cache.proofs.Kept.{with_entries, front}
use Rattle.node_cache.proofs.NodeTests.{is_pair, is_pair-is_of}

-- an entry of the map
abbrev pub Shared : Type 0 → Type 0
Shared Z = (NodeValue × ℕ) × Arc SigValue Z

-- where the first entry is of the pair, the later ones are the others
after_found : (node : NodeValue) (since : ℕ) (f : Entry) (es : List Entry) → is_of node since f ≡ true → AllByRecursion (λ g. are_of_one_pair f g ≡ false) es → without_pair node since es ≡ es
after_found node since f es here apart = without-none node since es (along es apart)
  where
    along : (gs : List Entry) → AllByRecursion (λ g. are_of_one_pair f g ≡ false) gs → AllByRecursion (λ g. is_of node since g ≡ false) gs
    along [] none = tt
    along (g ∷ gs) none = (is_of-along node since f g here ∙ none.0, along gs none.1)

module _ {Z : Type 0} (node : NodeValue) (since : ℕ) where
  tested : (e : Shared Z) → is_pair node since e.0 ≡ is_of node since (entry_at e)
  tested e = is_pair-is_of node since (entry_at e)

  entry_of-map : (es : List (Shared Z)) → entry_of node since (map entry_at es) ≡ option_map entry_at (lookup_entry (is_pair node since) es)
  entry_of-map [] = refl
  entry_of-map (e ∷ es) =
      elim (cases_Bool (is_pair node since e.0)) [
        | inl here ↦ ap (λ b. cond b (Some (entry_at e)) (entry_of node since (map entry_at es))) (sym (tested e) ∙ here)
            ∙ sym (ap (λ b. option_map entry_at (cond b (Some e) (lookup_entry (is_pair node since) es))) here)
        | inr other ↦ ap (λ b. cond b (Some (entry_at e)) (entry_of node since (map entry_at es))) (sym (tested e) ∙ other)
            ∙ entry_of-map es
            ∙ sym (ap (λ b. option_map entry_at (cond b (Some e) (lookup_entry (is_pair node since) es))) other)
      ]

  -- the signature of a pair is the one that the map has for it
  pub sig_of-map : (es : List (Shared Z)) → sig_of node since (map entry_at es) ≡ option_map arc_value (lookup (is_pair node since) es)
  sig_of-map [] = refl
  sig_of-map (e ∷ es) =
      elim (cases_Bool (is_pair node since e.0)) [
        | inl here ↦ ap (λ b. option_map (λ (x : Entry). x.sig) (cond b (Some (entry_at e)) (entry_of node since (map entry_at es)))) (sym (tested e) ∙ here)
            ∙ sym (ap (λ b. option_map arc_value (cond b (Some e.1) (lookup (is_pair node since) es))) here)
        | inr other ↦ ap (λ b. option_map (λ (x : Entry). x.sig) (cond b (Some (entry_at e)) (entry_of node since (map entry_at es)))) (sym (tested e) ∙ other)
            ∙ sig_of-map es
            ∙ sym (ap (λ b. option_map arc_value (cond b (Some e.1) (lookup (is_pair node since) es))) other)
      ]

  -- the pair has an entry where the map has the pair
  pub is_some-entry_of : (es : List (Shared Z)) → is_some (entry_of node since (map entry_at es)) ≡ is_some (lookup (is_pair node since) es)
  is_some-entry_of es =
      sym (is_some-map (λ (e : Entry). e.sig) (entry_of node since (map entry_at es))) ∙ ap is_some (sig_of-map es) ∙ is_some-map arc_value (lookup (is_pair node since) es)

  -- no pair stands twice, so that there is one entry to take out
  without-map : (es : List (Shared Z)) → IsDistinct are_of_one_pair (map entry_at es) → without_pair node since (map entry_at es) ≡ map entry_at (remove_entry (is_pair node since) es)
  unfolding IsDistinct
  without-map [] apart = refl
  without-map (e ∷ es) apart =
      elim (cases_Bool (is_pair node since e.0)) [
        | inl here ↦ (
            let at : is_of node since (entry_at e) ≡ true = sym (tested e) ∙ here in
            ap (λ b. cond (not b) (entry_at e ∷ without_pair node since (map entry_at es)) (without_pair node since (map entry_at es))) at
            ∙ after_found node since (entry_at e) (map entry_at es) at apart.0
            ∙ sym (ap (λ b. map entry_at (cond b es (e ∷ remove_entry (is_pair node since) es))) here))
        | inr other ↦ (
            ap (λ b. cond (not b) (entry_at e ∷ without_pair node since (map entry_at es)) (without_pair node since (map entry_at es))) (sym (tested e) ∙ other)
            ∙ ap (λ fs. entry_at e ∷ fs) (without-map es apart.1)
            ∙ sym (ap (λ b. map entry_at (cond b es (e ∷ remove_entry (is_pair node since) es))) other))
      ]

take-front : (n : ℕ) (e : Entry) (es : List Entry) → 1 ≤ n → e ∷ take (n - 1) es ≡ take n (e ∷ es)
take-front zero e es some = absurd (omega arith)
take-front (suc n) e es some = ap (λ k. e ∷ take k es) (omega arith)

module _ {Z : Type 0} (cache : LruCache (NodeValue × ℕ) (Arc SigValue Z)) (node : NodeValue) (since : ℕ) (is : IsCache (cache_of cache)) where
  -- taking a pair out of the map takes its entry out of the list
  pub cache_of-without : (new : LruCache (NodeValue × ℕ) (Arc SigValue Z)) → new ≡ lru_cache (remove_entry (is_pair node since) cache.entries) cache.cap
      → cache_of new ≡ with_entries (cache_of cache) (without_pair node since (cache_of cache).entries)
  cache_of-without new is_new = ap cache_of is_new ∙ ap (with_entries (cache_of cache)) (sym (without-map node since cache.entries is.apart))

  to_front : (o : Option (Shared Z)) → map entry_at (option_map_or (λ e. e ∷ remove_entry (is_pair node since) cache.entries) o cache.entries)
      ≡ option_map_or (λ e. e ∷ without_pair node since (map entry_at cache.entries)) (option_map entry_at o) (map entry_at cache.entries)
  to_front None = refl
  to_front (Some e) = ap (λ es. entry_at e ∷ es) (sym (without-map node since cache.entries is.apart))

  -- using a pair in the map brings its entry to the front
  pub cache_of-promoted : (new : LruCache (NodeValue × ℕ) (Arc SigValue Z)) → new ≡ lru_cache (moved (is_pair node since) cache.entries) cache.cap
      → cache_of new ≡ with_entries (cache_of cache) (promoted node since (cache_of cache).entries)
  cache_of-promoted new is_new =
      ap cache_of is_new
      ∙ ap (with_entries (cache_of cache))
      (to_front (lookup_entry (is_pair node since) cache.entries)
      ∙ ap (λ o. option_map_or (λ e. e ∷ without_pair node since (map entry_at cache.entries)) o (map entry_at cache.entries)) (sym (entry_of-map node since cache.entries)))

  put_cases : (sig : Arc SigValue Z) (o : Option (Shared Z)) → lookup_entry (is_pair node since) cache.entries ≡ o
      → map entry_at (option_map_or (λ e. (e.0, sig) ∷ remove_entry (is_pair node since) cache.entries) o (((node, since), sig) ∷ take (cache.cap - 1) cache.entries))
      ≡ kept node since (arc_value sig) cache.cap (map entry_at cache.entries)
  put_cases sig None at =
      let others : without_pair node since (map entry_at cache.entries) ≡ map entry_at cache.entries =
      entry_of-none node since (map entry_at cache.entries) (entry_of-map node since cache.entries ∙ ap (option_map entry_at) at) in
      ap (λ es. front node since (arc_value sig) ∷ es) (sym (take-map entry_at (cache.cap - 1) cache.entries))
      ∙ take-front cache.cap (front node since (arc_value sig)) (map entry_at cache.entries) is.some
      ∙ ap (λ es. take cache.cap (front node since (arc_value sig) ∷ es)) (sym others)
  put_cases sig (Some e) at =
      let found = entry_of-found node since (map entry_at cache.entries) (entry_at e) (entry_of-map node since cache.entries ∙ ap (option_map entry_at) at) in
      let same = is_of-same node since (entry_at e) found.0 in
      ap (λ es. entry_at (e.0, sig) ∷ es) (sym (without-map node since cache.entries is.apart))
      ∙ ap (λ n. front n e.0.1 (arc_value sig) ∷ without_pair node since (map entry_at cache.entries)) (sym same.0)
      ∙ ap (λ s. front node s (arc_value sig) ∷ without_pair node since (map entry_at cache.entries)) (sym same.1)
      ∙ sym (take_all cache.cap (front node since (arc_value sig) ∷ without_pair node since (map entry_at cache.entries)) (omega (arith, found.1, is.room)))

  -- putting a pair into the map puts its entry to the front, and drops the last one past the capacity
  pub cache_of-kept : (sig : Arc SigValue Z) (new : LruCache (NodeValue × ℕ) (Arc SigValue Z)) → new ≡ lru_cache (put_entries (λ pair. is_pair pair.0 pair.1) cache (node, since) sig) cache.cap
      → cache_of new ≡ with_entries (cache_of cache) (kept node since (arc_value sig) cache.cap (cache_of cache).entries)
  cache_of-kept sig new is_new = ap cache_of is_new ∙ ap (with_entries (cache_of cache)) (put_cases sig (lookup_entry (is_pair node since) cache.entries) refl)
