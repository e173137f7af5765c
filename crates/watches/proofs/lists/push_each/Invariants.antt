use Rattle.std.specs.declared.alloc.Global.{Global}
use Rattle.std.proofs.Common.{◌≡◌, ◌≢◌, ℕ, ◌<◌, [], ◌∷◌, ◌++◌, length, slice_index, get_or, Vec}
use Rattle.watches.proofs.lists.push_each.Given as goal

abbrev pub invariant-loop-place : goal.invariant-loop-place
invariant-loop-place l = record {
  count : length l.lists ≡ length l.initial.lists;
  told : (p : ℕ) (d : Vec ℕ Global) → p < l.place-index → (get_or l.lists (slice_index l.places p) d).items ≡ (get_or l.initial.lists (slice_index l.places p) d).items ++ l.version ∷ [];
  others : (j : ℕ) (d : Vec ℕ Global) → ((p : ℕ) → p < l.place-index → slice_index l.places p ≢ j) → get_or l.lists j d ≡ get_or l.initial.lists j d;
}
