use Rattle.std.specs.declared.alloc.Global.{Global}
use Rattle.std.proofs.Common.{ℕ, ◌<◌, slice_index, get_or, Vec, vec_len, vec_capacity}
use Rattle.watches.specs.Lists.{AreSame}
use Rattle.watches.proofs.lists.reserve_each.Given as goal

abbrev pub invariant-loop-place : goal.invariant-loop-place
invariant-loop-place l = record {
  room : (p : ℕ) (d : Vec ℕ Global) → p < l.place-index → vec_len (get_or l.lists (slice_index l.places p) d) < vec_capacity (get_or l.lists (slice_index l.places p) d);
  same : AreSame l.initial.lists l.lists;
}
