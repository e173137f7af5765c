use Rattle.std.proofs.Common.{◌≡◌, ◌≤◌, ◌<◌, ℕ, suc, pos, length, unsigned_abs}
use Rattle.std.specs.Prelude.{slice_index_or}
use Rattle.definitions.specs.Signature.{limit}
use Rattle.scaled_tensor.specs.Tensors.{coefficient}
use Rattle.dynkin_map.proofs.CoordinateSteps.{so_far}
use Rattle.dynkin_map.proofs.coordinates.write_coordinates.Given as goal

abbrev pub invariant-loop-k : goal.invariant-loop-k
invariant-loop-k l = record {
  values : (h : ℕ) → h < length l.sums → slice_index_or l.sums h (pos 0) ≡ so_far l.p.tensor.extent (coefficient l.p.tensor) l.k (suc h);
  range : (h : ℕ) → h < length l.sums → unsigned_abs (slice_index_or l.sums h (pos 0)) ≤ limit;
}
