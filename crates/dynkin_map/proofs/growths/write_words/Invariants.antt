use Rattle.std.proofs.Common.{◌≡◌, ◌≤◌, ◌<◌, ◌*◌, ◌^◌, ℕ, suc, pos, length, unsigned_abs}
use Rattle.std.specs.Prelude.{slice_index_or}
use Rattle.definitions.specs.Sums.{sum_below}
use Rattle.dynkin_map.specs.Table.{majorant_sum_with}
use Rattle.dynkin_map.proofs.growths.write_words.Given as goal

abbrev pub invariant-loop-before : goal.invariant-loop-before
invariant-loop-before l = record {
  values : (h : ℕ) → h < length l.sum → slice_index_or l.sum h (pos 0) ≡ sum_below l.before (λ i. majorant_sum_with l.table l.k (suc i) (suc h));
  bound : (h : ℕ) → h < length l.sum → unsigned_abs (slice_index_or l.sum h (pos 0)) ≤ l.before * 2 ^ 90;
}
