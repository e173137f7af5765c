use Rattle.std.proofs.Common.{◌≤◌, ◌<◌, ℕ, get_or, pos, unsigned_abs}
use Rattle.scaled_tensor.proofs.log_tensor.all_within.Given as goal

abbrev pub invariant-loop-value : goal.invariant-loop-value
invariant-loop-value l = (i : ℕ) → i < l.value-index → unsigned_abs (get_or l.values i (pos 0)) ≤ l.bound
