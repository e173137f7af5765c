use Rattle.std.proofs.Common.{◌≤◌, ◌<◌, ℕ, get_or, pos, unsigned_abs}
use Rattle.piecewise.proofs.levels.all_within.Given as goal

abbrev pub invariant-loop-number : goal.invariant-loop-number
invariant-loop-number l = (i : ℕ) → i < l.number-index → unsigned_abs (get_or l.numbers i (pos 0)) ≤ l.bound
