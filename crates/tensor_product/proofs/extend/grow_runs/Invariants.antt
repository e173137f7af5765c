use Rattle.std.proofs.Common.{◌≡◌, ◌+◌, ◌*◌, ◌≤◌, ◌<◌, ◌+ℤ◌, ◌*ℤ◌, ℕ, length, get_or, pos}
use Rattle.tensor_product.proofs.extend.grow_runs.Given as goal

abbrev pub invariant-loop-q : goal.invariant-loop-q
invariant-loop-q g l = record {
  within : l.q ≤ l.count;
  at_is : l.at ≡ l.q * length l.x;
  rest : (i : ℕ) → i < l.q → get_or l.sums i (pos 0) ≡ get_or l.initial.sums i (pos 0);
  run : (i a : ℕ) → l.q ≤ i → i < l.count → a < length l.x → get_or l.sums (i * length l.x + a) (pos 0) ≡ get_or l.initial.sums i (pos 0) *ℤ get_or l.x a (pos 0) +ℤ pos l.ways *ℤ get_or l.level (i * length l.x + a) (pos 0);
}

abbrev pub decreases-loop-q : goal.decreases-loop-q
decreases-loop-q g l = l.q
