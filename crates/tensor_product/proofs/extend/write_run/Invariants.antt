use Rattle.std.proofs.Common.{◌≡◌, ◌+◌, ◌≤◌, ◌<◌, ◌⊎◌, ◌+ℤ◌, ◌*ℤ◌, ℕ, get_or, pos}
use Rattle.tensor_product.proofs.extend.write_run.Given as goal

abbrev pub invariant-loop-a : goal.invariant-loop-a
invariant-loop-a g l = record {
  run : (i : ℕ) → i < l.a → get_or l.sums (l.at + i) (pos 0) ≡ l.sum *ℤ get_or l.x i (pos 0) +ℤ pos l.ways *ℤ get_or l.level (l.at + i) (pos 0);
  others : (i : ℕ) → (i < l.at) ⊎ (l.at + l.a ≤ i) → get_or l.sums i (pos 0) ≡ get_or l.initial.sums i (pos 0);
}
