use Rattle.std.proofs.Common.{◌≡◌, ◌+◌, ◌*◌, ◌≤◌, ◌<◌, ◌⊎◌, ◌+ℤ◌, ◌*ℤ◌, ℕ, length, get_or, pos, unsigned_abs}
use Rattle.std.specs.Prelude.{All}
use Rattle.definitions.specs.Signature.{limit}
use Rattle.scaled_tensor.proofs.outer.add_runs.Given as goal

abbrev pub invariant-loop-q : goal.invariant-loop-q
invariant-loop-q g l = record {
  at_is : l.at ≡ l.from + l.q * length l.right;
  run : (i r : ℕ) → i < l.q → r < length l.right → get_or l.out (l.from + (i * length l.right + r)) (pos 0) ≡ get_or l.initial.out (l.from + (i * length l.right + r)) (pos 0) +ℤ get_or l.left i (pos 0) *ℤ get_or l.right r (pos 0);
  others : (i : ℕ) → (i < l.from) ⊎ (l.at ≤ i) → get_or l.out i (pos 0) ≡ get_or l.initial.out i (pos 0);
  range : All (λ z. unsigned_abs z ≤ limit) l.initial.out → All (λ z. unsigned_abs z ≤ limit) l.out;
}
