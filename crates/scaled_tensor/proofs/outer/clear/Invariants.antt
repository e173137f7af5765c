use Rattle.std.proofs.Common.{◌≡◌, ◌≤◌, ◌<◌, ◌⊎◌, ℕ, get_or, pos, unsigned_abs}
use Rattle.std.specs.Prelude.{All}
use Rattle.definitions.specs.Signature.{limit}
use Rattle.scaled_tensor.proofs.outer.clear.Given as goal

abbrev pub invariant-loop-at : goal.invariant-loop-at
invariant-loop-at l = record {
  cleared : (i : ℕ) → l.from ≤ i → i < l.at → get_or l.out i (pos 0) ≡ pos 0;
  others : (i : ℕ) → (i < l.from) ⊎ (l.at ≤ i) → get_or l.out i (pos 0) ≡ get_or l.initial.out i (pos 0);
  ends : (l.at ≤ l.to) ⊎ (l.at ≡ l.from);
  range : All (λ z. unsigned_abs z ≤ limit) l.initial.out → All (λ z. unsigned_abs z ≤ limit) l.out;
}
