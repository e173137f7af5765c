use Rattle.std.proofs.Common.{◌≡◌, ◌<◌, ◌≤◌, ℕ, [], get_or}
use Rattle.definitions.specs.Moves.{total}
use Rattle.words.proofs.parts.MoveParts.plain.Given as goal

abbrev pub invariant-loop-k : goal.invariant-loop-k
invariant-loop-k l = (i : ℕ) → 1 ≤ i → i < l.k → total (get_or l.self i []) ≡ 0
