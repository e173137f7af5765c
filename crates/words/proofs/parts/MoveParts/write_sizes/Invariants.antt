use Rattle.std.proofs.Common.{◌≡◌, ◌<◌, ◌≤◌, ◌^◌, ℕ, [], get_or}
use Rattle.definitions.specs.Moves.{total}
use Rattle.words.specs.Sizes.{size_at}
use Rattle.words.proofs.parts.MoveParts.write_sizes.Given as goal

abbrev pub invariant-loop-k : goal.invariant-loop-k
invariant-loop-k l = record {
  scale : l.scale ≡ 2 ^ l.k;
  front : (i : ℕ) → i < l.k → get_or l.sizes i 0 ≡ size_at i (get_or l.self i []);
  first : 0 < l.k → get_or l.sizes 0 0 ≤ 2 ^ 63;
  totals : (i : ℕ) → i < l.k → total (get_or l.self i []) ≤ 2 ^ 95;
  small : (i : ℕ) → i < l.k → get_or l.sizes i 0 ≤ 2 ^ 102;
}
