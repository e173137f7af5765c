use Rattle.std.proofs.Common.{◌≡◌, ◌≤◌, ◌+◌, ◌^◌, ℕ, get_or, take, pos}
use Rattle.definitions.specs.Words.{shorter, number}
use Rattle.scaled_tensor.proofs.tensor.read_along.Given as goal

abbrev pub invariant-loop-at : goal.invariant-loop-at
invariant-loop-at l = record {
  before : l.before ≡ shorter l.width l.at;
  level : l.level ≡ l.width ^ l.at;
  index : l.number ≡ number l.width (take l.at l.word);
  read : (i : ℕ) → i ≤ l.at → get_or l.values i (pos 0) ≡ get_or l.coefficients (shorter l.width i + number l.width (take i l.word)) (pos 0);
}
