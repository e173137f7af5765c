use Rattle.std.proofs.Common.{◌≡◌, ◌≤◌, length, take, All, map}
use Rattle.definitions.specs.Words.{up_to}
use Rattle.definitions.specs.Logarithm.{log_bound}
use Rattle.exp_log.proofs.logarithm.log_bounds.Given as goal

abbrev pub invariant-loop-k : goal.invariant-loop-k
invariant-loop-k l = record {
  eight : length l.factors ≡ 8;
  front : take l.k l.factors ≡ map log_bound (up_to l.k);
  some : All (λ f. 1 ≤ f) l.factors;
}
