use Rattle.std.proofs.Common.{◌≡◌, ◌≤◌, length, take, All}
use Rattle.dynkin_map.specs.Coordinates.{lie_bound}
use Rattle.dynkin_map.proofs.Factors.{factors_to}
use Rattle.dynkin_map.proofs.bounds.bound_of.Given as goal

abbrev pub invariant-loop-k : goal.invariant-loop-k
invariant-loop-k l = record {
  eight : length l.factors ≡ 8;
  front : take l.k l.factors ≡ factors_to (lie_bound l.fn.shape) l.k;
  some : All (λ m. 1 ≤ m) l.factors;
}
