use Rattle.std.proofs.Common.{◌≡◌, ◌≤◌, length, take, All}
use Rattle.dynkin_map.proofs.Factors.{factors_to}
use Rattle.piecewise.specs.Faults.{unfold_bound}
use Rattle.piecewise.proofs.unfolding.bounds_of.Given as goal

abbrev pub invariant-loop-k : goal.invariant-loop-k
invariant-loop-k l = record {
  eight : length l.factors ≡ 8;
  front : take l.k l.factors ≡ factors_to unfold_bound l.k;
  some : All (λ m. 1 ≤ m) l.factors;
}
