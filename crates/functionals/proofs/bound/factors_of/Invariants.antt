use Rattle.std.proofs.Common.{◌≡◌, ◌≤◌, length, take, All}
use Rattle.functionals.specs.Bounds.{eval_factor}
use Rattle.functionals.proofs.Shares.{factors_to}
use Rattle.functionals.proofs.bound.factors_of.Given as goal

abbrev pub invariant-loop-k : goal.invariant-loop-k
invariant-loop-k l = record {
  eight : length l.factors ≡ 8;
  front : take l.k l.factors ≡ factors_to (eval_factor l.f.extent.depth l.f.terms) l.k;
  some : All (λ m. 1 ≤ m) l.factors;
}
