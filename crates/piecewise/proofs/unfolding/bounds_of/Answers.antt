use Rattle.std.proofs.Common.{◌≡◌, ◌<◌, ◌≤◌, ◌*◌, ◌+◌, ◌∙◌, ℕ, suc, ap, length-set, arith}
use Rattle.definitions.specs.Logarithm.{log_bound}
use Rattle.dynkin_map.proofs.Factors.{factors_to-step}
use Rattle.piecewise.specs.Faults.{unfold_bound}
use Rattle.piecewise.proofs.Rooms.{unfold_bound-some}
use Rattle.piecewise.proofs.unfolding.bounds_of.Goals as goal

pub loop-k-preserved : goal.loop-k-preserved
loop-k-preserved c =
    let k : ℕ = c.loop-k.k in
    let small : k < 8 = omega (arith, c.loop-k-test.true, c.depth-depth.ensures.value, c.depth-depth.ensures.shape.within_depth) in
    let bound : c.log_bound.result ≡ log_bound (suc k) = c.log_bound.ensures ∙ (let e : k + 1 ≡ suc k = omega arith in ap log_bound e) in
    let value : 2 * c.log_bound.result ≡ unfold_bound (suc k) = ap (λ (n : ℕ). 2 * n) bound in
    let least : 1 ≤ 2 * c.log_bound.result = omega (arith, value, unfold_bound-some k small) in
    let next = factors_to-step unfold_bound c.loop-k.factors k (2 * c.log_bound.result) (omega (arith, c.loop-k.invariant.eight, small)) least c.loop-k.invariant.front c.loop-k.invariant.some value in
    record { eight = length-set c.loop-k.factors k (2 * c.log_bound.result) ∙ c.loop-k.invariant.eight; front = next.0; some = next.1 }
