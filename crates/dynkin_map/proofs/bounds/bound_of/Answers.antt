use Rattle.std.proofs.Common.{◌≡◌, ◌<◌, ◌≤◌, ◌*◌, ◌+◌, ◌-◌, ◌∙◌, ℕ, suc, ap, ap₂, max, length-set, arith}
use Rattle.std.specs.Prelude.{slice_index_or}
use Rattle.definitions.specs.Logarithm.{log_bound}
use Rattle.dynkin_map.specs.Table.{growth_of}
use Rattle.dynkin_map.specs.Coordinates.{lie_bound}
use Rattle.dynkin_map.proofs.Factors.{lie_bound-some, factors_to-step}
use Rattle.dynkin_map.proofs.bounds.bound_of.Goals as goal

pub loop-k-preserved : goal.loop-k-preserved
loop-k-preserved c =
    let k : ℕ = c.loop-k.k in
    let small : k < 8 = omega (arith, c.loop-k-test.true, c.depth-depth.ensures.value, c.depth-depth.ensures.shape.within_depth) in
    let growth : slice_index_or c.args.growths.now k 0 ≡ growth_of c.args.shape (suc k) =
    (let e : k ≡ suc k - 1 = omega arith in ap (λ (n : ℕ). slice_index_or c.args.growths.now n 0) e) ∙ c.requires.values (suc k) (omega arith) (omega (arith, c.loop-k-test.true, c.depth-depth.ensures.value)) in
    let bound : c.log_bound.result ≡ log_bound (suc k) = c.log_bound.ensures ∙ (let e : k + 1 ≡ suc k = omega arith in ap log_bound e) in
    let more : c.max.result ≡ max 1 (growth_of c.args.shape (suc k)) = omega (arith, growth, c.max.ensures) in
    let value : c.log_bound.result * c.max.result ≡ lie_bound c.args.shape (suc k) = ap₂ ◌*◌ bound more in
    let least : 1 ≤ c.log_bound.result * c.max.result = omega (arith, value, lie_bound-some c.args.shape k small) in
    let next = factors_to-step (lie_bound c.args.shape) c.loop-k.factors k (c.log_bound.result * c.max.result) (omega (arith, c.loop-k.invariant.eight, small)) least c.loop-k.invariant.front c.loop-k.invariant.some value in
    record { eight = length-set c.loop-k.factors k (c.log_bound.result * c.max.result) ∙ c.loop-k.invariant.eight; front = next.0; some = next.1 }
