use Rattle.std.proofs.Common.{◌<◌, ◌∙◌, length-set, arith}
use Rattle.exp_log.proofs.Factors.{bounds_to-step}
use Rattle.exp_log.proofs.logarithm.log_bounds.Goals as goal

pub loop-k-preserved : goal.loop-k-preserved
loop-k-preserved c =
    let small : c.loop-k.k < 8 = omega (arith, c.loop-k-test.true, c.depth-depth.ensures.value, c.depth-depth.ensures.shape.within_depth) in
    let next = bounds_to-step c.loop-k.factors c.loop-k.k c.log_bound.result (omega (arith, c.loop-k.invariant.eight, small)) small c.loop-k.invariant.front c.loop-k.invariant.some c.log_bound.ensures in
    record { eight = length-set c.loop-k.factors c.loop-k.k c.log_bound.result ∙ c.loop-k.invariant.eight; front = next.0; some = next.1 }
