use Rattle.std.proofs.Common.{◌≡◌, ◌≤◌, ◌-◌, ◌^◌, suc, arith}
use Rattle.scaled_tensor.specs.Tensors.{coefficient}
use Rattle.tensor_product.proofs.LevelLaws.{fewer-words}
use Rattle.exp_log.proofs.HornerSteps.{above-next, above-all}
use Rattle.exp_log.proofs.horner.write_levels.Goals as goal

pub log_level_bounded-requires-clause-scaled : goal.log_level_bounded-requires-clause-scaled
log_level_bounded-requires-clause-scaled c =
    let old = c.args.sum.now.extent in
    let fewer : old.width ^ (c.loop-k.k - 1) ≤ old.width ^ (old.depth - 1) = fewer-words old.width (c.loop-k.k - 1) (old.depth - 1) c.requires.shape.some_width (omega (arith, c.loop-k.invariant.within)) in
    rw c.loop-k.invariant.above.same_extent (omega (arith, fewer, c.requires.scaled, c.loop-k.auto.scaled))

pub loop-k-preserved : goal.loop-k-preserved
loop-k-preserved c =
    let one_less : suc (c.loop-k.k - 1) ≡ c.loop-k.k = omega arith in
    record {
      within = omega (arith, c.loop-k.invariant.within);
      above = above-next (coefficient c.args.s.now) c.loop-k.k (c.loop-k.k - 1) c.args.sum.now c.loop-k.sum c.log_level_bounded.new.sum c.loop-k.invariant.above one_less c.log_level_bounded.ensures.extent c.log_level_bounded.ensures.value c.log_level_bounded.ensures.longer;
    }

pub returns-clause-values : goal.returns-clause-values
returns-clause-values c =
    let none : c.loop-k.k ≡ 0 = omega arith in
    above-all (coefficient c.args.s.now) c.loop-k.k c.args.sum.now c.loop-k.sum c.set.new.self c.loop-k.invariant.above none c.set.ensures.written c.set.ensures.others
