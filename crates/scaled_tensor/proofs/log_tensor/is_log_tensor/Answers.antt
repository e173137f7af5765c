use Rattle.std.proofs.Common.{◌∙◌, refl, sym, ap, arith}
use Rattle.definitions.specs.Words.{Extent}
use Rattle.scaled_tensor.proofs.LogTensorLaws.{bounded-words, next-capped, longer-bounded, all-bounded}
use Rattle.scaled_tensor.proofs.log_tensor.is_log_tensor.Goals as goal

pub loop-k-preserved : goal.loop-k-preserved
loop-k-preserved c =
    let level = bounded-words c.args.tensor.now c.args.weight c.loop-k.k c.loop-k.power c.log_bound.result c.saturating_mul.result c.loop-k.invariant.power c.log_bound.ensures c.saturating_mul.ensures c.level_within.ensures.range in
    record {
      power = next-capped c.args.weight c.loop-k.k c.loop-k.power c.saturating_mul-power.result c.loop-k.invariant.power c.saturating_mul-power.ensures;
      shorter = longer-bounded c.args.tensor.now c.args.weight c.loop-k.k c.loop-k.invariant.shorter (level.0 (c.level_within.ensures.within.0 c.if-not-level_within.false));
    }

pub returns-then-not-level_within : goal.returns-then-not-level_within
returns-then-not-level_within c =
    let level = bounded-words c.args.tensor.now c.args.weight c.loop-k.k c.loop-k.power c.log_bound.result c.saturating_mul.result c.loop-k.invariant.power c.log_bound.ensures c.saturating_mul.ensures c.level_within.ensures.range in
    (λ yes. absurd (cc), λ bounds. sym c.if-not-level_within.true ∙ c.level_within.ensures.within.1 (level.1 (λ word is_word at. bounds.bounded word is_word)))

pub returns : goal.returns
returns c = (λ yes. all-bounded c.args.tensor.now c.args.weight c.loop-k.k (omega (arith, c.loop-k-test.false, c.depth-k-end.ensures.value, ap (λ (e : Extent). e.depth) c.shape.ensures.value)) c.loop-k.invariant.shorter, λ bounds. refl)
