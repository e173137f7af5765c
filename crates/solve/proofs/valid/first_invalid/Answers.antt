use Rattle.std.proofs.Common.{subst, refl}
use Rattle.std.proofs.lemmas.List.Elements.{All-more}
use Rattle.solve.specs.Plans.{IsValid}
use Rattle.solve.proofs.valid.first_invalid.Goals as goal

pub loop-at-preserved : goal.loop-at-preserved
loop-at-preserved c =
    All-more (IsValid c.args.shape) c.args.plans.now c.loop-at.at c.index-plans-at.result c.loop-at-test.true c.loop-at.invariant
    (subst (IsValid c.args.shape) c.index-plans-at.is (c.if-not-is_valid.ensures.0 refl))
