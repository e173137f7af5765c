use Rattle.std.proofs.Common.{◌∙◌, refl}
use Rattle.book.proofs.HitLaws.{none-brought, more-brought}
use Rattle.book.proofs.hits.bring_hits.Goals as goal

pub loop-plan-init : goal.loop-plan-init
loop-plan-init c = record {
  pairs = none-brought c.args.log.now.extent c.args.log.now.edits c.args.version c.args.cache.now.entries;
  kept = c.requires.kept;
  capacity = refl;
}

pub loop-plan-preserved : goal.loop-plan-preserved
loop-plan-preserved c = record {
  pairs =
      more-brought c.args.log.now.extent c.args.log.now.edits c.args.version c.args.plans.now c.loop-plan.plan-index c.plan-item.result c.loop-plan-test.true c.plan-item.is
      c.args.cache.now.entries c.loop-plan.cache.entries c.bring_hits_of.new.cache.entries c.loop-plan.invariant.pairs c.bring_hits_of.ensures.pairs;
  kept = c.bring_hits_of.ensures.kept;
  capacity = c.bring_hits_of.ensures.capacity ∙ c.loop-plan.invariant.capacity;
}
