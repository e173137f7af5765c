use Rattle.std.proofs.Common.{refl, ◌<◌, ◌^◌, ℤ, List, ap, subst, arith, length, take_all, All}
use Rattle.words.proofs.MoveSizes.{All-take_more}
use Rattle.words.proofs.parts.all_short.Goals as goal

pub loop-part-preserved : goal.loop-part-preserved
loop-part-preserved c =
    let short : length c.part-item.result < 2 ^ 32 = omega (arith, ap length c.list.ensures, c.if-list-ge4294967296.false) in
    All-take_more (λ (part : List ℤ). length part < 2 ^ 32) c.args.parts.now c.loop-part.part-index c.part-item.result c.loop-part-test.true c.loop-part.invariant
    (subst (λ (part : List ℤ). length part < 2 ^ 32) c.part-item.is short)

pub returns : goal.returns
returns c =
    (λ yes. subst (λ (ps : List (List ℤ)). All (λ part. length part < 2 ^ 32) ps) (take_all c.loop-part.part-index c.args.parts.now c.loop-part-test.false) c.loop-part.invariant, λ all. refl)
