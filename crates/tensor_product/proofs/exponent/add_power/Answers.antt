use Rattle.std.proofs.Common.{◌≡◌, ◌∙◌, subst, arith, ap}
use Rattle.definitions.specs.Words.{Extent, IsWord}
use Rattle.tensor_product.specs.Exponentiation.{exp_factor}
use Rattle.tensor_product.proofs.AddedLaws.{IsBetween, added-none, room-kept, level-step, levels-all}
use Rattle.tensor_product.proofs.exponent.add_power.Goals as goal

pub loop-k-init : goal.loop-k-init
loop-k-init c = added-none (IsBetween c.args.m c.args.m) (exp_factor c.args.m) c.args.power.now c.args.sum.now (λ word at. omega (arith, at.0, at.1))

pub add_level-requires-clause-room : goal.add_level-requires-clause-room
add_level-requires-clause-room c = λ word is_word at.
    let is_old : IsWord c.args.sum.now.extent word = subst (λ (e : Extent). IsWord e word) c.loop-k.invariant.same_extent is_word in
    room-kept (IsBetween c.args.m c.loop-k.k) (exp_factor c.args.m) c.args.power.now c.args.sum.now c.loop-k.sum word c.loop-k.invariant is_old
    (λ between. omega (arith, between.1, at)) (c.requires.room word is_old (omega (arith, at, c.loop-k.auto.k)))

pub loop-k-preserved : goal.loop-k-preserved
loop-k-preserved c =
    level-step c.args.m c.loop-k.k (exp_factor c.args.m) c.args.power.now c.args.sum.now c.loop-k.sum c.add_level.new.sum c.loop-k.auto.k c.loop-k.invariant c.add_level.ensures

pub returns : goal.returns
returns c =
    let depth : c.depth-k-end.result ≡ c.args.sum.now.extent.depth = c.depth-k-end.ensures.value ∙ ap (λ (e : Extent). e.depth) (c.shape.ensures.value ∙ c.requires.same) in
    levels-all c.args.m c.loop-k.k (exp_factor c.args.m) c.args.power.now c.args.sum.now c.loop-k.sum (omega (arith, depth, c.loop-k-test.false)) c.loop-k.invariant
