use Rattle.std.proofs.Common.{◌≡◌, ◌+◌, ◌-◌, ◌∙◌, suc, arith, rules, refl, to_z-of_z, FitsSigned}
use mir.Syntax.{w128}
use Rattle.scaled_tensor.specs.Tensors.{coefficient}
use Rattle.tensor_product.proofs.LevelLaws.{fewer-words}
use Rattle.exp_log.proofs.HornerSteps.{stepping-none, stepping-room, stepping-next, stepping-all}
use Rattle.exp_log.proofs.horner.next_tail.Goals as goal

pub loop-j-init : goal.loop-j-init
loop-j-init g c = stepping-none (coefficient c.args.s.now) c.args.k c.args.m (c.args.k - c.args.m + 1) c.args.sum.now refl c.requires.tail

pub multiply_level-requires-clause-scaled : goal.multiply_level-requires-clause-scaled
multiply_level-requires-clause-scaled g c =
    let fewer = fewer-words c.args.sum.now.extent.width (c.loop-j.j - 1) (c.args.k - 1) c.requires.shape.some_width (omega (arith, c.loop-j.invariant.within)) in
    rw c.loop-j.invariant.same_extent (omega (arith, fewer, c.requires.scaled, c.loop-j.auto.scaled))

pub multiply_level-requires-clause-room : goal.multiply_level-requires-clause-room
multiply_level-requires-clause-room g c =
    stepping-room g.A.Arithmetic.most (coefficient c.args.s.now) c.args.k c.args.m c.loop-j.j c.args.sum.now c.loop-j.sum c.loop-j.invariant (omega arith) c.requires.m c.requires.room

pub loop-j-preserved : goal.loop-j-preserved
loop-j-preserved g c =
    let one_less : suc (c.loop-j.j - 1) ≡ c.loop-j.j = omega arith in
    stepping-next (coefficient c.args.s.now) c.args.k c.args.m c.loop-j.j (c.loop-j.j - 1) c.args.sum.now c.loop-j.sum c.multiply_level.new.sum c.loop-j.invariant one_less c.multiply_level.ensures.extent c.multiply_level.ensures.product c.multiply_level.ensures.others

pub returns-clause-tail : goal.returns-clause-tail
returns-clause-tail g c =
    let none : c.loop-j.j ≡ 0 = omega arith in
    let fits : FitsSigned w128 c.log_factor.result = search rules in
    let before : suc (c.args.m - 1) ≡ c.args.m = omega arith in
    stepping-all (coefficient c.args.s.now) c.args.k c.args.m (c.args.m - 1) c.loop-j.j c.args.sum.now c.loop-j.sum c.set.new.self c.log_factor.result c.loop-j.invariant none before c.requires.m c.set.ensures.extent c.log_factor.ensures.value
    (c.set.ensures.written ∙ to_z-of_z fits) c.set.ensures.others
