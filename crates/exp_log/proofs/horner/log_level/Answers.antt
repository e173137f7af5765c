use Rattle.std.proofs.Common.{◌≡◌, ◌∙◌, ℕ, ap, sym, subst, arith, rules, length, to_z-of_z, FitsSigned}
use mir.Syntax.{w128}
use Rattle.definitions.specs.Words.{Extent, IsWord}
use Rattle.scaled_tensor.specs.Tensors.{coefficient}
use Rattle.exp_log.specs.Horner.{IsTail}
use Rattle.exp_log.proofs.HornerSteps.{tail-start, last-room, last-step}
use Rattle.exp_log.proofs.horner.log_level.Goals as goal

pub loop-m-init : goal.loop-m-init
loop-m-init g c =
    let fits : FitsSigned w128 c.log_factor.result = search rules in
    record {
      some = c.requires.some;
      few = omega arith;
      extent = c.set.ensures.extent;
      tail = tail-start (coefficient c.args.s.now) c.args.k c.set.new.self c.log_factor.result c.log_factor.ensures.value (c.set.ensures.written ∙ to_z-of_z fits);
      longer = λ word is_word h. c.set.ensures.others word is_word (λ same. omega (arith, h, c.requires.some, ap length same));
    }

pub multiply_level-requires-clause-room : goal.multiply_level-requires-clause-room
multiply_level-requires-clause-room g c =
    let one : c.loop-m.m ≡ 1 = omega (arith, c.loop-m.invariant.some) in
    last-room g.A.Arithmetic.most (coefficient c.args.s.now) c.args.k c.args.sum.now c.loop-m.sum c.requires.some c.loop-m.invariant.extent
    (subst (λ (n : ℕ). IsTail (coefficient c.args.s.now) c.args.k n c.loop-m.sum) one c.loop-m.invariant.tail) c.requires.room

pub returns-clause-value : goal.returns-clause-value
returns-clause-value g c = λ word is_word len.
    let one : c.loop-m.m ≡ 1 = omega (arith, c.loop-m.invariant.some) in
    let is_now : IsWord c.loop-m.sum.extent word = subst (λ (e : Extent). IsWord e word) (sym c.loop-m.invariant.extent) is_word in
    last-step (coefficient c.args.s.now) c.args.k c.loop-m.sum word (coefficient c.multiply_level.new.sum word) c.requires.some
    (subst (λ (n : ℕ). IsTail (coefficient c.args.s.now) c.args.k n c.loop-m.sum) one c.loop-m.invariant.tail) is_now len (c.multiply_level.ensures.product word is_now len)
