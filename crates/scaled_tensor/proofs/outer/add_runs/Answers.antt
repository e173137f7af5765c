use Rattle.std.proofs.Common.{◌≡◌, ◌≤◌, ◌+◌, ◌*◌, ◌∙◌, ℕ, ℤ, sym, subst, ap, rules, arith, length, get_or, pos, unsigned_abs, to_z-of_z, FitsSigned, inr}
use mir.Syntax.{w128}
use Rattle.scaled_tensor.proofs.OuterLaws.{IsOuter, outer-step}
use Rattle.scaled_tensor.proofs.outer.add_runs.Goals as goal

pub add_run-requires-clause-out : goal.add_run-requires-clause-out
add_run-requires-clause-out g c = λ r h.
    let m : ℕ = length c.args.right.now in
    let here : c.args.from + (c.loop-q.q * m + r) ≡ c.loop-q.at + r = omega (arith, c.loop-q.invariant.at_is) in
    let same : get_or c.loop-q.out (c.loop-q.at + r) (pos 0) ≡ get_or c.args.out.now (c.args.from + (c.loop-q.q * m + r)) (pos 0) =
    c.loop-q.invariant.others (c.loop-q.at + r) (inr (omega arith)) ∙ ap (λ (n : ℕ). get_or c.args.out.now n (pos 0)) (sym here) in
    subst (λ (z : ℤ). unsigned_abs z ≤ g.A.Arithmetic.most) (sym same) (c.requires.out c.loop-q.q r (omega arith) h)

pub loop-q-preserved : goal.loop-q-preserved
loop-q-preserved g c =
    let fl : FitsSigned w128 (get_or c.args.left.now c.loop-q.q (pos 0)) = search rules in
    let next : IsOuter c.args.from (c.loop-q.at + length c.args.right.now) (c.loop-q.q + 1) (length c.args.right.now) c.args.left.now c.args.right.now c.args.out.now c.add_run.new.out =
    outer-step c.args.from c.loop-q.at c.loop-q.q (length c.args.right.now) _ c.args.left.now c.args.right.now c.args.out.now c.loop-q.out c.add_run.new.out (to_z-of_z fl)
    c.loop-q.invariant.at_is c.loop-q.invariant.run c.loop-q.invariant.others c.add_run.ensures.run c.add_run.ensures.others in
    record { at_is = omega (arith, next.at_is, c.requires.width); run = next.run; others = rw c.requires.width next.others; range = λ all. c.add_run.ensures.range (c.loop-q.invariant.range all) }
