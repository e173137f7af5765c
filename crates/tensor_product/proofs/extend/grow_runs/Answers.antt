use Rattle.std.proofs.Common.{◌≡◌, ◌*◌, ◌-◌, ℕ, suc, ap, rules, arith, length, get_or, pos, to_z-of_z, FitsSigned}
use mir.Syntax.{w128}
use Rattle.tensor_product.proofs.GrowLaws.{IsGrown, grow-step}
use Rattle.tensor_product.proofs.extend.grow_runs.Goals as goal

pub write_run-requires-clause-prefixes : goal.write_run-requires-clause-prefixes
write_run-requires-clause-prefixes g c = λ a h.
    let p : ℕ = c.loop-q.q - 1 in
    let one_less : c.loop-q.q ≡ suc p = omega arith in
    let here : c.loop-q.at - length c.args.x.now ≡ p * length c.args.x.now = omega (arith, c.loop-q.invariant.at_is, ap (λ (n : ℕ). n * length c.args.x.now) one_less) in
    rw here (c.requires.prefixes p a (omega arith) h)

pub write_run-requires-clause-added : goal.write_run-requires-clause-added
write_run-requires-clause-added g c = λ a h.
    let p : ℕ = c.loop-q.q - 1 in
    let one_less : c.loop-q.q ≡ suc p = omega arith in
    let here : c.loop-q.at - length c.args.x.now ≡ p * length c.args.x.now = omega (arith, c.loop-q.invariant.at_is, ap (λ (n : ℕ). n * length c.args.x.now) one_less) in
    rw here (c.requires.added p a (omega arith) h)

pub write_run-requires-clause-summed : goal.write_run-requires-clause-summed
write_run-requires-clause-summed g c = λ a h.
    let p : ℕ = c.loop-q.q - 1 in
    let one_less : c.loop-q.q ≡ suc p = omega arith in
    let here : c.loop-q.at - length c.args.x.now ≡ p * length c.args.x.now = omega (arith, c.loop-q.invariant.at_is, ap (λ (n : ℕ). n * length c.args.x.now) one_less) in
    let fs : FitsSigned w128 (get_or c.loop-q.sums (c.loop-q.q - 1) (pos 0)) = search rules in
    rw (to_z-of_z fs, here, c.loop-q.invariant.rest p (omega arith)) (c.requires.summed p a (omega arith) h)

pub loop-q-preserved : goal.loop-q-preserved
loop-q-preserved g c =
    let p : ℕ = c.loop-q.q - 1 in
    let one_less : c.loop-q.q ≡ suc p = omega arith in
    let fs : FitsSigned w128 (get_or c.loop-q.sums (c.loop-q.q - 1) (pos 0)) = search rules in
    let next : IsGrown p (c.loop-q.at - length c.args.x.now) c.args.count c.args.ways c.args.x.now c.args.level.now c.args.sums.now c.write_run.new.sums =
    grow-step c.loop-q.q p c.loop-q.at (c.loop-q.at - length c.args.x.now) c.args.count c.args.ways _ c.args.x.now c.args.level.now c.args.sums.now c.loop-q.sums c.write_run.new.sums
    c.requires.some one_less (omega (arith, c.loop-q.invariant.at_is, ap (λ (n : ℕ). n * length c.args.x.now) one_less)) c.loop-q.invariant.at_is (to_z-of_z fs) c.loop-q.invariant.rest c.loop-q.invariant.run c.write_run.ensures.run c.write_run.ensures.others in
    record { within = omega (arith, c.loop-q.invariant.within); at_is = next.at_is; rest = next.rest; run = next.run }
