use Rattle.std.proofs.Common.{◌≡◌, ◌+◌, ◌∙◌, ℕ, ap₂, rules, arith, get_or, pos, ℤ, ◌+ℤ◌, ◌*ℤ◌, to_z, of_z, to_z-of_z, FitsSigned}
use mir.Syntax.{w128}
use Rattle.tensor_product.proofs.GrowLaws.{IsWritten, write-step}
use Rattle.tensor_product.proofs.extend.write_run.Goals as goal

pub loop-a-preserved : goal.loop-a-preserved
loop-a-preserved g c =
    let s : ℤ = to_z w128 (of_z w128 c.args.sum) in
    let fs : FitsSigned w128 c.next_sum.result = search rules in
    let fx : FitsSigned w128 (get_or c.args.x.now c.loop-a.a (pos 0)) = search rules in
    let fl : FitsSigned w128 (get_or c.args.level.now (c.args.at + c.loop-a.a) (pos 0)) = search rules in
    let ez : to_z w128 (of_z w128 c.next_sum.result) ≡ s *ℤ get_or c.args.x.now c.loop-a.a (pos 0) +ℤ pos c.args.ways *ℤ get_or c.args.level.now (c.args.at + c.loop-a.a) (pos 0) =
    to_z-of_z fs ∙ c.next_sum.ensures ∙ ap₂ (λ (y z : ℤ). s *ℤ y +ℤ pos c.args.ways *ℤ z) (to_z-of_z fx) (to_z-of_z fl) in
    let next : IsWritten c.args.at (c.loop-a.a + 1) (λ (i : ℕ). s *ℤ get_or c.args.x.now i (pos 0) +ℤ pos c.args.ways *ℤ get_or c.args.level.now (c.args.at + i) (pos 0)) c.args.sums.now _ =
    write-step c.args.at c.loop-a.a (λ (i : ℕ). s *ℤ get_or c.args.x.now i (pos 0) +ℤ pos c.args.ways *ℤ get_or c.args.level.now (c.args.at + i) (pos 0)) c.args.sums.now c.loop-a.sums _
    c.loop-a.invariant.run c.loop-a.invariant.others (omega (arith, c.requires.within)) ez in
    record { run = next.run; others = next.others }
