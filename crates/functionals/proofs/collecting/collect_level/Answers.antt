use Rattle.std.proofs.Common.{◌≡◌, ◌∙◌, ap, arith, List, ℕ, pos, slice_index_or, to_z, of_z, to_z-of_z, FitsSigned}
use mir.Syntax.{w128}
use Rattle.definitions.specs.Words.{IsWord}
use Rattle.scaled_tensor.specs.Tensors.{place}
use Rattle.functionals.specs.Functionals.{coefficient_at}
use Rattle.functionals.proofs.Tables.{level-step, level-all}
use Rattle.functionals.proofs.collecting.collect_level.Goals as goal

pub loop-i-preserved : goal.loop-i-preserved
loop-i-preserved c = λ terms table.
    let kept : FitsSigned w128 c.number_at-sum.result = record { sfits = c.number_at-sum.type_inv } in
    let is : IsWord c.args.shape c.in_ok-word.word = c.in_ok-word.ensures.word in
    let sum : to_z w128 (of_z w128 c.number_at-sum.result) ≡ coefficient_at terms c.in_ok-word.word =
    to_z-of_z kept ∙ c.number_at-sum.ensures ∙ ap (λ (u : List ℕ). slice_index_or c.args.sums.now (place c.args.shape u) (pos 0)) c.list.ensures ∙ table.at c.in_ok-word.word is in
    level-step c.args.shape terms c.args.k c.loop-i.i c.in_ok-word.word (to_z w128 (of_z w128 c.number_at-sum.result)) c.args.list.now.items c.loop-i.list.items c.push_term.new.list.items
    is c.in_ok-word.ensures.length c.in_ok-word.ensures.number (omega (arith, c.loop-i-test.true, c.count-i-end.ensures)) sum (c.loop-i.invariant terms table) c.in_ok-push_term.ensures

pub returns : goal.returns
returns c = λ terms table.
    level-all c.args.shape.width c.args.k c.loop-i.i terms c.args.list.now.items c.loop-i.list.items (omega (arith, c.loop-i-test.false, c.count-i-end.ensures)) (c.loop-i.invariant terms table)
