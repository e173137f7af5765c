use Rattle.std.proofs.Common.{◌≡◌, ◌<◌, ◌^◌, ◌∙◌, ◌+◌, ap, subst, arith, rules, ℕ, length, FitsSigned, to_z-of_z}
use mir.Syntax.{w128}
use Rattle.std.proofs.lemmas.List.{length-take}
use Rattle.definitions.specs.Words.{Extent, IsWord, number}
use Rattle.scaled_tensor.specs.Tensors.{coefficient}
use Rattle.definitions.specs.Hall.{hall_list, expansion}
use Rattle.lie_bracket.specs.Brackets.{expanded}
use Rattle.lie_bracket.proofs.LevelSteps.{IsWritten, written-next, within-count}
use Rattle.lie_bracket.proofs.expansion.write_level.Goals as goal

pub loop-number-preserved : goal.loop-number-preserved
loop-number-preserved c =
    let fs : FitsSigned w128 c.sum_at.result = search rules in
    let value : coefficient c.set.new.self c.write_word.new.letters ≡ c.sum_at.result = simp to_z-of_z at c.set.ensures.written in
    let len : length c.write_word.new.letters ≡ c.args.k = omega (arith, c.write_word.auto.letters, c.loop-number.auto.word, length-take {A = ℕ}, c.requires.depth, c.shape-shape.ensures.shape.within_depth) in
    let w : IsWritten c.args.hall.now c.args.k (expanded (expansion (hall_list c.args.hall.now.width c.args.hall.now.depth)) c.args.terms.now) c.args.tensor.now c.set.new.self (c.loop-number.number + 1) =
    written-next c.args.hall.now c.args.k (expanded (expansion (hall_list c.args.hall.now.width c.args.hall.now.depth)) c.args.terms.now) c.args.tensor.now c.loop-number.tensor c.set.new.self c.loop-number.number c.write_word.new.letters
    (record { same_extent = c.loop-number.invariant.extent; written = c.loop-number.invariant.written; others = c.loop-number.invariant.others })
    (subst (λ (e : Extent). IsWord e c.write_word.new.letters) c.shape-shape.ensures.value c.write_word.ensures.word)
    len
    (subst (λ (e : Extent). number e.width c.write_word.new.letters ≡ c.loop-number.number) c.shape-shape.ensures.value c.write_word.ensures.value)
    (value ∙ c.sum_at.ensures.value ∙ ap (λ hall. expanded (expansion hall) c.args.terms.now c.write_word.new.letters) c.members.ensures.value) c.set.ensures.extent c.set.ensures.others in
    record { extent = w.same_extent; written = w.written; others = w.others }

pub returns-clause-level : goal.returns-clause-level
returns-clause-level c = λ word is_word len.
    let most : number c.args.hall.now.width word < c.args.hall.now.width ^ c.args.k = within-count c.args.hall.now c.args.k word is_word len in
    c.loop-number.invariant.written word is_word len (omega (arith, most, c.count-number-end.ensures, ap (λ (e : Extent). e.width ^ c.args.k) c.shape-shape.ensures.value, c.loop-number-test.false))
