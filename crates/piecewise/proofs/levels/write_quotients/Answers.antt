use Rattle.std.proofs.Common.{◌≡◌, ◌<◌, ◌^◌, ◌∙◌, ◌+◌, ap, subst, arith, rules, ℕ, ℤ, List, pos, length, FitsSigned, to_z-of_z}
use Rattle.std.specs.Prelude.{int_div}
use mir.Syntax.{w128}
use Rattle.std.proofs.lemmas.List.{length-take}
use Rattle.definitions.specs.Words.{Extent, IsWord, number}
use Rattle.scaled_tensor.specs.Tensors.{coefficient}
use Rattle.lie_bracket.proofs.LevelSteps.{IsWritten, written-next, within-count}
use Rattle.piecewise.proofs.levels.write_quotients.Goals as goal

pub loop-number-preserved : goal.loop-number-preserved
loop-number-preserved c =
    let fq : FitsSigned w128 c.quotient_of.result = search rules in
    let fg : FitsSigned w128 c.get.result = search rules in
    let extent : Extent = c.args.dividends.now.extent in
    let letters : List ℕ = c.write_word.new.letters in
    let f : List ℕ → ℤ = λ word. int_div (coefficient c.args.dividends.now word) (pos c.args.divisor) in
    let written : coefficient c.set.new.self letters ≡ c.quotient_of.result = simp to_z-of_z at c.set.ensures.written in
    let quotient : c.quotient_of.result ≡ int_div c.get.result (pos c.args.divisor) = simp to_z-of_z at c.quotient_of.ensures.value in
    let len : length letters ≡ c.args.k = omega (arith, c.write_word.auto.letters, c.loop-number.auto.word, length-take {A = ℕ}, c.requires.k, c.shape-shape.ensures.shape.within_depth) in
    let w : IsWritten extent c.args.k f c.args.tensor.now c.set.new.self (c.loop-number.number + 1) =
    written-next extent c.args.k f c.args.tensor.now c.loop-number.tensor c.set.new.self c.loop-number.number letters
    (record { same_extent = c.loop-number.invariant.extent; written = c.loop-number.invariant.written; others = c.loop-number.invariant.others })
    (subst (λ (e : Extent). IsWord e letters) c.shape-shape.ensures.value c.write_word.ensures.word)
    len
    (subst (λ (e : Extent). number e.width letters ≡ c.loop-number.number) c.shape-shape.ensures.value c.write_word.ensures.value)
    (written ∙ quotient ∙ ap (λ (z : ℤ). int_div z (pos c.args.divisor)) c.get.ensures.value) c.set.ensures.extent c.set.ensures.others in
    record { extent = w.same_extent; written = w.written; others = w.others }

pub returns-clause-level : goal.returns-clause-level
returns-clause-level c = λ word is_word len.
    let most : number c.args.dividends.now.extent.width word < c.args.dividends.now.extent.width ^ c.args.k = within-count c.args.dividends.now.extent c.args.k word is_word len in
    c.loop-number.invariant.written word is_word len (omega (arith, most, c.count-number-end.ensures, ap (λ (e : Extent). e.width ^ c.args.k) c.shape-shape.ensures.value, c.loop-number-test.false))
