use Rattle.std.proofs.Common.{◌≡◌, ◌<◌, ◌^◌, ◌∙◌, ◌+◌, ap, ap₂, subst, arith, rules, ℕ, ℤ, ◌-ℤ◌, List, length, FitsSigned, to_z-of_z}
use mir.Syntax.{w128}
use Rattle.std.proofs.lemmas.List.{length-take}
use Rattle.definitions.specs.Words.{Extent, IsWord, number}
use Rattle.scaled_tensor.specs.Tensors.{coefficient}
use Rattle.lie_bracket.proofs.LevelSteps.{IsWritten, written-next, within-count}
use Rattle.piecewise.proofs.levels.write_differences.Goals as goal

pub loop-number-preserved : goal.loop-number-preserved
loop-number-preserved c =
    let fd : FitsSigned w128 c.difference_of.result = search rules in
    let fa : FitsSigned w128 c.get.result = search rules in
    let fb : FitsSigned w128 c.get-in-loop-number.result = search rules in
    let extent : Extent = c.args.a.now.extent in
    let letters : List ℕ = c.write_word.new.letters in
    let f : List ℕ → ℤ = λ word. coefficient c.args.a.now word -ℤ coefficient c.args.b.now word in
    let written : coefficient c.set.new.self letters ≡ c.difference_of.result = simp to_z-of_z at c.set.ensures.written in
    let difference : c.difference_of.result ≡ c.get.result -ℤ c.get-in-loop-number.result = simp to_z-of_z at c.difference_of.ensures in
    let len : length letters ≡ c.args.k = omega (arith, c.write_word.auto.letters, c.loop-number.auto.word, length-take {A = ℕ}, c.requires.k, c.shape-shape.ensures.shape.within_depth) in
    let w : IsWritten extent c.args.k f c.args.tensor.now c.set.new.self (c.loop-number.number + 1) =
    written-next extent c.args.k f c.args.tensor.now c.loop-number.tensor c.set.new.self c.loop-number.number letters
    (record { same_extent = c.loop-number.invariant.extent; written = c.loop-number.invariant.written; others = c.loop-number.invariant.others })
    (subst (λ (e : Extent). IsWord e letters) c.shape-shape.ensures.value c.write_word.ensures.word)
    len
    (subst (λ (e : Extent). number e.width letters ≡ c.loop-number.number) c.shape-shape.ensures.value c.write_word.ensures.value)
    (written ∙ difference ∙ ap₂ ◌-ℤ◌ c.get.ensures.value c.get-in-loop-number.ensures.value) c.set.ensures.extent c.set.ensures.others in
    record { extent = w.same_extent; written = w.written; others = w.others }

pub returns-clause-level : goal.returns-clause-level
returns-clause-level c = λ word is_word len.
    let most : number c.args.a.now.extent.width word < c.args.a.now.extent.width ^ c.args.k = within-count c.args.a.now.extent c.args.k word is_word len in
    c.loop-number.invariant.written word is_word len (omega (arith, most, c.count-number-end.ensures, ap (λ (e : Extent). e.width ^ c.args.k) c.shape-shape.ensures.value, c.loop-number-test.false))
