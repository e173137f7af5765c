use Rattle.std.proofs.Common.{◌≡◌, ◌∙◌, ◌++◌, suc, sym, ap, arith, add-one, List, ℕ}
use Rattle.definitions.specs.Words.{words_of}
use Rattle.functionals.specs.declared.term.WordTerm.{WordTerm}
use Rattle.definitions.specs.AllWords.{words_below}
use Rattle.functionals.specs.Functionals.{gathered, collected}
use Rattle.functionals.proofs.Tables.{gathered-append}
use Rattle.functionals.proofs.collecting.collect.Goals as goal

pub loop-k-preserved : goal.loop-k-preserved
loop-k-preserved c = λ terms table.
    c.in_ok-collect_level.ensures terms table
    ∙ ap (λ (xs : List WordTerm). xs ++ gathered (words_of c.args.shape.width c.loop-k.k) terms) (c.loop-k.invariant terms table)
    ∙ sym (gathered-append (words_below c.args.shape.width c.loop-k.k) (words_of c.args.shape.width c.loop-k.k) terms)
    ∙ ap (λ (n : ℕ). gathered (words_below c.args.shape.width n) terms) (sym (add-one c.loop-k.k))

pub returns : goal.returns
unfolding collected
returns c = λ terms table.
    let end : c.loop-k.k ≡ suc c.args.shape.depth = omega (arith, c.loop-k-test.false, c.loop-k.auto.k-end, c.depth-k-end.ensures.value) in
    c.loop-k.invariant terms table ∙ ap (λ (n : ℕ). gathered (words_below c.args.shape.width n) terms) end
