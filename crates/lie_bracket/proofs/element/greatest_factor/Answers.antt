use Rattle.std.proofs.Common.{◌≡◌, ◌∙◌, ap, arith, ℤ, to_z-of_z, FitsSigned, unsigned_abs, rules}
use mir.Syntax.{w128}
use Rattle.lie_bracket.specs.Elements.{term_at}
use Rattle.lie_bracket.proofs.ElementLaws.{top-next}
use Rattle.lie_bracket.proofs.element.greatest_factor.Goals as goal

pub loop-t-preserved : goal.loop-t-preserved
loop-t-preserved c =
    let factor : ℤ = (term_at c.args.terms.now c.loop-t.t-index).factor in
    let fits : FitsSigned w128 factor = search rules in
    let absolute : c.unsigned_abs.result ≡ unsigned_abs factor = c.unsigned_abs.ensures.value ∙ ap unsigned_abs (to_z-of_z fits) in
    omega (arith, c.max-greatest.ensures, absolute, top-next c.args.terms.now c.loop-t.t-index c.loop-t-test.true, c.loop-t.invariant)
