use Rattle.std.proofs.Common.{◌≡◌, ◌∙◌, ap, arith, rules, ℕ, List, length, unsigned_abs, FitsSigned, to_z-of_z}
use mir.Syntax.{w128}
use Rattle.lie_bracket.specs.declared.term.Term.{Term}
use Rattle.lie_bracket.specs.Elements.{term_at}
use Rattle.lie_bracket.proofs.SumSteps.{sizes-next}
use Rattle.lie_bracket.proofs.build.is_small.Goals as goal

pub loop-t-preserved : goal.loop-t-preserved
loop-t-preserved c =
    let i : ℕ = c.loop-t.t-index in
    let ff : FitsSigned w128 ((term_at c.terms-t-items.result.now i).factor) = search rules in
    let absolute : c.unsigned_abs.result ≡ unsigned_abs (term_at c.args.element.now i).factor =
    c.unsigned_abs.ensures.value ∙ ap unsigned_abs (to_z-of_z ff) ∙ ap (λ (ts : List Term). unsigned_abs (term_at ts i).factor) c.terms-t-items.ensures.value in
    omega (arith, c.saturating_add-size.ensures, absolute, c.loop-t.invariant, sizes-next c.args.element.now i (omega (arith, c.loop-t-test.true, ap length c.terms-t-items.ensures.value)))
