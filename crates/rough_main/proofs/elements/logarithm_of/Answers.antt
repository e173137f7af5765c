use Rattle.std.proofs.Common.{◌∙◌, ap, subst}
use Rattle.definitions.specs.Words.{Extent}
use Rattle.definitions.specs.Signature.{Fits, signature, weight}
use Rattle.definitions.specs.Logarithm.{logarithm}
use Rattle.dynkin_map.specs.Coordinates.{lie_bounds, coordinates}
use Rattle.cbh_calc.specs.declared.fault.CbhFault.TheVariants as faults
use Rattle.cbh_calc.specs.Faults.{IsRefusedBy}
use Rattle.answers.specs.declared.cbh.CbhResult.TheVariants as results
use Rattle.answers.specs.CbhText.{HasNumbers}
use Rattle.rough_main.proofs.ProductLaws.{lie-due, overflow-due}
use Rattle.rough_main.proofs.elements.logarithm_of.Goals as goal

pub returns-in-Ok-clause-due : goal.returns-in-Ok-clause-due
returns-in-Ok-clause-due c =
    let moves = c.args.moves.now in
    let fits : Fits (lie_bounds c.args.tables.now) (weight moves) = subst (λ (extent : Extent). Fits (lie_bounds extent) (weight moves)) c.hall.ensures c.in-Ok.ensures.fits in
    ap results.Lie (c.in-Ok.ensures.value ∙ ap (λ (extent : Extent). coordinates extent (logarithm (signature moves))) c.hall.ensures)
    ∙ lie-due c.args.tables.now moves c.dynkin.ensures.light fits

pub returns-in-Ok-clause-numbers : goal.returns-in-Ok-clause-numbers
returns-in-Ok-clause-numbers c = subst (λ (extent : Extent). HasNumbers extent (results.Lie c.in-Ok.lie)) c.hall.ensures c.in-Ok.ensures.members

pub returns-in-Err-Overflow-clause-due : goal.returns-in-Err-Overflow-clause-due
returns-in-Err-Overflow-clause-due c =
    let moves = c.args.moves.now in
    let refused : IsRefusedBy c.hall.result.now (weight moves) (faults.Overflow c.in-Err-Overflow.weight) = rw c.in-Err-Overflow.field-0-is at c.in-Err-Overflow.ensures.refused in
    let over : ¬ Fits (lie_bounds c.args.tables.now) (weight moves) = subst (λ (extent : Extent). ¬ Fits (lie_bounds extent) (weight moves)) c.hall.ensures refused.1 in
    ap results.Overflow refused.0 ∙ overflow-due c.args.tables.now moves c.dynkin.ensures.light over
