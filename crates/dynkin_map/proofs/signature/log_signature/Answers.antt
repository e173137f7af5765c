use Rattle.std.proofs.Common.{◌≡◌, ◌∙◌, List, sym, ap, subst}
use Rattle.std.specs.Prelude.{All, pos, length, ◌*ℤ◌}
use Rattle.definitions.specs.Words.{Extent, IsWord}
use Rattle.definitions.specs.Signature.{Fits, signature}
use Rattle.definitions.specs.Logarithm.{logarithm}
use Rattle.definitions.specs.Hall.{InHall, hall_list, expansion}
use Rattle.scaled_tensor.specs.Tensors.{coefficient}
use Rattle.exp_log.specs.Faults.{LogFits, IsRefusedBy}
use Rattle.lie_bracket.specs.Brackets.{expanded}
use Rattle.lie_bracket.specs.declared.term.Term.{Term}
use Rattle.dynkin_map.specs.Coordinates.{lie_bounds, coordinates}
use Rattle.dynkin_map.specs.Faults.{IsRefusedBy as IsLieRefusedBy}
use Rattle.dynkin_map.proofs.DynkinTheorem.{coordinates-same, coordinates-members}
use Rattle.dynkin_map.proofs.LogarithmsInCoordinates.{logarithm-expands}
use Rattle.dynkin_map.proofs.BoundLaws.{fits-logarithm}
use Rattle.dynkin_map.proofs.signature.log_signature.Goals as goal

pub returns-in-Ok-to_lie-clause-value : goal.returns-in-Ok-to_lie-clause-value
returns-in-Ok-to_lie-clause-value c = λ moves stands.
    let extent : Extent = c.args.dynkin.now in
    let same : extent ≡ c.in-Ok.logarithm.tensor.extent = sym (c.in-Ok.ensures.extent ∙ c.requires.extent) in
    c.in-Ok-to_lie.ensures.value
    ∙ ap (λ (e : Extent). coordinates e (coefficient c.in-Ok.logarithm.tensor)) (sym same)
    ∙ coordinates-same extent (coefficient c.in-Ok.logarithm.tensor) (logarithm (signature moves)) c.shape-shape.ensures.shape.some_depth
    (λ w is. (c.in-Ok.ensures.stands moves stands).coefficients w (subst (λ (e : Extent). IsWord e w) same is))

pub returns-in-Ok-to_lie-clause-expands : goal.returns-in-Ok-to_lie-clause-expands
returns-in-Ok-to_lie-clause-expands c = λ moves stands word is some.
    let extent : Extent = c.args.dynkin.now in
    ap (λ (z : List Term). expanded (expansion (hall_list extent.width extent.depth)) z word) (returns-in-Ok-to_lie-clause-value c moves stands)
    ∙ logarithm-expands extent moves c.shape-shape.ensures.shape.within_depth word is some

pub returns-in-Ok-to_lie-clause-members : goal.returns-in-Ok-to_lie-clause-members
returns-in-Ok-to_lie-clause-members c =
    let extent : Extent = c.args.dynkin.now in
    let same : c.in-Ok.logarithm.tensor.extent ≡ extent = c.in-Ok.ensures.extent ∙ c.requires.extent in
    subst (All (λ (t : Term). InHall (hall_list extent.width extent.depth) t.number))
    (sym (c.in-Ok-to_lie.ensures.value ∙ ap (λ (e : Extent). coordinates e (coefficient c.in-Ok.logarithm.tensor)) same))
    (coordinates-members extent (coefficient c.in-Ok.logarithm.tensor))

pub unreachable-requires : goal.unreachable-requires
unreachable-requires c =
    let refused = subst (λ f. IsRefusedBy c.args.sig.now.weight c.args.sig.now.tensor.extent.depth f) c.in-Err-Overflow.field-0-is c.in-Err-Overflow.ensures.refused in
    refused.1
    (subst (λ (e : Extent). LogFits c.args.sig.now.weight e.depth) (sym c.requires.extent) (fits-logarithm c.args.dynkin.now c.args.sig.now.weight c.requires.fits))

pub unreachable-requires-in-Err-Overflow-to_lie : goal.unreachable-requires-in-Err-Overflow-to_lie
unreachable-requires-in-Err-Overflow-to_lie c =
    let p = c.in-Ok.logarithm in
    let refused = subst (λ f. IsLieRefusedBy p.tensor.extent p.weight f) c.in-Err-Overflow-to_lie.field-0-is c.in-Err-Overflow-to_lie.ensures.refused in
    refused.1
    (subst (λ (e : Extent). Fits (lie_bounds e) p.weight) (sym (c.in-Ok.ensures.extent ∙ c.requires.extent))
    (subst (Fits (lie_bounds c.args.dynkin.now)) (sym c.in-Ok.ensures.weight) c.requires.fits))
