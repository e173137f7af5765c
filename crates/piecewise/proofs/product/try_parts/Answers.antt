use Rattle.std.proofs.Common.{◌≡◌, ℕ, List, [], subst}
use Rattle.std.proofs.lemmas.List.{get_or_read}
use Rattle.lie_bracket.specs.declared.term.Term.{Term}
use Rattle.piecewise.specs.Faults.{CanUnfold}
use Rattle.piecewise.specs.Wholes.{part_at}
use Rattle.piecewise.specs.Placed.{IsPlaced, IsRefusedPart}
use Rattle.piecewise.proofs.Errors.{error-kept}
use Rattle.piecewise.proofs.Parts.{before-more, placed-at}
use Rattle.piecewise.proofs.product.try_parts.Goals as goal

pub loop-place-preserved : goal.loop-place-preserved
loop-place-preserved c =
    let is : c.index-parts-place.result ≡ part_at c.args.parts.now c.loop-place.place = get_or_read c.args.parts.now c.loop-place.place c.index-parts-place.result c.loop-place-test.true c.index-parts-place.is ([], 0) in
    before-more c.args.hall.now c.args.parts.now c.loop-place.place c.loop-place.invariant
    (subst (λ (p : List Term × ℕ). CanUnfold c.args.hall.now p.0 p.1) is c.in_ok-unfold_part.ensures.series.unfolds)

pub returns-in_err-unfold_part-clause-fault : goal.returns-in_err-unfold_part-clause-fault
returns-in_err-unfold_part-clause-fault c =
    let is : c.index-parts-place.result ≡ part_at c.args.parts.now c.loop-place.place = get_or_read c.args.parts.now c.loop-place.place c.index-parts-place.result c.loop-place-test.true c.index-parts-place.is ([], 0) in
    error-kept c.from_residual.result c.in_err-unfold_part.field-0.0 (IsPlaced c.args.hall.now c.args.parts.now) c.from_residual.ensures.1
    (placed-at c.args.hall.now c.args.parts.now c.loop-place.place c.in_err-unfold_part.field-0.0 c.loop-place-test.true c.loop-place.invariant
    (subst (λ (p : List Term × ℕ). IsRefusedPart c.args.hall.now p.0 p.1 c.loop-place.place c.in_err-unfold_part.field-0.0) is c.in_err-unfold_part.ensures.fault))
