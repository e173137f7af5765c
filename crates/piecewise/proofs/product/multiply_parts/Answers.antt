use Rattle.std.proofs.Common.{◌≡◌, ◌+◌, ◌≤◌, ◌^◌, ◌∙◌, sym, subst, arith, ℕ, List, []}
use Rattle.std.proofs.lemmas.List.{get_or_read}
use Rattle.definitions.specs.Words.{Extent, IsWord}
use Rattle.definitions.specs.Signature.{limit}
use Rattle.lie_bracket.specs.declared.term.Term.{Term}
use Rattle.piecewise.specs.Faults.{CanUnfold}
use Rattle.piecewise.specs.Placed.{IsPlaced, IsRefusedPart, IsSeriesOf}
use Rattle.piecewise.specs.Wholes.{part_at}
use Rattle.piecewise.proofs.Errors.{error-kept}
use Rattle.piecewise.proofs.Parts.{before-more, placed-at}
use Rattle.piecewise.proofs.Products.{IsPartialProduct, partial-none, partial-next, partial-fits}
use Rattle.piecewise.proofs.product.multiply_parts.Goals as goal

pub loop-place-init : goal.loop-place-init
loop-place-init c = record {
  product = partial-none c.args.hall.now c.args.parts.now c.in_ok-product.product (c.in_ok-product.ensures.extent ∙ c.shape.ensures.value)
      (λ word is_word. c.in_ok-product.ensures.value word (subst (λ (e : Extent). IsWord e word) (sym c.shape.ensures.value) is_word));
  unfolds = λ j before. absurd (omega arith);
}

pub join_bounded-requires-clause-fits : goal.join_bounded-requires-clause-fits
join_bounded-requires-clause-fits c =
    let is : c.index-parts-place.result ≡ part_at c.args.parts.now c.loop-place.place = get_or_read c.args.parts.now c.loop-place.place c.index-parts-place.result c.loop-place-test.true c.index-parts-place.is ([], 0) in
    subst (λ (p : List Term × ℕ). (c.loop-place.bound + p.1) ^ c.loop-place.product.extent.depth ≤ limit) (sym is)
    (subst (λ (e : Extent). (c.loop-place.bound + (part_at c.args.parts.now c.loop-place.place).1) ^ e.depth ≤ limit) (sym c.loop-place.invariant.product.same_extent)
    (partial-fits c.args.parts.now c.loop-place.place c.loop-place.bound c.args.hall.now.depth c.loop-place-test.true c.loop-place.invariant.product.sum c.requires.fits))

pub loop-place-preserved : goal.loop-place-preserved
loop-place-preserved c =
    let is : c.index-parts-place.result ≡ part_at c.args.parts.now c.loop-place.place = get_or_read c.args.parts.now c.loop-place.place c.index-parts-place.result c.loop-place-test.true c.index-parts-place.is ([], 0) in
    record {
      product = subst (λ (p : List Term × ℕ). IsPartialProduct c.args.hall.now c.args.parts.now (c.loop-place.place + 1) (c.loop-place.bound + p.1) c.join_bounded.new.a) (sym is)
          (partial-next c.args.hall.now c.args.parts.now c.loop-place.place c.loop-place.bound c.loop-place.product c.in_ok-series.series c.join_bounded.new.a c.loop-place-test.true
          c.loop-place.invariant.product (subst (λ (p : List Term × ℕ). IsSeriesOf c.args.hall.now p.0 p.1 c.in_ok-series.series) is c.in_ok-series.ensures.series) c.join_bounded.ensures);
      unfolds = before-more c.args.hall.now c.args.parts.now c.loop-place.place c.loop-place.invariant.unfolds
          (subst (λ (p : List Term × ℕ). CanUnfold c.args.hall.now p.0 p.1) is c.in_ok-series.ensures.series.unfolds);
    }

pub returns-in_err-series-clause-fault : goal.returns-in_err-series-clause-fault
returns-in_err-series-clause-fault c =
    let is : c.index-parts-place.result ≡ part_at c.args.parts.now c.loop-place.place = get_or_read c.args.parts.now c.loop-place.place c.index-parts-place.result c.loop-place-test.true c.index-parts-place.is ([], 0) in
    error-kept c.from_residual-in_err-series.result c.in_err-series.field-0.0 (IsPlaced c.args.hall.now c.args.parts.now) c.from_residual-in_err-series.ensures.1
    (placed-at c.args.hall.now c.args.parts.now c.loop-place.place c.in_err-series.field-0.0 c.loop-place-test.true c.loop-place.invariant.unfolds
    (subst (λ (p : List Term × ℕ). IsRefusedPart c.args.hall.now p.0 p.1 c.loop-place.place c.in_err-series.field-0.0) is c.in_err-series.ensures.fault))
