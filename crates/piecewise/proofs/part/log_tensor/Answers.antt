use Rattle.std.proofs.Common.{◌≡◌, ◌∙◌, ap, subst, ℕ, List, map}
use Rattle.definitions.specs.Words.{Extent, up_to}
use Rattle.definitions.specs.Signature.{Fits}
use Rattle.scaled_tensor.specs.Tensors.{TensorValue, coefficient}
use Rattle.piecewise.specs.Series.{log_of}
use Rattle.piecewise.specs.Faults.{unfold_bound, UnfoldFits, IsFirst, IsLogLevel}
use Rattle.piecewise.proofs.LevelSteps.{AgreeOn}
use Rattle.piecewise.proofs.Logarithms.{log-from}
use Rattle.piecewise.proofs.Refusals.{can-expand, can-split, is-log, log-refused}
use Rattle.piecewise.proofs.part.log_tensor.Goals as goal

-- the weight fits where it fits the factors
fits-from : (factors : List ℕ) (weight : ℕ) (shape extent : Extent) → factors ≡ map unfold_bound (up_to shape.depth) → shape ≡ extent → Fits factors weight → UnfoldFits weight extent.depth
fits-from factors weight shape extent is same fits = subst (λ (fs : List ℕ). Fits fs weight) (is ∙ ap (λ (e : Extent). map unfold_bound (up_to e.depth)) same) fits

pub returns-in-Some-clause-fault : goal.returns-in-Some-clause-fault
returns-in-Some-clause-fault c =
    let extent : Extent = c.args.hall.now in
    let e : TensorValue = c.in_ok-expansion.expansion in
    let log : TensorValue = c.in_ok-log.log in
    let fits : UnfoldFits c.args.weight extent.depth = fits-from c.bounds_of.result c.args.weight c.shape.result extent c.bounds_of.ensures c.shape.ensures.value (c.fits.ensures.0 c.if-not-fits.false) in
    let same : log.extent ≡ extent = c.in_ok-log.ensures.extent ∙ c.in_ok-expansion.ensures.extent in
    let agrees : AgreeOn extent (coefficient log) (log_of extent c.args.z.now) =
    log-from extent c.args.z.now e log c.shape.ensures.shape c.requires c.in_ok-expansion.ensures.extent c.in_ok-expansion.ensures.value c.in_ok-log.ensures.values c.in_ok-log.ensures.empty in
    log-refused extent c.args.z.now c.args.weight (coefficient log) c.in-Some.k
    (can-split extent c.args.z.now c.args.weight e (can-expand extent c.args.z.now c.args.weight fits c.in_ok-expansion.ensures.fits) c.in_ok-expansion.ensures.extent c.in_ok-expansion.ensures.value c.in_ok-log.ensures.splits)
    agrees (subst (λ (x : Extent). IsFirst x.depth (IsLogLevel x (coefficient log) c.args.weight) c.in-Some.k) same c.in-Some.ensures)

pub returns-clause-values : goal.returns-clause-values
returns-clause-values c =
    log-from c.args.hall.now c.args.z.now c.in_ok-expansion.expansion c.in_ok-log.log c.shape.ensures.shape c.requires c.in_ok-expansion.ensures.extent c.in_ok-expansion.ensures.value c.in_ok-log.ensures.values c.in_ok-log.ensures.empty

pub returns-clause-log : goal.returns-clause-log
returns-clause-log c =
    let extent : Extent = c.args.hall.now in
    let e : TensorValue = c.in_ok-expansion.expansion in
    let log : TensorValue = c.in_ok-log.log in
    let fits : UnfoldFits c.args.weight extent.depth = fits-from c.bounds_of.result c.args.weight c.shape.result extent c.bounds_of.ensures c.shape.ensures.value (c.fits.ensures.0 c.if-not-fits.false) in
    let same : log.extent ≡ extent = c.in_ok-log.ensures.extent ∙ c.in_ok-expansion.ensures.extent in
    let agrees : AgreeOn extent (coefficient log) (log_of extent c.args.z.now) =
    log-from extent c.args.z.now e log c.shape.ensures.shape c.requires c.in_ok-expansion.ensures.extent c.in_ok-expansion.ensures.value c.in_ok-log.ensures.values c.in_ok-log.ensures.empty in
    is-log extent c.args.z.now c.args.weight log
    (can-split extent c.args.z.now c.args.weight e (can-expand extent c.args.z.now c.args.weight fits c.in_ok-expansion.ensures.fits) c.in_ok-expansion.ensures.extent c.in_ok-expansion.ensures.value c.in_ok-log.ensures.splits)
    same agrees c.in-None.ensures
