use Rattle.std.proofs.Common.{◌≡◌, ◌∙◌, ℕ, List, ap, sym, subst}
use Rattle.definitions.specs.Words.{Extent, IsShape}
use Rattle.dynkin_map.specs.Coordinates.{lie_bounds}
use Rattle.book.specs.declared.query.Allowed.TheVariants.{Fits}
use Rattle.book.specs.Looks.{AllowsSignatures}
use Rattle.session.proofs.AllowedLaws.{flat-signatures, table-signatures}
use Rattle.session.proofs.query.allowed_for.Goals as goal

pub returns-in-Signature-clause-signatures : goal.returns-in-Signature-clause-signatures
returns-in-Signature-clause-signatures c =
    let same : c.shape.result ≡ c.args.basis.now = c.shape.ensures.value ∙ c.hall.ensures in
    subst (λ (extent : Extent). AllowsSignatures extent (Fits c.flat.result)) same
    (subst (λ (factors : List ℕ). AllowsSignatures c.shape.result (Fits factors)) (sym c.flat.ensures) (flat-signatures c.shape.result))

pub returns-in-Ok-clause-signatures : goal.returns-in-Ok-clause-signatures
returns-in-Ok-clause-signatures c =
    let same : c.dynkin.result.now ≡ c.args.basis.now = c.dynkin.ensures.value ∙ c.get.ensures ∙ c.in-Ok.ensures.tables in
    subst (λ (factors : List ℕ). AllowsSignatures c.args.basis.now (Fits factors)) (sym (c.bound.ensures.value ∙ ap lie_bounds same))
    (table-signatures c.args.basis.now (subst IsShape same c.bound.ensures.shape))
