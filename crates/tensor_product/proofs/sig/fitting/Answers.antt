use Rattle.std.proofs.Common.{◌≡◌, ◌<◌, ◌^◌, ℕ, List, true, false, refl, sym, subst, inl, inr}
use Rattle.std.proofs.lemmas.Bool.{cases_lt}
use Rattle.definitions.specs.Signature.{limit, Fits}
use Rattle.tensor_product.proofs.SigLaws.{fits-flat}
use Rattle.tensor_product.proofs.sig.fitting.Goals as goal

pub returns-else-fits : goal.returns-else-fits
returns-else-fits c =
    let past : limit < c.args.weight ^ c.args.shape.depth =
    elim (cases_lt limit (c.args.weight ^ c.args.shape.depth)) [
      | inl above ↦ above
      | inr within ↦
          let clash : false ≡ true = c.if-fits.ensures.1 (subst (λ (factors : List ℕ). Fits factors c.args.weight) (sym c.flat.ensures) (fits-flat c.args.weight c.args.shape.depth within)) in
          absurd (cc)
    ] in
    (refl, past)
