use Rattle.std.proofs.Common.{◌≡◌, ◌∙◌, sym, ap, arith}
use Rattle.std.specs.Cmp.Rules.{signed_items}
use Rattle.scaled_tensor.specs.Tensors.{TensorValue}
use Rattle.scaled_tensor.proofs.TensorLaws.{same-parts}
use Rattle.scaled_tensor.proofs.tensor.Tensor.equal.Goals as goal

pub returns : goal.returns
returns c =
    let s : TensorValue = record { extent = c.self.inside.shape; coefficients = c.self.inside.coefficients.items } in
    let t : TensorValue = record { extent = c.other.inside.shape; coefficients = c.other.inside.coefficients.items } in
    let width : s.extent.width ≡ t.extent.width = omega (arith, c.if-width.false, c.width.ensures.value, c.width-2.ensures.value) in
    let depth : s.extent.depth ≡ t.extent.depth = omega (arith, c.if-depth.false, c.depth.ensures.value, c.depth-else-width.ensures.value) in (
      λ same.
          let items : c.as_slice.result.now ≡ c.as_slice-2.result.now = (signed_items _ _).0 (sym c.eq.ensures ∙ same) in
          sym c.self.view_is ∙ same-parts s t width depth (sym c.as_slice.ensures.value ∙ items ∙ c.as_slice-2.ensures.value) ∙ c.other.view_is,
      λ same.
          let parts : s ≡ t = c.self.view_is ∙ same ∙ sym c.other.view_is in
          c.eq.ensures ∙ (signed_items _ _).1 (c.as_slice.ensures.value ∙ ap (λ (v : TensorValue). v.coefficients) parts ∙ sym c.as_slice-2.ensures.value),
    )
