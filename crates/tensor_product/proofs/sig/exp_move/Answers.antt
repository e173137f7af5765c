use Rattle.std.proofs.Common.{◌≡◌, ◌∙◌, ◌≤◌, ◌^◌, ℕ, List, ap, ap₂, sym, subst}
use Rattle.definitions.specs.Words.{Extent}
use Rattle.definitions.specs.Moves.{weight_from}
use Rattle.definitions.specs.Signature.{limit}
use Rattle.scaled_tensor.specs.Tensors.{TensorValue}
use Rattle.tensor_product.specs.Exponentiation.{IsExponentialOf}
use Rattle.tensor_product.specs.Sigs.{SigValue}
use Rattle.tensor_product.proofs.ExponentialLaws.{exponential-IsSig}
use Rattle.tensor_product.proofs.ExponentialSteps.{room-by-weight}
use Rattle.tensor_product.proofs.sig.exp_move.Goals as goal

pub exponential_of-requires : goal.exponential_of-requires
exponential_of-requires g c =
    let z : TensorValue = c.args.z.now in
    let sizes : List ℕ = c.args.sizes.now in
    let weight : c.weight_of.result ≡ weight_from z.extent.depth 1 sizes = c.weight_of.ensures ∙ ap (λ (n : ℕ). weight_from n 1 sizes) c.requires.each in
    let depth : c.shape.result.depth ≡ z.extent.depth = ap (λ (e : Extent). e.depth) c.shape.ensures.value in
    let same : c.weight_of.result ^ c.shape.result.depth ≡ weight_from z.extent.depth 1 sizes ^ z.extent.depth = ap₂ (λ (v n : ℕ). v ^ n) weight depth in
    let fits : weight_from z.extent.depth 1 sizes ^ z.extent.depth ≤ limit = subst (λ (n : ℕ). n ≤ limit) same c.in_ok-weight.ensures.1 in
    room-by-weight z sizes c.requires c.shape.ensures.shape.some_depth fits

pub invariant_of-result : goal.invariant_of-result
invariant_of-result g c =
    let z : TensorValue = c.args.z.now in
    let sizes : List ℕ = c.args.sizes.now in
    let s : SigValue = record { tensor = c.in_ok-tensor.tensor; weight = c.in_ok-weight.weight } in
    let weight : c.in_ok-weight.weight ≡ weight_from z.extent.depth 1 sizes =
    c.in_ok-weight.ensures.0 ∙ c.weight_of.ensures ∙ ap (λ (n : ℕ). weight_from n 1 sizes) c.requires.each in
    let depth : c.shape.result.depth ≡ c.in_ok-tensor.tensor.extent.depth = ap (λ (e : Extent). e.depth) (c.shape.ensures.value ∙ sym c.in_ok-tensor.ensures.extent) in
    let same : c.weight_of.result ^ c.shape.result.depth ≡ c.in_ok-weight.weight ^ c.in_ok-tensor.tensor.extent.depth = ap₂ (λ (v n : ℕ). v ^ n) (sym c.in_ok-weight.ensures.0) depth in
    let is : IsExponentialOf z sizes s = record { same_extent = c.in_ok-tensor.ensures.extent; weighs = weight; coefficients = c.in_ok-tensor.ensures.values } in
    exponential-IsSig z sizes s c.requires is (subst (λ (n : ℕ). n ≤ limit) same c.in_ok-weight.ensures.1)
