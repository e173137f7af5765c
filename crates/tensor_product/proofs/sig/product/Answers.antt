use Rattle.std.proofs.Common.{◌≡◌, ◌≤◌, ◌+◌, ◌^◌, ◌∙◌, ℕ, [], pos, ap, ap₂, sym, subst, arith}
use Rattle.definitions.specs.Words.{Extent, IsShape}
use Rattle.definitions.specs.Signature.{limit}
use Rattle.scaled_tensor.specs.Tensors.{TensorValue, coefficient}
use Rattle.tensor_product.specs.Multiplication.{IsProduct}
use Rattle.tensor_product.specs.Sigs.{SigValue, IsBoundedBy}
use Rattle.tensor_product.proofs.SigLaws.{weight-fits}
use Rattle.tensor_product.proofs.MultiplyLaws.{product-IsSig, product-stands}
use Rattle.tensor_product.proofs.sig.product.Goals as goal

pub overflow_add-weight : goal.overflow_add-weight
overflow_add-weight c =
    let shape : IsShape c.args.a.now.tensor.extent = subst (λ (t : TensorValue). IsShape t.extent) c.tensor.ensures.value c.shape-shape.ensures.shape in
    let shape_b : IsShape c.args.b.now.tensor.extent = subst IsShape (sym c.requires) shape in
    omega (
      arith,
      weight-fits c.args.a.now.weight c.args.a.now.tensor.extent.depth shape.some_depth c.weight.ensures.sig.fits,
      weight-fits c.args.b.now.weight c.args.b.now.tensor.extent.depth shape_b.some_depth c.weight-2.ensures.sig.fits,
      c.weight.ensures.value,
      c.weight-2.ensures.value,
    )

pub join_bounded-requires-clause-begins : goal.join_bounded-requires-clause-begins
join_bounded-requires-clause-begins c =
    let copied : c.in_ok-tensor.tensor ≡ c.args.a.now.tensor = c.in_ok-tensor.ensures ∙ c.tensor-2.ensures.value in
    subst (λ (t : TensorValue). coefficient t [] ≡ pos 1) (sym copied) c.weight.ensures.sig.starts

pub join_bounded-requires-clause-bounded : goal.join_bounded-requires-clause-bounded
join_bounded-requires-clause-bounded c =
    let copied : c.in_ok-tensor.tensor ≡ c.args.a.now.tensor = c.in_ok-tensor.ensures ∙ c.tensor-2.ensures.value in
    subst (λ (t : TensorValue). IsBoundedBy t c.weight-3.result) (sym copied)
    (subst (λ (n : ℕ). IsBoundedBy c.args.a.now.tensor n) (sym c.weight-3.ensures.value) c.weight-3.ensures.sig.bounded)

pub join_bounded-requires-clause-weight : goal.join_bounded-requires-clause-weight
join_bounded-requires-clause-weight c =
    subst (λ (t : TensorValue). IsBoundedBy t c.weight-4.result) (sym c.tensor-3.ensures.value)
    (subst (λ (n : ℕ). IsBoundedBy c.args.b.now.tensor n) (sym c.weight-4.ensures.value) c.weight-4.ensures.sig.bounded)

pub join_bounded-requires-clause-fits : goal.join_bounded-requires-clause-fits
join_bounded-requires-clause-fits c =
    let a : SigValue = c.args.a.now in
    let b : SigValue = c.args.b.now in
    let sum : c.weight.result + c.weight-2.result ≡ a.weight + b.weight = ap₂ ◌+◌ c.weight.ensures.value c.weight-2.ensures.value in
    let again : c.weight-3.result + c.weight-4.result ≡ a.weight + b.weight = ap₂ ◌+◌ c.weight-3.ensures.value c.weight-4.ensures.value in
    let extent : c.shape-shape.result ≡ a.tensor.extent = c.shape-shape.ensures.value ∙ ap (λ (t : TensorValue). t.extent) c.tensor.ensures.value in
    let fit : (a.weight + b.weight) ^ a.tensor.extent.depth ≤ limit =
    subst (λ (n : ℕ). n ^ a.tensor.extent.depth ≤ limit) sum (subst (λ (e : Extent). (c.weight.result + c.weight-2.result) ^ e.depth ≤ limit) extent c.in_ok-weight.ensures.1) in
    let copied : c.in_ok-tensor.tensor ≡ a.tensor = c.in_ok-tensor.ensures ∙ c.tensor-2.ensures.value in
    subst (λ (t : TensorValue). (c.weight-3.result + c.weight-4.result) ^ t.extent.depth ≤ limit) (sym copied) (subst (λ (n : ℕ). n ^ a.tensor.extent.depth ≤ limit) (sym again) fit)

pub join_bounded-requires-clause-sum : goal.join_bounded-requires-clause-sum
join_bounded-requires-clause-sum c =
    let a : SigValue = c.args.a.now in
    let b : SigValue = c.args.b.now in
    let sum : c.weight.result + c.weight-2.result ≡ a.weight + b.weight = ap₂ ◌+◌ c.weight.ensures.value c.weight-2.ensures.value in
    let extent : c.shape-shape.result ≡ a.tensor.extent = c.shape-shape.ensures.value ∙ ap (λ (t : TensorValue). t.extent) c.tensor.ensures.value in
    let fit : (a.weight + b.weight) ^ a.tensor.extent.depth ≤ limit =
    subst (λ (n : ℕ). n ^ a.tensor.extent.depth ≤ limit) sum (subst (λ (e : Extent). (c.weight.result + c.weight-2.result) ^ e.depth ≤ limit) extent c.in_ok-weight.ensures.1) in
    let shape : IsShape a.tensor.extent = subst (λ (t : TensorValue). IsShape t.extent) c.tensor.ensures.value c.shape-shape.ensures.shape in
    omega (arith, weight-fits (a.weight + b.weight) a.tensor.extent.depth shape.some_depth fit, c.weight-3.ensures.value, c.weight-4.ensures.value)

pub invariant_of-result : goal.invariant_of-result
invariant_of-result c =
    let a : SigValue = c.args.a.now in
    let b : SigValue = c.args.b.now in
    let sum : c.in_ok-weight.weight ≡ a.weight + b.weight = c.in_ok-weight.ensures.0 ∙ ap₂ ◌+◌ c.weight.ensures.value c.weight-2.ensures.value in
    let extent : c.shape-shape.result ≡ a.tensor.extent = c.shape-shape.ensures.value ∙ ap (λ (t : TensorValue). t.extent) c.tensor.ensures.value in
    let fit : c.in_ok-weight.weight ^ a.tensor.extent.depth ≤ limit =
    subst (λ (n : ℕ). n ^ a.tensor.extent.depth ≤ limit) (sym c.in_ok-weight.ensures.0) (subst (λ (e : Extent). (c.weight.result + c.weight-2.result) ^ e.depth ≤ limit) extent c.in_ok-weight.ensures.1) in
    let copied : c.in_ok-tensor.tensor ≡ a.tensor = c.in_ok-tensor.ensures ∙ c.tensor-2.ensures.value in
    let made : IsProduct a.tensor b.tensor c.join_bounded.new.a =
    subst (λ (t : TensorValue). IsProduct t b.tensor c.join_bounded.new.a) copied
    (subst (λ (t : TensorValue). IsProduct c.in_ok-tensor.tensor t c.join_bounded.new.a) c.tensor-3.ensures.value c.join_bounded.ensures) in
    product-IsSig a b c.join_bounded.new.a c.in_ok-weight.weight c.weight.ensures.sig c.weight-2.ensures.sig c.requires made sum fit

pub returns-clause-stands : goal.returns-clause-stands
returns-clause-stands c = λ A B first second.
    let a : SigValue = c.args.a.now in
    let b : SigValue = c.args.b.now in
    let sum : c.in_ok-weight.weight ≡ a.weight + b.weight = c.in_ok-weight.ensures.0 ∙ ap₂ ◌+◌ c.weight.ensures.value c.weight-2.ensures.value in
    let copied : c.in_ok-tensor.tensor ≡ a.tensor = c.in_ok-tensor.ensures ∙ c.tensor-2.ensures.value in
    let made : IsProduct a.tensor b.tensor c.join_bounded.new.a =
    subst (λ (t : TensorValue). IsProduct t b.tensor c.join_bounded.new.a) copied
    (subst (λ (t : TensorValue). IsProduct c.in_ok-tensor.tensor t c.join_bounded.new.a) c.tensor-3.ensures.value c.join_bounded.ensures) in
    product-stands a b c.join_bounded.new.a c.in_ok-weight.weight A B c.requires made sum first second
