use Rattle.std.proofs.Common.{◌≡◌, ◌≤◌, ◌+◌, ◌^◌, ◌∙◌, ℕ, ap, sym, subst, arith}
use Rattle.definitions.specs.Words.{IsShape}
use Rattle.definitions.specs.Signature.{limit}
use Rattle.scaled_tensor.specs.Tensors.{TensorValue}
use Rattle.tensor_product.specs.Multiplication.{IsProduct}
use Rattle.tensor_product.specs.Sigs.{SigValue, StandsFor, IsBoundedBy}
use Rattle.tensor_product.proofs.SigLaws.{weight-fits}
use Rattle.tensor_product.proofs.MultiplyLaws.{product-IsSig, product-stands}
use Rattle.tensor_product.proofs.sig.join_by.Goals as goal

pub join_bounded-requires-clause-weight : goal.join_bounded-requires-clause-weight
join_bounded-requires-clause-weight c =
    subst (λ (t : TensorValue). IsBoundedBy t c.weight-added.result) (sym c.tensor.ensures.value)
    (subst (λ (n : ℕ). IsBoundedBy c.args.b.now.tensor n) (sym c.weight-added.ensures.value) c.requires.sig.bounded)

pub join_bounded-requires-clause-fits : goal.join_bounded-requires-clause-fits
join_bounded-requires-clause-fits c =
    let b : SigValue = c.args.b.now in
    let fit : (c.s.inside.weight + b.weight) ^ c.s.inside.tensor.extent.depth ≤ limit = subst (λ (v : SigValue). (v.weight + b.weight) ^ v.tensor.extent.depth ≤ limit) (sym c.s.view_is) c.requires.fits in
    subst (λ (n : ℕ). (c.s.inside.weight + n) ^ c.s.inside.tensor.extent.depth ≤ limit) (sym c.weight-added.ensures.value) fit

pub join_bounded-requires-clause-sum : goal.join_bounded-requires-clause-sum
join_bounded-requires-clause-sum c =
    let s : SigValue = record { tensor = c.s.inside.tensor; weight = c.s.inside.weight } in
    let b : SigValue = c.args.b.now in
    let fit : (s.weight + b.weight) ^ s.tensor.extent.depth ≤ limit = subst (λ (v : SigValue). (v.weight + b.weight) ^ v.tensor.extent.depth ≤ limit) (sym c.s.view_is) c.requires.fits in
    let shape : IsShape s.tensor.extent = subst (λ (v : SigValue). IsShape v.tensor.extent) (sym c.s.view_is) c.requires.shape in
    omega (arith, weight-fits (s.weight + b.weight) s.tensor.extent.depth shape.some_depth fit, c.weight-added.ensures.value)

pub join_bounded-requires-clause-begins : goal.join_bounded-requires-clause-begins
join_bounded-requires-clause-begins c = c.s.invariant.starts

pub overflow_add-s : goal.overflow_add-s
overflow_add-s c =
    let s : SigValue = record { tensor = c.s.inside.tensor; weight = c.s.inside.weight } in
    let b : SigValue = c.args.b.now in
    let fit : (s.weight + b.weight) ^ s.tensor.extent.depth ≤ limit = subst (λ (v : SigValue). (v.weight + b.weight) ^ v.tensor.extent.depth ≤ limit) (sym c.s.view_is) c.requires.fits in
    let shape : IsShape s.tensor.extent = subst (λ (v : SigValue). IsShape v.tensor.extent) (sym c.s.view_is) c.requires.shape in
    omega (arith, weight-fits (s.weight + b.weight) s.tensor.extent.depth shape.some_depth fit, c.weight-added.ensures.value)

pub invariant_of-s : goal.invariant_of-s
invariant_of-s c =
    let s : SigValue = record { tensor = c.s.inside.tensor; weight = c.s.inside.weight } in
    let b : SigValue = c.args.b.now in
    let v : ℕ = c.s.inside.weight + c.weight-added.result in
    let same : b.tensor.extent ≡ s.tensor.extent = c.requires.same ∙ sym (ap (λ (v : SigValue). v.tensor.extent) c.s.view_is) in
    let sum : v ≡ s.weight + b.weight = ap (λ (n : ℕ). s.weight + n) c.weight-added.ensures.value in
    let fit : (s.weight + b.weight) ^ s.tensor.extent.depth ≤ limit = subst (λ (v : SigValue). (v.weight + b.weight) ^ v.tensor.extent.depth ≤ limit) (sym c.s.view_is) c.requires.fits in
    let made : IsProduct s.tensor b.tensor c.join_bounded.new.a = subst (λ (t : TensorValue). IsProduct s.tensor t c.join_bounded.new.a) c.tensor.ensures.value c.join_bounded.ensures in
    product-IsSig s b c.join_bounded.new.a v c.s.invariant c.requires.sig same made sum (subst (λ (n : ℕ). n ^ s.tensor.extent.depth ≤ limit) (sym sum) fit)

pub returns-clause-stands : goal.returns-clause-stands
returns-clause-stands c = λ A B first second.
    let s : SigValue = record { tensor = c.s.inside.tensor; weight = c.s.inside.weight } in
    let b : SigValue = c.args.b.now in
    let v : ℕ = c.s.inside.weight + c.weight-added.result in
    let same : b.tensor.extent ≡ s.tensor.extent = c.requires.same ∙ sym (ap (λ (v : SigValue). v.tensor.extent) c.s.view_is) in
    let sum : v ≡ s.weight + b.weight = ap (λ (n : ℕ). s.weight + n) c.weight-added.ensures.value in
    let made : IsProduct s.tensor b.tensor c.join_bounded.new.a = subst (λ (t : TensorValue). IsProduct s.tensor t c.join_bounded.new.a) c.tensor.ensures.value c.join_bounded.ensures in
    product-stands s b c.join_bounded.new.a v A B same made sum (subst (λ (v : SigValue). StandsFor v A) (sym c.s.view_is) first) second
