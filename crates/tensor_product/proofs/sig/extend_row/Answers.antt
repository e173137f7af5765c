use Rattle.std.proofs.Common.{arith, subst}
use Rattle.definitions.specs.Words.{IsShape}
use Rattle.scaled_tensor.specs.Tensors.{TensorValue}
use Rattle.tensor_product.proofs.SigLaws.{weight-fits}
use Rattle.tensor_product.proofs.sig.extend_row.Goals as goal

pub overflow_add-weight : goal.overflow_add-weight
overflow_add-weight g c =
    let shape : IsShape c.args.s.now.tensor.extent = subst (λ (t : TensorValue). IsShape t.extent) c.tensor.ensures.value c.shape.ensures.shape in
    omega (arith, weight-fits c.args.s.now.weight c.args.s.now.tensor.extent.depth shape.some_depth c.weight.ensures.sig.fits, c.weight.ensures.value, c.greatest_entry-added.ensures.bound)
