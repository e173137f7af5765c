use Rattle.std.proofs.Common.{◌≡◌, suc, ap, arith}
use Rattle.definitions.specs.Words.{Extent, shorter}
use Rattle.definitions.specs.Exponentials.{plain_product}
use Rattle.scaled_tensor.specs.Tensors.{coefficient}
use Rattle.tensor_product.proofs.ConcatenationLaws.{written-all}
use Rattle.tensor_product.proofs.concatenate.concatenate_tensors.Goals as goal

pub returns : goal.returns
returns c =
    let all : c.loop-k.k ≡ suc c.args.a.now.extent.depth = omega (arith, c.depth-k-end.ensures.value, ap (λ (e : Extent). e.depth) c.shape.ensures.value) in
    written-all (shorter c.args.a.now.extent.width c.loop-k.k) c.args.a.now.extent (plain_product (coefficient c.args.a.now) (coefficient c.args.b.now)) c.loop-k.product c.loop-k.invariant (ap (shorter c.args.a.now.extent.width) all)
