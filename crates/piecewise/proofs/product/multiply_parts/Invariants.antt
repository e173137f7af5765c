use Rattle.piecewise.specs.Wholes.{UnfoldBefore}
use Rattle.piecewise.proofs.Products.{IsPartialProduct}
use Rattle.piecewise.proofs.product.multiply_parts.Given as goal

abbrev pub invariant-loop-place : goal.invariant-loop-place
invariant-loop-place l = record {
  product : IsPartialProduct l.hall l.parts l.place l.bound l.product;
  unfolds : UnfoldBefore l.hall l.parts l.place;
}
