use Rattle.piecewise.specs.Wholes.{UnfoldBefore}
use Rattle.piecewise.proofs.product.try_parts.Given as goal

abbrev pub invariant-loop-place : goal.invariant-loop-place
invariant-loop-place l = UnfoldBefore l.hall l.parts l.place
