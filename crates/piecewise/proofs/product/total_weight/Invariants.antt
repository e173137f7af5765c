use Rattle.std.proofs.Common.{◌≡◌, take}
use Rattle.piecewise.specs.Wholes.{total_weight}
use Rattle.piecewise.proofs.product.total_weight.Given as goal

abbrev pub invariant-loop-part : goal.invariant-loop-part
invariant-loop-part l = l.total ≡ total_weight (take l.part-index l.parts)
