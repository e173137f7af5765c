use Rattle.std.proofs.Common.{◌≡◌, ◌^◌}
use Rattle.tensor_product.proofs.LevelLaws.{AreSums}
use Rattle.tensor_product.proofs.extend.extend_level.Given as goal

abbrev pub invariant-loop-j : goal.invariant-loop-j
invariant-loop-j g l = record {
  count_is : l.count ≡ l.tensor.extent.width ^ l.j;
  sums : AreSums l.tensor l.x l.k l.j l.sums;
}
