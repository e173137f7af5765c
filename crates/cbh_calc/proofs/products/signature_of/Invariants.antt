use Rattle.std.proofs.Common.{◌≡◌, take}
use Rattle.tensor_product.specs.Sigs.{StandsFor}
use Rattle.cbh_calc.proofs.products.signature_of.Given as goal

abbrev pub invariant-loop-x : goal.invariant-loop-x
invariant-loop-x l = record {
  extent : l.sig.tensor.extent ≡ l.hall;
  stands : StandsFor l.sig (take l.x-index l.moves);
}
