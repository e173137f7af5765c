use Rattle.std.proofs.Common.{◌≡◌, ◌*◌, ◌^◌, ◌≤◌, take}
use Rattle.definitions.specs.Signature.{weight}
use Rattle.cbh_calc.proofs.products.weight_of_moves.Given as goal

abbrev pub invariant-loop-x : goal.invariant-loop-x
invariant-loop-x l = record {
  value : l.sum ≡ weight (take l.x-index l.moves);
  bound : l.sum ≤ l.x-index * 2 ^ 64;
}
