use Rattle.std.proofs.Common.{arith, refl}
use Rattle.solve.proofs.RowOrder.{in_order-from_adjacent}
use Rattle.solve.proofs.valid.are_in_order.Goals as goal

pub returns : goal.returns
returns c = ((λ _. in_order-from_adjacent c.args.rows.now c.loop-i.i (omega arith) c.loop-i.invariant), λ _. refl)
