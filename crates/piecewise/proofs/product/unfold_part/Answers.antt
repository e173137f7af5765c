use Rattle.piecewise.proofs.Parts.{part-refused}
use Rattle.piecewise.proofs.product.unfold_part.Goals as goal

pub returns-in-Err-clause-fault : goal.returns-in-Err-clause-fault
returns-in-Err-clause-fault c =
    part-refused c.args.hall.now c.args.z.now c.args.weight c.args.place c.in-Err.fault c.placed.result c.placed.ensures.memory c.placed.ensures.part c.in-Err.ensures.fault
