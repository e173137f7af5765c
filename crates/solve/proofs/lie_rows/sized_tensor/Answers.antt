use Rattle.solve.proofs.LieRows.{move-HasSizes}
use Rattle.solve.proofs.lie_rows.sized_tensor.Goals as goal

pub returns-clause-sized : goal.returns-clause-sized
returns-clause-sized c =
    move-HasSizes c.args.hall.now c.args.x.now c.in_ok-tensor.tensor c.write_sizes.new.sizes c.shape-shape.ensures.shape c.requires.move_of c.in_ok-tensor.ensures.extent c.in_ok-tensor.ensures.value c.write_sizes.ensures.value c.write_sizes.ensures.small
