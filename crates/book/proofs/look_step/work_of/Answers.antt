use Rattle.std.proofs.Common.{◌≤◌, arith}
use Rattle.definitions.specs.Signature.{limit}
use Rattle.solve.specs.Plans.{total_weight}
use Rattle.tensor_product.proofs.SigLaws.{weight-fits}
use Rattle.book.proofs.LookingLaws.{not_refused}
use Rattle.book.proofs.look_step.work_of.Goals as goal

pub of-requires : goal.of-requires
of-requires c =
    let small : total_weight c.args.plans.items ≤ limit = weight-fits (total_weight c.args.plans.items) c.args.shape.depth c.depth.ensures.shape.some_depth c.requires.fits in
    omega arith

pub unreachable-requires : goal.unreachable-requires
unreachable-requires c = not_refused c.args.shape c.args.plans.items c.in-Err.field-0 c.requires.valid c.requires.fits c.in-Err.ensures
