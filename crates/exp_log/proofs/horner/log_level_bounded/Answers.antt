use Rattle.std.proofs.Common.{◌-◌, ◌^◌, refl, arith}
use Rattle.definitions.specs.Signature.{limit}
use Rattle.exp_log.proofs.Factors.{fits-at}
use Rattle.exp_log.proofs.HornerSteps.{log-room}
use Rattle.exp_log.proofs.horner.log_level_bounded.Goals as goal

pub log_level-requires-clause-room : goal.log_level-requires-clause-room
log_level-requires-clause-room c =
    log-room (2 ^ 63 - 1) c.args.s.now c.args.sum.now.extent c.args.weight c.args.k (omega arith) c.requires.shape c.requires.same c.requires.bounded c.requires.positive c.requires.k (c.if-is_narrow.ensures refl)

pub log_level-requires-else-is_narrow-clause-room : goal.log_level-requires-else-is_narrow-clause-room
log_level-requires-else-is_narrow-clause-room c =
    log-room limit c.args.s.now c.args.sum.now.extent c.args.weight c.args.k (omega arith) c.requires.shape c.requires.same c.requires.bounded c.requires.positive c.requires.k
    (fits-at c.args.weight c.args.sum.now.extent.depth c.args.k c.requires.fits c.requires.k)
