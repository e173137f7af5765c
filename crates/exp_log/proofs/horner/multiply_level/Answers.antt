use Rattle.scaled_tensor.specs.Tensors.{coefficient}
use Rattle.exp_log.proofs.HornerSteps.{IsCleared, cleared-room, cleared-product}
use Rattle.exp_log.proofs.horner.multiply_level.Goals as goal

pub join_level-requires-clause-room : goal.join_level-requires-clause-room
join_level-requires-clause-room g c =
    let clear : IsCleared c.args.j c.args.sum.now c.clear.new.self = record { same_extent = c.clear.ensures.extent; cleared = c.clear.ensures.cleared; others = c.clear.ensures.others } in
    cleared-room g.A.Arithmetic.most c.args.j (coefficient c.args.s.now) c.args.sum.now c.clear.new.self clear c.requires.room

pub returns-clause-product : goal.returns-clause-product
returns-clause-product g c =
    let clear : IsCleared c.args.j c.args.sum.now c.clear.new.self = record { same_extent = c.clear.ensures.extent; cleared = c.clear.ensures.cleared; others = c.clear.ensures.others } in
    cleared-product c.args.j (coefficient c.args.s.now) c.args.sum.now c.clear.new.self c.join_level.new.a clear c.join_level.ensures
