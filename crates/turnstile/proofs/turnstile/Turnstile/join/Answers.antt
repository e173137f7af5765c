use Rattle.std.proofs.Common.{rules, ◌∙◌, ap}
use Rattle.turnstile.specs.Steps.{slots_out}
use Rattle.turnstile.proofs.Passing.{joins, compares}
use Rattle.turnstile.proofs.turnstile.Turnstile.join.Goals as goal

pub join_seat-requires : goal.join_seat-requires
join_seat-requires g c = (search rules, search rules, c.args.other.slots ∙ ap slots_out c.requires.free.1, search rules, joins g.K.Kept.entries g.K.Kept.label g.K.Kept.frame _ _ _ _ c.args.pass.now.live c.args.other.live c.requires.free.1)

pub load-requires : goal.load-requires
load-requires g c = (search rules, search rules, compares g.K.Kept.entries g.K.Kept.label g.K.Kept.frame _ _ _ (search rules))
