use Rattle.std.proofs.Common.{rules}
use Rattle.turnstile.proofs.Passing.{splits}
use Rattle.turnstile.proofs.turnstile.Turnstile.split.Goals as goal

pub split_seat-seat-requires : goal.split_seat-seat-requires
split_seat-seat-requires g c = (search rules, search rules, splits g.K.Kept.entries g.K.Kept.label g.K.Kept.frame _ _ c.requires.first c.requires.free c.args.pass.now.live)
