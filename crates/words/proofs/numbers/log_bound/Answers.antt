use Rattle.words.proofs.Tables.{log_bounds-right}
use Rattle.words.proofs.numbers.log_bound.Goals as goal

pub returns : goal.returns
returns c = log_bounds-right c.args.k c.requires
