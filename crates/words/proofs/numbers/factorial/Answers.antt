use Rattle.words.proofs.Tables.{factorials-right}
use Rattle.words.proofs.numbers.factorial.Goals as goal

pub returns : goal.returns
returns c = factorials-right c.args.n c.requires
