use Rattle.words.proofs.Tables.{least_multiples-right}
use Rattle.words.proofs.numbers.lcm_to.Goals as goal

pub returns : goal.returns
returns c = least_multiples-right c.args.k c.requires
