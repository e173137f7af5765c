use Rattle.std.proofs.Common.{sym}
use Rattle.definitions.proofs.Binomials.{binom_above}
use Rattle.words.proofs.numbers.binom.Goals as goal

pub returns-then-k-n : goal.returns-then-k-n
returns-then-k-n c = sym (binom_above c.args.n c.args.k c.if-k-n.true)
