use Rattle.std.proofs.Common.{arith, ◌-◌, length}
use Rattle.spellings.proofs.LineLaws.{return_dropped, return_absent}
use Rattle.spellings.proofs.lines.without_return.Goals as goal

pub returns-then-last-eq13 : goal.returns-then-last-eq13
returns-then-last-eq13 c = return_dropped c.args.line.now (length c.args.line.now - 1) (omega arith) c.if-last-eq13.true

pub returns-else-last-eq13 : goal.returns-else-last-eq13
returns-else-last-eq13 c = return_absent c.args.line.now (length c.args.line.now - 1) (omega arith) c.if-last-eq13.false
