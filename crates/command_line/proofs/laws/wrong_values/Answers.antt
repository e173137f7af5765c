use Rattle.command_line.proofs.WrongValues.{empty_is_wrong, minus_is_wrong}
use Rattle.command_line.proofs.laws.wrong_values.Goals as goal

pub returns-clause-empty : goal.returns-clause-empty
returns-clause-empty c = empty_is_wrong

pub returns-clause-minus : goal.returns-clause-minus
returns-clause-minus c = minus_is_wrong
