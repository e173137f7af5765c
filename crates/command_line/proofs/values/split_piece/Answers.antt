use Rattle.std.proofs.Common.{lit<}
use Rattle.std.proofs.lemmas.Str.Pattern.{split_once_first}
use Rattle.command_line.proofs.Pieces.{first_piece}
use Rattle.command_line.proofs.values.split_piece.Goals as goal

pub returns : goal.returns
returns c = first_piece c.args.value.now _ (split_once_first 44 c.args.value.now _ c.split_once.ensures.cases (lit< tt))
