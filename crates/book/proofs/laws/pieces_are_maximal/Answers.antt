use Rattle.book.proofs.PieceLaws.{pieces_of-are}
use Rattle.book.proofs.laws.pieces_are_maximal.Goals as goal

pub returns : goal.returns
returns c = λ a b rises within. pieces_of-are a b rises within
