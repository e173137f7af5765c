use Rattle.book.proofs.SeenLaws.{pending-stays_long}
use Rattle.book.proofs.laws.pending_look_stays.Goals as goal

pub returns : goal.returns
returns c = pending-stays_long
