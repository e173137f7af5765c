use Rattle.watches.proofs.Touching.{unlisted-stay}
use Rattle.watches.proofs.laws.unlisted_rows_stay.Goals as goal

pub returns : goal.returns
returns c = λ log a b v is. unlisted-stay a b log v is
