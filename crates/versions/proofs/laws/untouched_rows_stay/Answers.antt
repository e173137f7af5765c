use Rattle.versions.proofs.Untouched.{untouched, untouched-since}
use Rattle.versions.proofs.laws.untouched_rows_stay.Goals as goal

pub returns : goal.returns
returns c = record {
  between = λ log a b s v is. untouched a b log is s v;
  last = λ log a b v is. untouched-since a b log is v;
}
