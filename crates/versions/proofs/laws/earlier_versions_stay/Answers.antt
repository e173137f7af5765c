use Rattle.versions.proofs.Replays.{rows_at-append}
use Rattle.versions.proofs.laws.earlier_versions_stay.Goals as goal

pub returns : goal.returns
returns c = rows_at-append
