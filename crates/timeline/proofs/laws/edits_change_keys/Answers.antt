use Rattle.timeline.proofs.Edits.{appended-at, corrected-at, removed-at}
use Rattle.timeline.proofs.laws.edits_change_keys.Goals as goal

pub returns : goal.returns
returns c = record {
  appended = appended-at;
  corrected = corrected-at;
  removed = removed-at;
}
