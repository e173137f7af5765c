use Rattle.exp_log.proofs.ShuffleRelations.{signature-obeys}
use Rattle.exp_log.proofs.laws.signature_obeys_shuffles.Goals as goal

pub returns : goal.returns
returns c = signature-obeys
