use Rattle.definitions.specs.Signature.{signature}
use Rattle.exp_log.proofs.LogarithmsOnShuffles.{signature-IsGrouplike, logarithm-shuffles}
use Rattle.exp_log.proofs.laws.logarithm_vanishes_on_shuffles.Goals as goal

pub returns : goal.returns
returns c = λ moves. logarithm-shuffles (signature moves) (signature-IsGrouplike moves)
