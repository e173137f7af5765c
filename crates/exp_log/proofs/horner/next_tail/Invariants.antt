use Rattle.scaled_tensor.specs.Tensors.{coefficient}
use Rattle.exp_log.proofs.HornerSteps.{IsStepping}
use Rattle.exp_log.proofs.horner.next_tail.Given as goal

abbrev pub invariant-loop-j : goal.invariant-loop-j
invariant-loop-j g l = IsStepping (coefficient l.s) l.k l.m l.j l.initial.sum l.sum

abbrev pub decreases-loop-j : goal.decreases-loop-j
decreases-loop-j g l = l.j
