use Rattle.std.proofs.Common.{◌≡◌, ◌^◌, pos, ◌+ℤ◌, take}
use Rattle.answers.specs.Generator.{int_sum, int_mod}
use Rattle.answers.proofs.summary.with_values.Given as goal

abbrev pub invariant-loop-value : goal.invariant-loop-value
invariant-loop-value l = l.sum ≡ int_mod (pos l.initial.sum +ℤ int_sum (take l.value-index l.values)) (2 ^ 64)
