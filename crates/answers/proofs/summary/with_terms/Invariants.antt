use Rattle.std.proofs.Common.{◌≡◌, ◌^◌, pos, ◌+ℤ◌, take, map}
use Rattle.answers.specs.Generator.{int_sum, int_mod}
use Rattle.answers.proofs.summary.with_terms.Given as goal

abbrev pub invariant-loop-term : goal.invariant-loop-term
invariant-loop-term l = l.sum ≡ int_mod (pos l.initial.sum +ℤ int_sum (map (λ t. t.factor) (take l.term-index l.terms))) (2 ^ 64)
