use Rattle.std.proofs.Common.{◌≡◌, ◌<◌, ℕ, get_or, pos}
use Rattle.std.specs.Prelude.{int_rem}
use Rattle.piecewise.proofs.levels.all_multiples.Given as goal

abbrev pub invariant-loop-number : goal.invariant-loop-number
invariant-loop-number l = (i : ℕ) → i < l.number-index → int_rem (get_or l.numbers i (pos 0)) (pos l.divisor) ≡ pos 0
