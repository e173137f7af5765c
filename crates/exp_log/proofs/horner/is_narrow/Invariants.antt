use Rattle.std.proofs.Common.{◌≡◌, ◌≤◌, ◌*◌, ◌^◌, ◌-◌}
use Rattle.definitions.specs.Logarithm.{log_bound}
use Rattle.exp_log.proofs.horner.is_narrow.Given as goal

abbrev pub invariant-loop-i : goal.invariant-loop-i
invariant-loop-i l = record { bound : l.bound ≡ l.weight ^ l._i * log_bound l.k; small : 1 ≤ l._i → l.bound ≤ 2 ^ 63 - 1 }
