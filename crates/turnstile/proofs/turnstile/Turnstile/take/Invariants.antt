use Rattle.std.proofs.Common.{◌≡◌}
use Rattle.turnstile.proofs.turnstile.Turnstile.take.Given as goal

-- an exchange that failed has changed nothing
abbrev pub invariant-loop : goal.invariant-loop
invariant-loop g l = (l.pass.seat.me ≡ l.initial.pass.seat.me) × (l.pass.seat.table_id ≡ l.initial.pass.seat.table_id)
