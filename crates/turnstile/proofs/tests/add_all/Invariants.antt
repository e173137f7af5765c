use Rattle.std.proofs.Common.{◌≡◌, false}
use Rattle.turnstile.specs.Passes.{view, IsPassOf}
use Rattle.turnstile.proofs.tests.add_all.Given as goal

-- between two rounds the pass is without the turn
abbrev pub invariant-loop-number : goal.invariant-loop-number
invariant-loop-number g l = IsPassOf l.fn.turns l.pass × ((view l.pass).turn ≡ false)
