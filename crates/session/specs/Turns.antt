-- Passes with and without the turn.
use Rattle.std.specs.Prelude.{◌≡◌, false}
use Rattle.turnstile.specs.declared.kept.Kept.{Ghosts}
use Rattle.turnstile.specs.declared.pass.Pass.{Pass}
use Rattle.turnstile.specs.declared.turnstile.Turnstile.{Turnstile}
use Rattle.turnstile.specs.Passes.{view, IsPassOf}

-- the pass is one of this turnstile, and hasn't the turn
module _ {K E : Type 0} {g : Ghosts K E} where
  abbrev pub IsIdle : Turnstile K E → Pass K E g → Type 0
  IsIdle t p = IsPassOf t p × ((view p).turn ≡ false)
