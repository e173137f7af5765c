-- What contracts see of a turnstile and of its passes.
use Rattle.std.specs.Prelude.{◌≡◌}
use Rattle.turnstile.specs.declared.kept.Kept.{Ghosts}
use Rattle.turnstile.specs.declared.view.PassView.{PassView}
use Rattle.turnstile.specs.declared.pass.Pass.{Pass}
use Rattle.turnstile.specs.declared.turnstile.Turnstile.{Turnstile}

module _ {K E : Type 0} {g : Ghosts K E} where
  -- what a pass knows
  abbrev pub view : Pass K E g → PassView E
  view p = p.seat.me.0.pass

  -- the pass is one of this turnstile
  abbrev pub IsPassOf : Turnstile K E → Pass K E g → Type 0
  IsPassOf t p = p.seat.table_id ≡ t.table.shared.table_id
