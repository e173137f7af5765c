use Rattle.std.proofs.Common.{◌≡◌, ◌+◌}
use mathlib.Core.List.{IsPrefix}
use Rattle.turnstile.specs.Passes.{view}
use Rattle.session.specs.Moments.{moments_of, units_by}
use Rattle.session.specs.Holds.{seen_book, IsStill}
use Rattle.session.specs.Serving.{IsServing}
use Rattle.session.specs.Turns.{IsIdle}
use Rattle.session.proofs.serve.serve.Given as goal

abbrev pub invariant-loop-command : goal.invariant-loop-command
invariant-loop-command g l = record {
  idle : IsIdle l.turns l.pass;
  still : IsStill (view l.fn.pass) (view l.pass);
  serving : IsServing l.script (view l.pass) l.command-index l.transcript;
  kept : IsPrefix (view l.fn.pass).own (view l.pass).own;
  ticks : l.steps ≡ l.initial.steps + units_by (moments_of (seen_book (view l.pass)) (view l.fn.pass).label);
}
