use Rattle.std.proofs.Common.{◌≡◌, drop}
use Rattle.std.specs.List.{find}
use Rattle.definitions.specs.Words.{up_to}
use Rattle.session.specs.Play.{has_next}
use Rattle.session.specs.Runs.{run_of}
use Rattle.session.proofs.orders.first_with.Given as goal

abbrev pub invariant-loop-before : goal.invariant-loop-before
invariant-loop-before l =
    find (has_next l.script.extent (run_of l.script l.run.book)) (drop l.fn.after (up_to l.to)) ≡ find (has_next l.script.extent (run_of l.script l.run.book)) (drop l.before (up_to l.to))
