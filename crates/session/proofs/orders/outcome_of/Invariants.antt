use Rattle.std.proofs.Common.{◌≡◌, take}
use Rattle.std.specs.Prelude.{map}
use Rattle.book.specs.Play.{session_of}
use Rattle.session.proofs.orders.outcome_of.Given as goal

abbrev pub invariant-loop-taken : goal.invariant-loop-taken
invariant-loop-taken l = l.order.items ≡ map session_of (take l.taken-index l.taken-items)
