use Rattle.std.proofs.Common.{◌≡◌, replicate, None}
use Rattle.book.proofs.book.Book.new.Given as goal

abbrev pub invariant-loop-session : goal.invariant-loop-session
invariant-loop-session l = l.pending.items ≡ replicate l._session None
