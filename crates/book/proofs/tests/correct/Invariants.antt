use Rattle.std.proofs.Common.{◌≡◌, List}
use Rattle.solve.specs.declared.solution.SolvedNode.{SolvedNode}
use Rattle.book.specs.Play.{pending_of}
use Rattle.book.specs.Books.{BookValue, IsSettledBy, IsPendingOr, state_of, log_of}
use Rattle.book.proofs.tests.correct.Given as goal

-- these nodes settle the look of session 1
abbrev Settles : BookValue → List SolvedNode → Type 0
Settles book solved = IsSettledBy (log_of book) (pending_of 1 (state_of book).pending) solved × IsPendingOr (state_of book).edits (pending_of 1 (state_of book).pending)

abbrev pub invariant-loop-time : goal.invariant-loop-time
invariant-loop-time l = record {
  sessions : l.book.sessions ≡ l.fn.book.sessions;
  extent : l.book.extent ≡ l.fn.book.extent;
  settles : (solved : List SolvedNode) → Settles l.fn.book solved → Settles l.book solved;
}
