-- A session's place among the pending looks of a book, and beside it among the solutions.
use Rattle.std.proofs.Common.{◌≡◌, ℕ, ◌-◌, ◌<◌, sym, subst, arith, length, Option, None}
use Rattle.std.proofs.lemmas.List.{get_or-set_same}
use Rattle.solve.specs.declared.solution.Solved.{Solved}
use Rattle.versions.specs.Versions.{LogValue}
use Rattle.book.specs.Play.{PendingLook, pending_of, pending_with}
use Rattle.book.specs.Books.{BookValue, IsSession, state_of}
use Rattle.session.specs.Runs.{IsSolvedFor}
use Rattle.session.proofs.PendingLaws.{pending-length}

-- what is put at a session's place stands there
pub pending-put : (book : BookValue) (session : ℕ) (look : Option PendingLook) → IsSession book.sessions session
    → pending_of session (pending_with session look (state_of book).pending) ≡ look
pending-put book session look of_book =
    let within : session - 1 < length (state_of book).pending = omega (arith, pending-length book, of_book.some, of_book.within) in
    get_or-set_same (state_of book).pending (session - 1) look None within

-- no solution is needed where no look is pending
pub solved-none : (log : LogValue) (look : Option PendingLook) (solved : Option Solved) → look ≡ None → IsSolvedFor log look solved
solved-none log look solved none = subst (λ (l : Option PendingLook). IsSolvedFor log l solved) (sym none) tt
