-- The book behind the turnstile, and what one hold of it does.
use Rattle.std.specs.Prelude.{◌≡◌, ℕ, ◌+◌, ◌<◌, ◌≤◌, ◌^◌, ◌⊎◌, false, true, List, [], ◌∷◌, ◌++◌, length, Option}
use mathlib.Core.List.{IsPrefix}
use Rattle.turnstile.specs.declared.view.PassView.{PassView}
use Rattle.turnstile.specs.Entries.{of_label}
use Rattle.book.specs.declared.query.Query.{Query}
use Rattle.book.specs.declared.step.Step.{Step}
use Rattle.book.specs.Play.{Request, PendingLook, pending_of, session_of, step_of}
use Rattle.book.specs.Looks.{look_visits}
use Rattle.book.specs.Books.{BookValue, IsBook, IsSession, state_of}

-- what no hold changes: the width, the depth, the capacity and the number of sessions
abbrev pub frame_of : BookValue → List ℕ
frame_of book = book.extent.width ∷ book.extent.depth ∷ book.capacity ∷ book.sessions ∷ []

-- the book of this frame that took these steps, and isn't spent; another list is no frame
abbrev pub book_of : List ℕ → List Step → BookValue
book_of (width ∷ depth ∷ capacity ∷ sessions ∷ []) history = record {
  extent = record { width = width; depth = depth };
  capacity = capacity;
  sessions = sessions;
  history = history;
  spent = false;
}
book_of _ history = record { extent = record { width = 0; depth = 0 }; capacity = 0; sessions = 0; history = history; spent = true }

-- the book as far as a pass has seen it
abbrev pub seen_book : PassView Step → BookValue
seen_book v = book_of v.frame v.seen

-- the pass is the same one
pub record IsStill (v w : PassView Step) : Type 0 where
  pub label : w.label ≡ v.label
  pub frame : w.frame ≡ v.frame

-- the pass after its hold: it has seen this history and the step, which it added, and is without the turn
abbrev pub with_step : PassView Step → List Step → Step → PassView Step
with_step v history step = record v { seen = history ++ step ∷ []; own = v.own ++ step ∷ []; turn = false; taken = [] }

-- The steps that a hold finds: they go on from what the pass knew, and those of its session are its own.
pub record IsTaken (v : PassView Step) (history : List Step) : Type 0 where
  pub book : IsBook (book_of v.frame history)
  pub seen : IsPrefix v.seen history
  pub own : of_label session_of v.label history ≡ v.own

-- One hold: it found these steps, and added that of the request.
pub record Adds (v w : PassView Step) (history : List Step) (request : Request) : Type 0 where
  pub taken : IsTaken v history
  pub after : w ≡ with_step v history (step_of (state_of (book_of v.frame history)) request)

-- A hold that gave up: the pass added nothing, knows all that it knew, and is without the turn.
pub record GaveUp (v w : PassView Step) : Type 0 where
  pub own : w.own ≡ v.own
  pub seen : IsPrefix v.seen w.seen
  pub turn : w.turn ≡ false

-- a look that gave up took no more units than there are nodes to visit in the book that it found, and none where it found none
abbrev pub TookAtMost : PassView Step → Query → ℕ → ℕ → Type 0
TookAtMost v q before after =
    (after ≡ before) ⊎ ((history : List Step) × IsTaken v history × (after ≤ before + look_visits (state_of (book_of v.frame history)) q))

-- the session of a pass may take a step more, as far as steps are counted
pub record CanStep (v : PassView Step) : Type 0 where
  pub session : IsSession (seen_book v).sessions v.label
  pub own : of_label session_of v.label v.seen ≡ v.own
  pub few : length v.own < 2 ^ 32

-- its look is pending, or none is
abbrev pub pending_in : PassView Step → Option PendingLook
pending_in v = pending_of v.label (state_of (seen_book v)).pending
