-- What one hold of the book finds, and what it adds.
use Rattle.std.proofs.Common.{◌≡◌, ◌∙◌, ℕ, ◌≤◌, refl, sym, ap, subst, arith, true, false, List, [], ◌∷◌, ◌++◌}
use Rattle.std.specs.Prelude.{None}
use mathlib.Core.List.{IsPrefix}
use Rattle.turnstile.specs.declared.view.PassView.{PassView}
use Rattle.solve.specs.declared.solution.SolvedNode.{SolvedNode}
use Rattle.book.specs.declared.step.Step.{Step}
use Rattle.book.specs.Play.{State, Request, pending_of, session_of, step_of}
use Rattle.book.specs.Books.{BookValue, IsReady, IsFree, IsSettledBy, state_of, log_of, with_request}
use Rattle.book.specs.declared.query.Query.{Query}
use Rattle.session.specs.declared.look.Looked.{Looked}
use Rattle.session.specs.Looks.{IsLooked}
use Rattle.session.specs.Holds.{frame_of, book_of, seen_book, pending_in, with_step, CanStep, IsTaken, IsStill, Adds, GaveUp}
use Rattle.session.proofs.TakenLaws.{taken-ready, taken-pending, taken-settles}

-- a book with sessions has a frame, which is its own
frame-of_book : (frame : List ℕ) (old new : List Step) → 1 ≤ (book_of frame old).sessions → frame_of (book_of frame new) ≡ frame
frame-of_book (width ∷ depth ∷ capacity ∷ sessions ∷ []) old new some = refl
frame-of_book frame old new some = absurd (omega arith)

-- a pass that takes the book
abbrev pub with_turn : PassView Step → List Step → PassView Step
with_turn v history = record v { turn = true; taken = history }

-- the pass v took this book, and then was w, with this label
pub record Holds (v w : PassView Step) (book : BookValue) (label : ℕ) : Type 0 where
  -- the session may do a step
  pub can : CanStep v
  -- the book goes on from what the pass knew
  pub taken : IsTaken v book.history
  -- it is the book of the pass's frame
  pub book_is : book ≡ book_of v.frame book.history
  -- the pass then has the turn, and has taken these steps
  pub turn : w ≡ with_turn v book.history
  -- its label is the number of its session
  pub label_is : label ≡ w.label

-- what is known of a hold, in one record
pub holds : {v w : PassView Step} {book : BookValue} {label : ℕ} → CanStep v → IsTaken v book.history → book ≡ book_of v.frame book.history → w ≡ with_turn v book.history
    → label ≡ w.label → Holds v w book label
holds can taken book_is turn label_is = record { can = can; taken = taken; book_is = book_is; turn = turn; label_is = label_is }

module _ {v w : PassView Step} {book : BookValue} {label : ℕ} (is : Holds v w book label) where
  label-own : label ≡ v.label
  label-own = is.label_is ∙ ap (λ (view : PassView Step). view.label) is.turn

  -- the session may take a step
  pub holds-ready : IsReady book label
  holds-ready =
      subst (IsReady book) (sym label-own)
      (subst (λ (b : BookValue). IsReady b v.label) (sym is.book_is) (taken-ready v book.history is.can is.taken))

  -- where the pass knows no pending look, there is none in the book
  pub holds-free : pending_in v ≡ None → IsFree book label
  holds-free free =
      ap (λ (session : ℕ). pending_of session (state_of book).pending) label-own
      ∙ ap (λ (b : BookValue). pending_of v.label (state_of b).pending) is.book_is
      ∙ taken-pending v book.history is.can is.taken ∙ free

  -- a solution of the look that the pass knew settles it
  pub holds-settled : (solved : List SolvedNode) → IsSettledBy (log_of (seen_book v)) (pending_in v) solved
      → IsSettledBy (log_of book) (pending_of label (state_of book).pending) solved
  holds-settled solved by =
      subst (λ (session : ℕ). IsSettledBy (log_of book) (pending_of session (state_of book).pending) solved) (sym label-own)
      (subst (λ (b : BookValue). IsSettledBy (log_of b) (pending_of v.label (state_of b).pending) solved) (sym is.book_is)
      (taken-settles v book.history is.can is.taken solved by))

  -- a book that keeps its frame keeps that of the pass
  pub holds-frame : (new : BookValue) → frame_of new ≡ frame_of book → frame_of new ≡ w.frame
  holds-frame new same =
      same ∙ ap frame_of is.book_is ∙ frame-of_book v.frame v.seen book.history (omega (arith, is.can.session.some, is.can.session.within))
      ∙ ap (λ (view : PassView Step). view.frame) (sym is.turn)

  -- a pass that gives the book back with the steps that it took has given up
  pub holds-gave_up : (u : PassView Step) → u ≡ record w { seen = w.taken; turn = false; taken = [] } → GaveUp v u
  holds-gave_up u given =
      let after : u ≡ record v { seen = book.history; turn = false; taken = [] } =
      given ∙ ap (λ (view : PassView Step). record view { seen = view.taken; turn = false; taken = [] }) is.turn in
      record {
        own = ap (λ (view : PassView Step). view.own) after;
        seen = subst (λ (view : PassView Step). IsPrefix v.seen view.seen) (sym after) is.taken.seen;
        turn = ap (λ (view : PassView Step). view.turn) after;
      }

  -- it is the same pass
  pub holds-still : (u : PassView Step) → u ≡ record w { seen = w.taken; turn = false; taken = [] } → IsStill v u
  holds-still u given = record {
    label = ap (λ (view : PassView Step). view.label) given ∙ ap (λ (view : PassView Step). view.label) is.turn;
    frame = ap (λ (view : PassView Step). view.frame) given ∙ ap (λ (view : PassView Step). view.frame) is.turn;
  }

  -- what a look gave in the book, it gave in the book as the pass sees it
  pub holds-looked : {q : Query} {looked : Looked} → IsLooked label q book looked → IsLooked v.label q (book_of v.frame book.history) looked
  holds-looked {q} {looked} gives =
      subst (λ (b : BookValue). IsLooked v.label q b looked) is.book_is (subst (λ (session : ℕ). IsLooked session q book looked) label-own gives)

  -- ---- a request of the session
  module _ (ask : ℕ → Request) (of : (session : ℕ) (state : State) → session_of (step_of state (ask session)) ≡ session) (new : BookValue) (new_is : new ≡ with_request (ask label) book) where
    abbrev step : Step
    step = step_of (state_of book) (ask label)

    more : new.history ≡ book.history ++ step ∷ []
    more = ap (λ (b : BookValue). b.history) new_is

    added : new.history ≡ w.taken ++ step ∷ []
    added = more ∙ ap (λ (view : PassView Step). view.taken ++ step ∷ []) (sym is.turn)

    -- the book with the request is what the pass may give
    pub holds-entry : (e : Step) × (new.history ≡ w.taken ++ e ∷ []) × (session_of e ≡ w.label)
    holds-entry = (step, added, of label (state_of book) ∙ is.label_is)

    -- the pass that gives the book back has one step more, which answers the request
    pub holds-adds : (u : PassView Step) → ((e : Step) → new.history ≡ w.taken ++ e ∷ [] → u ≡ record w { seen = new.history; own = w.own ++ e ∷ []; turn = false; taken = [] })
        → Adds v u book.history (ask v.label)
    holds-adds u given = record {
      taken = is.taken;
      after =
          given step added
          ∙ ap (λ (view : PassView Step). record view { seen = new.history; own = view.own ++ step ∷ []; turn = false; taken = [] }) is.turn
          ∙ ap (λ (history : List Step). record v { seen = history; own = v.own ++ step ∷ []; turn = false; taken = [] }) more
          ∙ ap (λ (session : ℕ). with_step v book.history (step_of (state_of book) (ask session))) label-own
          ∙ ap (λ (b : BookValue). with_step v book.history (step_of (state_of b) (ask v.label))) is.book_is;
    }

module _ {v w : PassView Step} {history : List Step} {request : Request} (adds : Adds v w history request) where
  -- a hold changes neither the label nor the frame
  pub added-still : IsStill v w
  added-still = record { label = ap (λ (view : PassView Step). view.label) adds.after; frame = ap (λ (view : PassView Step). view.frame) adds.after }

  -- its own steps go on from those before
  pub added-own : IsPrefix v.own w.own
  added-own = (step_of (state_of (book_of v.frame history)) request ∷ [], sym (ap (λ (view : PassView Step). view.own) adds.after))

  -- after it the pass is without the turn
  pub added-idle : w.turn ≡ false
  added-idle = ap (λ (view : PassView Step). view.turn) adds.after
