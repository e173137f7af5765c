-- Books of one frame differ in their steps alone.
use Rattle.std.proofs.Common.{◌≡◌, ◌∙◌, ℕ, ◌≤◌, refl, sym, ap, arith, false, List, [], ◌∷◌, ◌++◌}
use Rattle.std.specs.Prelude.{map}
use Rattle.std.proofs.lemmas.List.{map-append}
use Rattle.std.proofs.lemmas.List.Sums.{fold-append}
use Rattle.book.specs.declared.step.Step.{Step}
use Rattle.book.specs.Play.{State, Request, after, opening, played, request_of, step_of}
use Rattle.book.specs.Books.{BookValue, state_of, with_request}
use Rattle.session.specs.Holds.{book_of}

-- books of one frame differ in their steps alone
pub book-again : (frame : List ℕ) (old new : List Step) → book_of frame new ≡ record (book_of frame old) { history = new }
book-again (width ∷ depth ∷ capacity ∷ sessions ∷ []) old new = refl
book-again frame old new = refl

-- their extents are the same
pub book-extent : (frame : List ℕ) (old new : List Step) → (book_of frame new).extent ≡ (book_of frame old).extent
book-extent frame old new = ap (λ (book : BookValue). book.extent) (book-again frame old new)

-- so are their numbers of sessions
pub book-sessions : (frame : List ℕ) (old new : List Step) → (book_of frame new).sessions ≡ (book_of frame old).sessions
book-sessions frame old new = ap (λ (book : BookValue). book.sessions) (book-again frame old new)

-- a book of a frame has the steps that it was made with
pub book-history : (frame : List ℕ) (history : List Step) → (book_of frame history).history ≡ history
book-history frame history = ap (λ (book : BookValue). book.history) (book-again frame [] history)

-- a book with sessions has a frame
pub book-unspent : (frame : List ℕ) (old new : List Step) → 1 ≤ (book_of frame old).sessions → (book_of frame new).spent ≡ false
book-unspent (width ∷ depth ∷ capacity ∷ sessions ∷ []) old new some = refl
book-unspent frame old new some = absurd (omega arith)

-- a step more in the history is a step more of the book
pub book-push : (frame : List ℕ) (history : List Step) (request : Request)
    → book_of frame (history ++ step_of (state_of (book_of frame history)) request ∷ []) ≡ with_request request (book_of frame history)
book-push frame history request =
    let book : BookValue = book_of frame history in
    let step : Step = step_of (state_of book) request in
    book-again frame history (history ++ step ∷ []) ∙ ap (λ (steps : List Step). record book { history = steps ++ step ∷ [] }) (sym (book-history frame history))

-- the state after more steps goes on from the state before them
pub state-again : (frame : List ℕ) (old more : List Step) → state_of (book_of frame (old ++ more)) ≡ played (book_of frame old).capacity (state_of (book_of frame old)) (map request_of more)
state-again frame old more =
    let book : BookValue = book_of frame old in
    let play : List Step → State = λ steps. played book.capacity (opening book.sessions) (map request_of steps) in
    ap state_of (book-again frame old (old ++ more))
    ∙ ap (played book.capacity (opening book.sessions)) (map-append request_of old more)
    ∙ fold-append (after book.capacity) (opening book.sessions) (map request_of old) (map request_of more)
    ∙ ap (λ (steps : List Step). played book.capacity (play steps) (map request_of more)) (sym (book-history frame old))
