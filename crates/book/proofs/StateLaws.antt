-- One request more: the steps, the state, and the book.
use Rattle.std.proofs.Common.{◌≡◌, ◌∙◌, ℕ, ◌+◌, ◌<◌, ◌≤◌, ◌^◌, refl, sym, ap, subst, arith, List, [], ◌∷◌, ◌++◌, length, length-append, Bool, true, false, cond, inl, inr}
use Rattle.std.specs.Prelude.{map, filter, nat_eq}
use Rattle.std.proofs.lemmas.Bool.{cases_Bool}
use Rattle.std.proofs.lemmas.Bool.Decides.{nat_tests}
use Rattle.std.proofs.lemmas.List.{map-append}
use Rattle.std.proofs.lemmas.List.Elements.{All-push, filter-append}
use Rattle.std.proofs.lemmas.List.Sums.{fold_push}
use Rattle.book.specs.declared.step.Step.{Step}
use Rattle.book.specs.Play.{State, Request, Editing, Looking, Settling, after, step_of, request_of, session_of, opening, played, steps_of}
use Rattle.book.specs.Books.{BookValue, state_of, IsSession, count_of, IsBook, with_request}

-- one request more is one step more
pub steps-push : (capacity : ℕ) (state : State) (requests : List Request) (request : Request)
    → steps_of capacity state (requests ++ request ∷ []) ≡ steps_of capacity state requests ++ step_of (played capacity state requests) request ∷ []
steps-push capacity state [] request = refl
steps-push capacity state (r ∷ requests) request = ap (λ (steps : List Step). step_of state r ∷ steps) (steps-push capacity (after capacity state r) requests request)

-- and one state more
pub played-push : (capacity : ℕ) (state : State) (requests : List Request) (request : Request) → played capacity state (requests ++ request ∷ []) ≡ after capacity (played capacity state requests) request
played-push capacity state requests request = fold_push (after capacity) state requests request

-- the request of a step is what it was made for
pub requests-of_steps : (state : State) (request : Request) → request_of (step_of state request) ≡ request
requests-of_steps state (Editing session edit) = refl
requests-of_steps state (Looking session q) = refl
requests-of_steps state (Settling session) = refl

-- the requests of a history with one step more
pub requests-push : (state : State) (history : List Step) (request : Request) → map request_of (history ++ step_of state request ∷ []) ≡ map request_of history ++ request ∷ []
requests-push state history request =
    map-append request_of history (step_of state request ∷ []) ∙ ap (λ (r : Request). map request_of history ++ r ∷ []) (requests-of_steps state request)

-- ---- how many steps are a session's
count-more : (session : ℕ) (history : List Step) (step : Step)
    → count_of session (history ++ step ∷ []) ≡ count_of session history + length (cond (nat_eq session (session_of step)) (step ∷ []) [])
count-more session history step =
    let theirs : Step → Bool = λ s. nat_eq session (session_of s) in
    ap length (filter-append theirs history (step ∷ [])) ∙ length-append (filter theirs history) (filter theirs (step ∷ []))

one-or-none : (b : Bool) (step : Step) → length (cond b (step ∷ []) []) ≤ 1
one-or-none true step = omega arith
one-or-none false step = omega arith

-- a step is counted once at most
pub count-push : (session : ℕ) (history : List Step) (step : Step) → count_of session (history ++ step ∷ []) ≤ count_of session history + 1
count-push session history step = omega (arith, count-more session history step, one-or-none (nat_eq session (session_of step)) step)

-- the count stays within 2 ^ 32, where the session has room for a step
pub count-room : (by : ℕ) (history : List Step) (step : Step) → session_of step ≡ by → count_of by history < 2 ^ 32 → ((s : ℕ) → count_of s history ≤ 2 ^ 32)
    → (s : ℕ) → count_of s (history ++ step ∷ []) ≤ 2 ^ 32
count-room by history step is room within s =
    elim (cases_Bool (nat_eq s (session_of step))) [
      | inl theirs ↦ (
          let same : s ≡ session_of step = grind (arith, nat_tests) in
          let some : count_of s history < 2 ^ 32 = subst (λ (n : ℕ). count_of n history < 2 ^ 32) (sym (same ∙ is)) room in
          omega (arith, count-push s history step, some))
      | inr other ↦ (
          let none : length (cond (nat_eq s (session_of step)) (step ∷ []) []) ≡ 0 = ap (λ (b : Bool). length (cond b (step ∷ []) [])) other in
          omega (arith, count-more s history step, none, within s))
    ]

-- ---- the book
-- the state of a book with one request more
pub state-push : (book : BookValue) (request : Request) → state_of (with_request request book) ≡ after book.capacity (state_of book) request
state-push book request =
    ap (played book.capacity (opening book.sessions)) (requests-push (state_of book) book.history request)
    ∙ played-push book.capacity (opening book.sessions) (map request_of book.history) request

-- such a book is one
pub is_book-push : (book : BookValue) (request : Request) → IsBook book → IsSession book.sessions (session_of (step_of (state_of book) request))
    → count_of (session_of (step_of (state_of book) request)) book.history < 2 ^ 32 → IsBook (with_request request book)
is_book-push book request is of_book room =
    let step : Step = step_of (state_of book) request in
    record {
      some = is.some;
      within = is.within;
      one = is.one;
      few = is.few;
      due =
          ap (λ (steps : List Step). steps ++ step ∷ []) is.due ∙ sym (steps-push book.capacity (opening book.sessions) (map request_of book.history) request)
          ∙ ap (steps_of book.capacity (opening book.sessions)) (sym (requests-push (state_of book) book.history request));
      sessions = All-push (λ (s : Step). IsSession book.sessions (session_of s)) book.history step is.sessions of_book;
      steps = count-room (session_of step) book.history step refl room is.steps;
    }

-- a spent book has the same steps
pub is_book-spent : (book : BookValue) (spent : Bool) → IsBook book → IsBook (record book { spent = spent })
is_book-spent book spent is = record {
  some = is.some;
  within = is.within;
  one = is.one;
  few = is.few;
  due = is.due;
  sessions = is.sessions;
  steps = is.steps;
}
