-- A session's requests among those of all.
use Rattle.std.proofs.Common.{◌≡◌, ◌∙◌, ℕ, suc, refl, sym, ap, Bool, true, false, cond, List, [], ◌∷◌, ◌++◌, length, append_assoc, append-nil, eq-eqb, ne_eqb, inl, inr}
use Rattle.std.specs.Prelude.{filter, map, nat_eq, ◌==◌}
use mathlib.Core.List.{IsPrefix}
use Rattle.std.proofs.lemmas.Bool.{cases_Bool, eqb-false}
use Rattle.std.proofs.lemmas.List.{append_cancel_left, map-append}
use Rattle.std.proofs.lemmas.List.Elements.{filter-append}
use Rattle.turnstile.specs.Entries.{of_label}
use Rattle.book.specs.declared.step.Step.{Step}
use Rattle.book.specs.declared.step.Step.TheVariants.{Edited, Looked, Settled}
use Rattle.book.specs.Play.{State, Request, opening, after, played, request_of, session_of}
use Rattle.book.specs.Seen.{asker}
use Rattle.book.specs.Books.{BookValue, count_of, state_of, with_request}
use Rattle.book.proofs.StateLaws.{requests-push}
use Rattle.session.specs.Moments.{Moment, own_moment, moments, moments_of}
use Rattle.session.specs.Holds.{book_of}
use Rattle.session.proofs.FrameLaws.{book-again}

-- a step is of the session that asked for it
pub asker-step : (step : Step) → asker (request_of step) ≡ session_of step
asker-step (Edited session edit reply) = refl
asker-step (Looked session q reply) = refl
asker-step (Settled session kept) = refl

-- a session's requests among those of two lists, one after the other
pub moments-append : (capacity session : ℕ) (state : State) (first last : List Request)
    → moments capacity session state (first ++ last) ≡ moments capacity session state first ++ moments capacity session (played capacity state first) last
moments-append capacity session state [] last = refl
moments-append capacity session state (request ∷ first) last =
    let own : List Moment = own_moment (nat_eq session (asker request)) (record { state = state; request = request }) in
    let next : State = after capacity state request in
    ap (λ (rest : List Moment). own ++ rest) (moments-append capacity session next first last)
    ∙ sym (append_assoc own (moments capacity session next first) (moments capacity session (played capacity next first) last))

-- the steps of others are none of the session's
pub moments-others : (capacity session : ℕ) (state : State) (steps : List Step) → of_label session_of session steps ≡ []
    → moments capacity session state (map request_of steps) ≡ []
moments-others capacity session state [] none = refl
moments-others capacity session state (step ∷ steps) none =
    let rest : List Step = of_label session_of session steps in
    elim (cases_Bool (session_of step == session)) [
      | inl own ↦ (
          let some : step ∷ rest ≡ [] = sym (ap (λ (b : Bool). cond b (step ∷ rest) rest) own) ∙ none in
          absurd (cc))
      | inr other ↦ (
          let none-later : rest ≡ [] = sym (ap (λ (b : Bool). cond b (step ∷ rest) rest) other) ∙ none in
          let test : nat_eq session (asker (request_of step)) ≡ false =
          ne_eqb session (asker (request_of step)) (λ same. eqb-false (session_of step) session other (sym (same ∙ asker-step step))) in
          let next : State = after capacity state (request_of step) in
          ap (λ (b : Bool). own_moment b (record { state = state; request = request_of step }) ++ moments capacity session next (map request_of steps)) test
          ∙ moments-others capacity session next steps none-later)
    ]

-- more steps of others add no moment
moments-longer : (session : ℕ) (book : BookValue) (old more : List Step) → of_label session_of session (old ++ more) ≡ of_label session_of session old
    → moments_of (record book { history = old ++ more }) session ≡ moments_of (record book { history = old }) session
moments-longer session book old more same =
    let first : State = opening book.sessions in
    let requests : List Request = map request_of old in
    let middle : State = played book.capacity first requests in
    let own : List Step = of_label session_of session old in
    let none : of_label session_of session more ≡ [] =
    append_cancel_left own (of_label session_of session more) [] (sym (filter-append (λ step. session_of step == session) old more) ∙ same ∙ sym (append-nil own)) in
    ap (moments book.capacity session first) (map-append request_of old more)
    ∙ moments-append book.capacity session first requests (map request_of more)
    ∙ ap (λ (rest : List Moment). moments book.capacity session first requests ++ rest) (moments-others book.capacity session middle more none)
    ∙ append-nil (moments book.capacity session first requests)

-- a book that goes on from another without a step of the session has the same moments of it
pub moments-later : (session : ℕ) (frame : List ℕ) (old new : List Step) → IsPrefix old new → of_label session_of session new ≡ of_label session_of session old
    → moments_of (book_of frame new) session ≡ moments_of (book_of frame old) session
moments-later session frame old new begins same =
    let moments_in : BookValue → List Moment = λ book. moments_of book session in
    let longer : of_label session_of session (old ++ begins.0) ≡ of_label session_of session old = ap (of_label session_of session) begins.1 ∙ same in
    ap moments_in (book-again frame old new)
    ∙ ap (λ (history : List Step). moments_in (record (book_of frame old) { history = history })) (sym begins.1)
    ∙ moments-longer session (book_of frame old) old begins.0 longer
    ∙ sym (ap moments_in (book-again frame old old))

-- a step of the session is its last moment
pub moments-step : (session : ℕ) (book : BookValue) (request : Request) → asker request ≡ session
    → moments_of (with_request request book) session ≡ moments_of book session ++ record { state = state_of book; request = request } ∷ []
moments-step session book request of =
    let first : State = opening book.sessions in
    let requests : List Request = map request_of book.history in
    ap (moments book.capacity session first) (requests-push (state_of book) book.history request)
    ∙ moments-append book.capacity session first requests (request ∷ [])
    ∙ ap (λ (b : Bool). moments_of book session ++ (own_moment b (record { state = state_of book; request = request }) ++ [])) (eq-eqb session (asker request) (sym of))

-- a test that keeps a moment keeps a step
count-same : (mine : Bool) (moment : Moment) (step : Step) (rest : List Moment) (steps : List Step) → length rest ≡ length steps
    → length (own_moment mine moment ++ rest) ≡ length (cond mine (step ∷ steps) steps)
count-same true moment step rest steps same = ap (λ n. suc n) same
count-same false moment step rest steps same = same

count-from : (capacity session : ℕ) (state : State) (steps : List Step) → length (moments capacity session state (map request_of steps)) ≡ count_of session steps
count-from capacity session state [] = refl
count-from capacity session state (step ∷ steps) =
    let next : State = after capacity state (request_of step) in
    let moment : Moment = record { state = state; request = request_of step } in
    let rest : List Moment = moments capacity session next (map request_of steps) in
    ap (λ (by : ℕ). length (own_moment (nat_eq session by) moment ++ rest)) (asker-step step)
    ∙ count-same (nat_eq session (session_of step)) moment step rest (filter (λ later. nat_eq session (session_of later)) steps) (count-from capacity session next steps)

-- the moments of a session are as many as its steps
pub moments-count : (book : BookValue) (session : ℕ) → length (moments_of book session) ≡ count_of session book.history
moments-count book session = count-from book.capacity session (opening book.sessions) book.history
