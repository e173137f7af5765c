-- What a session finds when it takes the book again.
use Rattle.std.proofs.Common.{◌≡◌, ◌∙◌, ℕ, ◌-◌, ◌≤◌, ◌≢◌, refl, sym, ap, subst, arith, Bool, true, false, cond, List, [], ◌∷◌, length, drop}
use Rattle.std.specs.Prelude.{All, ◌==◌, map, nat_eq, Option, Some, None}
use mathlib.Core.List.{IsPrefix}
use Rattle.std.proofs.lemmas.Bool.Decides.{nat_tests}
use Rattle.std.proofs.lemmas.List.{append-nil, append_cancel_left, drop_at}
use Rattle.std.proofs.lemmas.List.Elements.{All-drop, All-get_or, All-head, All-tail, filter-append, filter_agree}
use Rattle.turnstile.specs.declared.view.PassView.{PassView}
use Rattle.turnstile.specs.Entries.{of_label}
use Rattle.definitions.specs.Words.{Extent}
use Rattle.solve.specs.declared.solution.SolvedNode.{SolvedNode}
use Rattle.versions.specs.declared.log.Accepted.{Accepted}
use Rattle.book.specs.declared.step.Step.{Step}
use Rattle.book.specs.declared.step.Step.TheVariants.{Edited, Looked, Settled}
use Rattle.book.specs.Plans.{IsSettlement}
use Rattle.book.specs.Play.{State, PendingLook, after, played, pending_of, request_of, session_of, step_of}
use Rattle.book.specs.Books.{BookValue, IsSession, IsReady, IsSettledBy, count_of, state_of, log_of}
use Rattle.session.specs.Holds.{book_of, seen_book, pending_in, CanStep, IsTaken}
use Rattle.session.proofs.FrameLaws.{book-extent, book-sessions, book-history, book-unspent, state-again}
use Rattle.session.proofs.PendingLaws.{IsLater, IsOfVersion, played-later, pending-length, pending-of_versions, pending-other}
use Rattle.session.proofs.RunLaws.{settles-later}

-- ---- the steps that came
-- where a session took no step, the steps that came are of others
none-between : (session : ℕ) (seen history : List Step) (begins : IsPrefix seen history) → of_label session_of session history ≡ of_label session_of session seen
    → of_label session_of session begins.0 ≡ []
none-between session seen history begins same =
    let own : List Step = of_label session_of session seen in
    append_cancel_left own (of_label session_of session begins.0) []
    (sym (filter-append (λ (step : Step). session_of step == session) seen begins.0) ∙ ap (of_label session_of session) begins.1 ∙ same ∙ sym (append-nil own))

first-other : (session : ℕ) (step : Step) (steps : List Step) → of_label session_of session (step ∷ steps) ≡ [] → (session_of step ≢ session) × (of_label session_of session steps ≡ [])
first-other session step steps none = at (session_of step == session) refl none
  where
    at : (b : Bool) → (session_of step == session) ≡ b → cond b (step ∷ of_label session_of session steps) (of_label session_of session steps) ≡ []
        → (session_of step ≢ session) × (of_label session_of session steps ≡ [])
    at true test none = absurd (cc)
    at false test none = (grind (arith, nat_tests), none)

session-of_request : (state : State) (step : Step) → session_of (step_of state (request_of step)) ≡ session_of step
session-of_request state (Edited session edit reply) = refl
session-of_request state (Looked session q reply) = refl
session-of_request state (Settled session kept) = refl

-- steps of others leave the session's look as it was
others-pending : (capacity session sessions : ℕ) (state : State) (steps : List Step) → 1 ≤ session → All (λ (step : Step). IsSession sessions (session_of step)) steps
    → of_label session_of session steps ≡ [] → pending_of session (played capacity state (map request_of steps)).pending ≡ pending_of session state.pending
others-pending capacity session sessions state [] some of none = refl
others-pending capacity session sessions state (step ∷ steps) some of none =
    let others = first-other session step steps none in
    let not : session_of step ≢ session = others.0 in
    let here : IsSession sessions (session_of step) = All-head (λ (step : Step). IsSession sessions (session_of step)) step steps of in
    let apart : session - 1 ≢ session_of (step_of state (request_of step)) - 1 = omega (arith, session-of_request state step, here.some) in
    others-pending capacity session sessions (after capacity state (request_of step)) steps some (All-tail (λ (step : Step). IsSession sessions (session_of step)) step steps of) others.1
    ∙ pending-other capacity state (request_of step) session apart

-- ---- how many steps
-- the steps with a session's label are as many as are counted for it
pub count-own : (session : ℕ) (history : List Step) → length (of_label session_of session history) ≡ count_of session history
count-own session history =
    ap length (filter_agree (λ (s : Step). session_of s == session) (λ (s : Step). nat_eq session (session_of s)) (λ s. grind (arith, nat_tests)) history)

-- a solution still holds at later edits
settled-later : (extent : Extent) (old new : List Accepted) (look : Option PendingLook) (solved : List SolvedNode) → IsLater old new → IsOfVersion old look
    → IsSettledBy (record { extent = extent; edits = old }) look solved → IsSettledBy (record { extent = extent; edits = new }) look solved
settled-later extent old new None solved later of by = absurd by
settled-later extent old new (Some look) solved later of by =
    subst (λ (edits : List Accepted). IsSettlement extent edits look.version look.missed solved) (sym later.are) (settles-later extent old later.more look solved of by)

module _ (v : PassView Step) (history : List Step) (can : CanStep v) (is : IsTaken v history) where
  abbrev found : BookValue
  found = book_of v.frame history

  abbrev came : List Step
  came = is.seen.0

  -- the book that is found has the extent
  pub taken-extent : found.extent ≡ (seen_book v).extent
  taken-extent = book-extent v.frame v.seen history

  -- and the sessions
  pub taken-sessions : found.sessions ≡ (seen_book v).sessions
  taken-sessions = book-sessions v.frame v.seen history

  taken-state : state_of found ≡ played (seen_book v).capacity (state_of (seen_book v)) (map request_of came)
  taken-state = ap (λ (steps : List Step). state_of (book_of v.frame steps)) (sym is.seen.1) ∙ state-again v.frame v.seen came

  -- the session may do a step in it
  pub taken-ready : IsReady found v.label
  taken-ready =
      let count : count_of v.label found.history ≡ length v.own =
      ap (count_of v.label) (book-history v.frame history) ∙ sym (count-own v.label history) ∙ ap length is.own in
      record {
        unspent = book-unspent v.frame v.seen history (omega (arith, can.session.some, can.session.within));
        of_book = record { some = can.session.some; within = omega (arith, taken-sessions, can.session.within) };
        steps = omega (arith, count, can.few);
      }

  came-sessions : All (λ (step : Step). IsSession found.sessions (session_of step)) came
  came-sessions =
      subst (All (λ (step : Step). IsSession found.sessions (session_of step)))
      (ap (drop (length v.seen)) (book-history v.frame history ∙ sym is.seen.1) ∙ drop_at v.seen came (length v.seen) refl)
      (All-drop (λ (step : Step). IsSession found.sessions (session_of step)) (length v.seen) found.history is.book.sessions)

  -- the pending look of the session is as it was
  pub taken-pending : pending_of v.label (state_of found).pending ≡ pending_in v
  taken-pending =
      ap (λ (state : State). pending_of v.label state.pending) taken-state
      ∙ others-pending (seen_book v).capacity v.label found.sessions (state_of (seen_book v)) came can.session.some came-sessions
      (none-between v.label v.seen history is.seen (is.own ∙ sym can.own))

  -- its solution still holds: later edits change no row of an earlier version
  pub taken-settles : (solved : List SolvedNode) → IsSettledBy (log_of (seen_book v)) (pending_in v) solved
      → IsSettledBy (log_of found) (pending_of v.label (state_of found).pending) solved
  taken-settles solved by =
      let old : State = state_of (seen_book v) in
      let later : IsLater old.edits (state_of found).edits =
      subst (IsLater old.edits) (ap (λ (state : State). state.edits) (sym taken-state)) (played-later (seen_book v).capacity old (map request_of came)) in
      let of_version : IsOfVersion old.edits (pending_in v) =
      All-get_or (IsOfVersion old.edits) old.pending (v.label - 1) None (omega (arith, pending-length (seen_book v), can.session.some, can.session.within))
      (pending-of_versions (seen_book v)) in
      subst (λ (look : Option PendingLook). IsSettledBy (log_of found) look solved) (sym taken-pending)
      (subst (λ (extent : Extent). IsSettledBy (record { extent = extent; edits = (state_of found).edits }) (pending_in v) solved) (sym taken-extent)
      (settled-later (seen_book v).extent old.edits (state_of found).edits (pending_in v) solved later of_version by))
