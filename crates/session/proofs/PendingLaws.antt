-- What a request makes of the edits and of the pending looks.
use Rattle.std.proofs.Common.{◌≡◌, ◌∙◌, ℕ, ◌-◌, ◌≤◌, ◌≢◌, refl, sym, ap, subst, arith, cond, List, [], ◌∷◌, ◌++◌, length, Option, Some, None, inl, inr}
use Rattle.std.specs.Prelude.{All, nat_lt, map, unwrap_or}
use Rattle.std.proofs.lemmas.Bool.{cases_Bool}
use Rattle.std.proofs.lemmas.Bool.Decides.{nat_tests}
use Rattle.std.proofs.lemmas.List.{append-nil, append_assoc, length-append, length-set, length-replicate, get_or-set_other}
use Rattle.std.proofs.lemmas.List.Elements.{All-replicate, All-set, All-weaker}
use Rattle.book.proofs.SeenLaws.{unless-edits}
use Rattle.definitions.specs.Signature.{weight}
use Rattle.definitions.specs.Rows.{moves_of}
use Rattle.versions.specs.declared.edit.Edit.{Edit}
use Rattle.versions.specs.declared.log.Accepted.{Accepted}
use Rattle.versions.specs.Versions.{accepts, current_rows, edited_tick, after_edit}
use Rattle.book.specs.declared.query.Query.{Query}
use Rattle.book.specs.declared.step.LookReply.{LookReply}
use Rattle.book.specs.declared.step.LookReply.TheVariants.{NoVersion}
use Rattle.book.specs.Walks.{Visit, all_misses}
use Rattle.book.specs.Play.{State, Request, Editing, Looking, Settling, PendingLook, after, after_found, unless_refused, look_refusal, looked_version, looked_rows, look_walk, refused_by, pending_of, pending_look, opening, played, session_of, step_of, request_of}
use Rattle.book.specs.Books.{BookValue, state_of}

-- ---- edits
-- a request keeps the edits, and may add some
pub record IsLater (old new : List Accepted) : Type 0 where
  -- the edits that were added
  pub more : List Accepted
  -- they stand after the others
  pub are : new ≡ old ++ more

same-later : (edits : List Accepted) → IsLater edits edits
same-later edits = record { more = []; are = sym (append-nil edits) }

edit-later : (edits : List Accepted) (e : Edit) → IsLater edits (after_edit edits e)
edit-later edits e =
    let more : List Accepted = record { edit = e; tick = unwrap_or (edited_tick (current_rows edits) e) 0 } ∷ [] in
    elim (cases_Bool (accepts (current_rows edits) e)) [
      | inl accepted ↦ record { more = more; are = ap (λ t. cond t (edits ++ more) edits) accepted }
      | inr refused ↦ record { more = []; are = ap (λ t. cond t (edits ++ more) edits) refused ∙ sym (append-nil edits) }
    ]

-- a request keeps the edits, and may add some
pub edits-later : (capacity : ℕ) (state : State) (request : Request) → IsLater state.edits (after capacity state request).edits
edits-later capacity state (Editing session e) = edit-later state.edits e
edits-later capacity state (Looking session q) =
    subst (IsLater state.edits) (sym (unless-edits (look_refusal state.edits q) state (after_found session q state) refl)) (same-later state.edits)
edits-later capacity state (Settling session) = same-later state.edits

later-still : (first next last : List Accepted) → IsLater first next → IsLater next last → IsLater first last
later-still first next last one two =
    record { more = one.more ++ two.more; are = two.are ∙ ap (λ (edits : List Accepted). edits ++ two.more) one.are ∙ append_assoc first one.more two.more }

-- so do any number of requests
pub played-later : (capacity : ℕ) (state : State) (requests : List Request) → IsLater state.edits (played capacity state requests).edits
played-later capacity state [] = same-later state.edits
played-later capacity state (request ∷ requests) =
    let next : State = after capacity state request in
    later-still state.edits next.edits (played capacity next requests).edits (edits-later capacity state request) (played-later capacity next requests)

-- ---- the places
unless-length : (refusal : Option LookReply) (old new : State) → length new.pending ≡ length old.pending → length (unless_refused refusal old new).pending ≡ length old.pending
unless-length None old new same = same
unless-length (Some reply) old new same = refl

after-length : (capacity : ℕ) (state : State) (request : Request) → length (after capacity state request).pending ≡ length state.pending
after-length capacity state (Editing session e) = refl
after-length capacity state (Looking session q) =
    unless-length (look_refusal state.edits q) state (after_found session q state) (length-set state.pending (session - 1) (pending_look (looked_version state.edits q) (all_misses (look_walk state q))))
after-length capacity state (Settling session) = length-set state.pending (session - 1) None

played-length : (capacity : ℕ) (state : State) (requests : List Request) → length (played capacity state requests).pending ≡ length state.pending
played-length capacity state [] = refl
played-length capacity state (request ∷ requests) = played-length capacity (after capacity state request) requests ∙ after-length capacity state request

-- each session has its place among the pending looks
pub pending-length : (book : BookValue) → length (state_of book).pending ≡ book.sessions
pending-length book = played-length book.capacity (opening book.sessions) (map request_of book.history) ∙ length-replicate book.sessions None

-- ---- the versions
-- a pending look is of a version that there is
abbrev pub IsOfVersion : List Accepted → Option PendingLook → Type 0
IsOfVersion edits None = Unit {0}
IsOfVersion edits (Some look) = look.version ≤ length edits

still-of : (old new : List Accepted) → IsLater old new → (look : Option PendingLook) → IsOfVersion old look → IsOfVersion new look
still-of old new later None of = tt
still-of old new later (Some look) of = omega (arith, of, ap length later.are, length-append old later.more)

abbrev AreOfVersions : State → Type 0
AreOfVersions state = All (IsOfVersion state.edits) state.pending

-- a look that isn't refused is of a version that there is
unrefused : (edits : List Accepted) (q : Query) → look_refusal edits q ≡ None → looked_version edits q ≤ length edits
unrefused edits q none =
    elim (cases_Bool (nat_lt (length edits) (looked_version edits q))) [
      | inl late ↦ (
          let some : Some (NoVersion (length edits)) ≡ None =
          sym (ap (λ t. cond t (Some (NoVersion (length edits))) (refused_by q.allowed (weight (moves_of (looked_rows edits q))))) late) ∙ none in
          absurd (cc))
      | inr there ↦ grind (arith, nat_tests, there)
    ]

pending_look-of : (edits : List Accepted) (v : ℕ) (visits : List Visit) → v ≤ length edits → IsOfVersion edits (pending_look v (all_misses visits))
pending_look-of edits v visits within = elim (all_misses visits) as (λ nodes. IsOfVersion edits (pending_look v nodes)) [ [] ↦ tt | node ∷ nodes ↦ within ]

unless-of : (refusal : Option LookReply) (old new : State) → AreOfVersions old → (refusal ≡ None → AreOfVersions new) → AreOfVersions (unless_refused refusal old new)
unless-of None old new are next = next refl
unless-of (Some reply) old new are next = are

after-of : (capacity : ℕ) (state : State) (request : Request) → AreOfVersions state → AreOfVersions (after capacity state request)
after-of capacity state (Editing session e) are =
    All-weaker (IsOfVersion state.edits) (IsOfVersion (after_edit state.edits e)) (still-of state.edits (after_edit state.edits e) (edit-later state.edits e)) state.pending are
after-of capacity state (Looking session q) are =
    let look : Option PendingLook = pending_look (looked_version state.edits q) (all_misses (look_walk state q)) in
    unless-of (look_refusal state.edits q) state (after_found session q state) are
    (λ none. All-set (IsOfVersion state.edits) state.pending (session - 1) look
    (pending_look-of state.edits (looked_version state.edits q) (look_walk state q) (unrefused state.edits q none)) are)
after-of capacity state (Settling session) are = All-set (IsOfVersion state.edits) state.pending (session - 1) None tt are

played-of : (capacity : ℕ) (state : State) (requests : List Request) → AreOfVersions state → AreOfVersions (played capacity state requests)
played-of capacity state [] are = are
played-of capacity state (request ∷ requests) are = played-of capacity (after capacity state request) requests (after-of capacity state request are)

-- each pending look of a book is of a version that there is
pub pending-of_versions : (book : BookValue) → All (IsOfVersion (state_of book).edits) (state_of book).pending
pending-of_versions book = played-of book.capacity (opening book.sessions) (map request_of book.history) (All-replicate (IsOfVersion []) book.sessions None tt)

-- ---- another session's look
unless-other : (session : ℕ) (refusal : Option LookReply) (old new : State) → pending_of session new.pending ≡ pending_of session old.pending
    → pending_of session (unless_refused refusal old new).pending ≡ pending_of session old.pending
unless-other session None old new same = same
unless-other session (Some reply) old new same = refl

-- a request changes no other session's look
pub pending-other : (capacity : ℕ) (state : State) (request : Request) (session : ℕ) → session - 1 ≢ session_of (step_of state request) - 1
    → pending_of session (after capacity state request).pending ≡ pending_of session state.pending
pending-other capacity state (Editing s e) session other = refl
pending-other capacity state (Looking s q) session other =
    unless-other session (look_refusal state.edits q) state (after_found s q state)
    (get_or-set_other state.pending (s - 1) (session - 1) (pending_look (looked_version state.edits q) (all_misses (look_walk state q))) None other)
pending-other capacity state (Settling s) session other = get_or-set_other state.pending (s - 1) (session - 1) None None other
