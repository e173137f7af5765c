-- What is seen along a play never gets older, and pending looks stay.
use Rattle.std.proofs.Common.{◌≡◌, ◌≢◌, ◌∙◌, ℕ, ◌+◌, ◌-◌, ◌≤◌, refl, sym, ap, subst, arith, cond, List, [], ◌∷◌, ◌++◌, length, Option, Some, None, Bool, inl, inr}
use Rattle.std.specs.Prelude.{All, AllPairs, unwrap_or}
use Rattle.std.proofs.lemmas.Bool.{cases_Bool}
use Rattle.std.proofs.lemmas.List.{get_or-set_other, length-append}
use Rattle.std.proofs.lemmas.List.Elements.{All-nil, All-cons, All-head, All-tail, All-weaker}
use Rattle.std.proofs.lemmas.List.Kept.{AllPairs-cons}
use Rattle.versions.specs.declared.edit.Edit.{Edit}
use Rattle.versions.specs.declared.edit.Edit.TheVariants.{Append, Correct, Remove}
use Rattle.versions.specs.declared.edit.EditReply.{EditReply}
use Rattle.versions.specs.declared.edit.EditReply.TheVariants.{Done}
use Rattle.versions.specs.declared.log.Accepted.{Accepted}
use Rattle.versions.specs.Versions.{accepts, current_rows, edit_reply, after_edit, refusal}
use Rattle.book.specs.declared.query.Query.{Query}
use Rattle.book.specs.declared.step.LookReply.{LookReply}
use Rattle.book.specs.declared.step.LookReply.TheVariants.{Found, NoVersion, Pair, Level, Overflow}
use Rattle.book.specs.Play.{State, Request, Editing, Looking, Settling, PendingLook, after, after_found, step_of, steps_of, played, look_refusal, look_reply, found, unless_refused, pending_of, pending_with}
use Rattle.book.specs.Seen.{asker, edit_version, look_version, seen_in, versions_seen}
use Rattle.book.proofs.BookLaws.{longer}
use Rattle.book.proofs.EditLaws.{after-accepted, taken}
use Rattle.book.proofs.LookLaws.{refused-never_found}

-- ---- edits are only added
-- a look keeps the edits, refused or not
pub unless-edits : (refusal : Option LookReply) (old new : State) → new.edits ≡ old.edits → (unless_refused refusal old new).edits ≡ old.edits
unless-edits None old new same = same
unless-edits (Some reply) old new same = refl

later-longer : (capacity : ℕ) (state : State) (request : Request) → length state.edits ≤ length (after capacity state request).edits
later-longer capacity state (Editing session edit) = longer state.edits edit
later-longer capacity state (Looking session q) = omega (arith, ap (λ (es : List Accepted). length es) (unless-edits (look_refusal state.edits q) state (after_found session q state) refl))
later-longer capacity state (Settling session) = omega arith

-- ---- what one step shows
-- no version, or one from the current one to the current one after the step
data Shown (low high : ℕ) (versions : List ℕ) : Type 0 where
  Nothing : versions ≡ [] → Shown low high versions
  Version : (v : ℕ) → versions ≡ v ∷ [] → low ≤ v → v ≤ high → Shown low high versions

refusal-shows : (edit : Edit) (v : ℕ) → edit_version (refusal edit v) ≡ v
refusal-shows (Append name tick x) v = refl
refusal-shows (Correct name x) v = refl
refusal-shows (Remove name) v = refl

edit-shows : (edits : List Accepted) (edit : Edit) → Shown (length edits) (length (after_edit edits edit)) (edit_version (edit_reply edits edit) ∷ [])
edit-shows edits edit =
    let chosen : Bool → EditReply = λ t. cond t (Done (length edits + 1)) (refusal edit (length edits)) in
    elim (cases_Bool (accepts (current_rows edits) edit)) [
      | inl accepted ↦ (
          let longer_by_one : length (after_edit edits edit) ≡ length edits + 1 = ap (λ (es : List Accepted). length es) (after-accepted edits edit accepted) ∙ length-append edits (taken edits edit ∷ []) in
          Version (length edits + 1) (ap (λ t. edit_version (chosen t) ∷ []) accepted) (omega arith) (omega (arith, longer_by_one)))
      | inr refused ↦ Version (length edits) (ap (λ t. edit_version (chosen t) ∷ []) refused ∙ ap (λ (v : ℕ). v ∷ []) (refusal-shows edit (length edits))) (omega arith) (longer edits edit)
    ]

never-shown : (named : Option ℕ) (reply : LookReply) → ((v h m e : ℕ) → reply ≡ Found v h m e → ⊥) → look_version named reply ≡ []
never-shown (Some n) reply unfound = refl
never-shown None (Found v h m e) unfound = absurd (unfound v h m e refl)
never-shown None (NoVersion v) unfound = refl
never-shown None (Pair a b) unfound = refl
never-shown None (Level k) unfound = refl
never-shown None (Overflow v) unfound = refl

found-shows : (named : Option ℕ) (current h m e : ℕ) → Shown current current (look_version named (Found (unwrap_or named current) h m e))
found-shows None current h m e = Version current refl (omega arith) (omega arith)
found-shows (Some v) current h m e = Nothing refl

look-shows : (state : State) (q : Query) (refusal : Option LookReply) → look_refusal state.edits q ≡ refusal → Shown (length state.edits) (length state.edits) (look_version q.version (look_reply state q))
look-shows state q None is = subst (λ (reply : LookReply). Shown (length state.edits) (length state.edits) (look_version q.version reply)) (sym (ap (λ (r : Option LookReply). unwrap_or r (found state q)) is)) (found-shows q.version (length state.edits) _ _ _)
look-shows state q (Some reply) is =
    Nothing (ap (λ (r : Option LookReply). look_version q.version (unwrap_or r (found state q))) is ∙ never-shown q.version reply (refused-never_found state.edits q reply is))

step-shows : (capacity : ℕ) (state : State) (request : Request) → Shown (length state.edits) (length (after capacity state request).edits) (seen_in (step_of state request))
step-shows capacity state (Editing session edit) = edit-shows state.edits edit
step-shows capacity state (Looking session q) =
    subst (λ (es : List Accepted). Shown (length state.edits) (length es) (look_version q.version (look_reply state q)))
    (sym (unless-edits (look_refusal state.edits q) state (after_found session q state) refl)) (look-shows state q (look_refusal state.edits q) refl)
step-shows capacity state (Settling session) = Nothing refl

-- ---- what a play shows
record Rises (low : ℕ) (versions : List ℕ) : Type 0 where
  above : All (λ v. low ≤ v) versions
  pairs : AllPairs (λ v w. v ≤ w) versions

-- one step's versions before those of the others
rises-after : (low high : ℕ) (shown versions : List ℕ) → low ≤ high → Shown low high shown → Rises high versions → Rises low (shown ++ versions)
rises-after low high shown versions le (Nothing e) rises = subst (λ (vs : List ℕ). Rises low (vs ++ versions)) (sym e) (record {
  above = All-weaker (λ v. high ≤ v) (λ v. low ≤ v) (λ v above. omega (arith, le, above)) versions rises.above;
  pairs = rises.pairs;
})
rises-after low high shown versions le (Version v e from to) rises = subst (λ (vs : List ℕ). Rises low (vs ++ versions)) (sym e) (record {
  above = All-cons (λ w. low ≤ w) v versions from (All-weaker (λ w. high ≤ w) (λ w. low ≤ w) (λ w above. omega (arith, le, above)) versions rises.above);
  pairs = AllPairs-cons (λ v w. v ≤ w) v versions (All-weaker (λ w. high ≤ w) (λ w. v ≤ w) (λ w above. omega (arith, to, above)) versions rises.above) rises.pairs;
})

play-rises : (capacity : ℕ) (state : State) (requests : List Request) → Rises (length state.edits) (versions_seen (steps_of capacity state requests))
play-rises capacity state [] = record { above = All-nil (λ v. length state.edits ≤ v); pairs = λ i j d before within. absurd (omega arith) }
play-rises capacity state (request ∷ requests) =
    rises-after (length state.edits) (length (after capacity state request).edits) (seen_in (step_of state request)) (versions_seen (steps_of capacity (after capacity state request) requests))
    (later-longer capacity state request) (step-shows capacity state request) (play-rises capacity (after capacity state request) requests)

-- versions in the replies of a play never fall
pub versions-rise : (capacity : ℕ) (state : State) (requests : List Request) → AllPairs (λ v w. v ≤ w) (versions_seen (steps_of capacity state requests))
versions-rise capacity state requests = (play-rises capacity state requests).pairs

-- ---- pending looks
other-place : (by session : ℕ) (look : Option PendingLook) (pending : List (Option PendingLook)) → 1 ≤ by → 1 ≤ session → by ≢ session → pending_of session (pending_with by look pending) ≡ pending_of session pending
other-place by session look pending some one other = get_or-set_other pending (by - 1) (session - 1) look None (omega (arith, some, one, other))

unless-pending : (by session : ℕ) (refusal : Option LookReply) (old new : State) → pending_of session new.pending ≡ pending_of session old.pending → pending_of session (unless_refused refusal old new).pending ≡ pending_of session old.pending
unless-pending by session None old new same = same
unless-pending by session (Some reply) old new same = refl

abbrev IsOther : ℕ → Request → Type 0
IsOther session request = (1 ≤ asker request) × (asker request ≢ session)

-- the request of another session leaves this session's pending look
pub pending-stays : (capacity session : ℕ) (state : State) (request : Request) → 1 ≤ session → (1 ≤ asker request) × (asker request ≢ session) → pending_of session (after capacity state request).pending ≡ pending_of session state.pending
pending-stays capacity session state (Editing by edit) one others = refl
pending-stays capacity session state (Looking by q) one others = unless-pending by session (look_refusal state.edits q) state (after_found by q state) (other-place by session _ state.pending others.0 one others.1)
pending-stays capacity session state (Settling by) one others = other-place by session None state.pending others.0 one others.1

-- so do any number of them
pub pending-stays_long : (capacity session : ℕ) (state : State) (requests : List Request) → 1 ≤ session → All (λ request. (1 ≤ asker request) × (asker request ≢ session)) requests
    → pending_of session (played capacity state requests).pending ≡ pending_of session state.pending
pending-stays_long capacity session state [] one others = refl
pending-stays_long capacity session state (request ∷ requests) one others =
    pending-stays_long capacity session (after capacity state request) requests one (All-tail (IsOther session) request requests others)
    ∙ pending-stays capacity session state request one (All-head (IsOther session) request requests others)
