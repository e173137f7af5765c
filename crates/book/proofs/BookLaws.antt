-- What a book holds at first, and after a step.
use Rattle.std.proofs.Common.{◌≡◌, ◌∙◌, ℕ, ◌-◌, ◌≤◌, refl, sym, ap, subst, arith, Bool, true, false, List, [], ◌∷◌, ◌++◌, length, replicate, Option, None, Some, Result, Ok, Err, OnOk, OnErr, is_err, inl, inr}
use Rattle.std.proofs.lemmas.Bool.{cases_Bool}
use Rattle.std.proofs.lemmas.List.{length-set, length_push, length-replicate}
use Rattle.std.proofs.lemmas.List.Elements.{All-nil, All-replicate, All-weaker}
use Rattle.words.specs.Capacities.{most_capacity}
use Rattle.definitions.specs.Words.{Extent}
use Rattle.node_cache.specs.Entries.{CacheValue}
use Rattle.versions.specs.declared.edit.Edit.{Edit}
use Rattle.versions.specs.declared.log.Accepted.{Accepted}
use Rattle.versions.specs.Versions.{LogValue, accepts, current_rows, edit_reply, after_edit}
use Rattle.book.specs.declared.query.Query.{Query}
use Rattle.book.specs.declared.step.Step.{Step}
use Rattle.book.specs.declared.step.Step.TheVariants.{Edited, Looked, Settled}
use Rattle.book.specs.Walks.{Pair}
use Rattle.book.specs.Play.{State, Request, Editing, Looking, Settling, PendingLook, after, after_looking, look_reply, step_of, session_of, pending_of, pending_with, settled_of, pairs_settled, pairs_after_edit}
use Rattle.book.specs.Books.{BookValue, state_of, IsSession, IsBook, Keeps, AreKept, IsPendingOr, ArePending, IsHeld, IsReady, held, with_request}
use Rattle.book.proofs.StateLaws.{is_book-push, state-push, is_book-spent}
use Rattle.book.proofs.EditLaws.{taken, after-accepted, after-refused}

-- ---- the value and the state of a book that is made of these parts
abbrev value_with : Extent → ℕ → ℕ → List Step → Bool → BookValue
value_with extent capacity sessions history spent = record { extent = extent; capacity = capacity; sessions = sessions; history = history; spent = spent }

-- what a book of these parts is seen as: as many sessions as there are places for pending looks
abbrev pub value_of : LogValue → CacheValue → List (Option PendingLook) → List Step → Bool → BookValue
value_of log cache pending history spent = value_with log.extent cache.capacity (length pending) history spent

abbrev state_with : List Accepted → List Pair → List (Option PendingLook) → State
state_with edits pairs pending = record { edits = edits; pairs = pairs; pending = pending }

-- the state that these parts hold
abbrev pub state_from : LogValue → CacheValue → List (Option PendingLook) → State
state_from log cache pending = state_with log.edits (held cache.entries) pending

same-state : (a b : State) → a.edits ≡ b.edits → a.pairs ≡ b.pairs → a.pending ≡ b.pending → a ≡ b
same-state a b edits pairs pending =
    ap (λ (es : List Accepted). state_with es a.pairs a.pending) edits
    ∙ ap (λ (ps : List Pair). state_with b.edits ps a.pending) pairs
    ∙ ap (λ (looks : List (Option PendingLook)). state_with b.edits b.pairs looks) pending

same-value : (a b : BookValue) → a.extent ≡ b.extent → a.capacity ≡ b.capacity → a.sessions ≡ b.sessions → a.history ≡ b.history → a.spent ≡ b.spent → a ≡ b
same-value a b extent capacity sessions history spent =
    ap (λ (e : Extent). value_with e a.capacity a.sessions a.history a.spent) extent
    ∙ ap (λ (n : ℕ). value_with b.extent n a.sessions a.history a.spent) capacity
    ∙ ap (λ (n : ℕ). value_with b.extent b.capacity n a.history a.spent) sessions
    ∙ ap (λ (steps : List Step). value_with b.extent b.capacity b.sessions steps a.spent) history
    ∙ ap (λ (s : Bool). value_with b.extent b.capacity b.sessions b.history s) spent

-- ---- at first
-- a book without steps, of 1 to 16 sessions and 1 to 16384 kept nodes
pub held-first : (extent : Extent) (capacity sessions : ℕ) (pending : List (Option PendingLook)) → 1 ≤ capacity → capacity ≤ most_capacity → 1 ≤ sessions → sessions ≤ 16 → pending ≡ replicate sessions None
    → IsHeld (record { extent = extent; edits = [] }) (record { capacity = capacity; entries = [] }) pending [] false
held-first extent capacity sessions pending some within one few are =
    let count : length pending ≡ sessions = ap length are ∙ length-replicate sessions None in
    record {
      book = record {
        some = some;
        within = within;
        one = omega (arith, count, one);
        few = omega (arith, count, few);
        due = refl;
        sessions = All-nil (λ (step : Step). IsSession (length pending) (session_of step));
        steps = λ session. omega arith;
      };
      edits = refl;
      looks = are ∙ ap (λ (n : ℕ). replicate n None) (sym count);
      pairs = λ unspent. refl;
      kept = All-nil (Keeps extent []);
      of_versions = subst (ArePending []) (sym are) (All-replicate (IsPendingOr []) sessions None tt);
    }

-- ---- after a step
-- a version that there is stays one
pub longer : (edits : List Accepted) (e : Edit) → length edits ≤ length (after_edit edits e)
longer edits e =
    elim (cases_Bool (accepts (current_rows edits) e)) [
      | inl accepted ↦ omega (arith, ap length (after-accepted edits e accepted), length_push edits (taken edits e))
      | inr refused ↦ omega (arith, ap length (after-refused edits e refused))
    ]

pending-still : (edits : List Accepted) (e : Edit) (look : Option PendingLook) → IsPendingOr edits look → IsPendingOr (after_edit edits e) look
pending-still edits e None is = tt
pending-still edits e (Some look) is = record { version = omega (arith, is.version, longer edits e); nodes = is.nodes }

pending-after : (edits : List Accepted) (e : Edit) (pending : List (Option PendingLook)) → ArePending edits pending → ArePending (after_edit edits e) pending
pending-after edits e pending are = All-weaker (IsPendingOr edits) (IsPendingOr (after_edit edits e)) (pending-still edits e) pending are

module _ (log : LogValue) (cache : CacheValue) (pending : List (Option PendingLook)) (history : List Step) (spent : Bool) (session : ℕ) (value : BookValue)
    (view_is : value_of log cache pending history spent ≡ value) (before : IsHeld log cache pending history spent) (of_value : IsReady value session) where
  ready : IsReady (value_of log cache pending history spent) session
  ready = subst (λ (b : BookValue). IsReady b session) (sym view_is) of_value

  -- the state after the history is what the book keeps
  state-is : state_of (value_of log cache pending history spent) ≡ state_from log cache pending
  state-is = same-state (state_of (value_of log cache pending history spent)) (state_from log cache pending) (sym before.edits) (sym (before.pairs ready.unspent)) (sym before.looks)

  -- what is true of the extent and the state that the book keeps is true of those of its value
  pub of-value : (P : Extent → State → Type 0) → P log.extent (state_from log cache pending) → P value.extent (state_of value)
  of-value P holds = subst (λ (b : BookValue). P b.extent (state_of b)) view_is (subst (P log.extent) (sym state-is) holds)

  -- a step whose state is the one after its request
  held-push : (request : Request) (new_log : LogValue) (new_cache : CacheValue) (looks : List (Option PendingLook)) (steps : List Step)
      → ((state : State) → session_of (step_of state request) ≡ session)
      → new_log.extent ≡ log.extent → new_cache.capacity ≡ cache.capacity → length looks ≡ length pending → steps ≡ history ++ step_of (state_from log cache pending) request ∷ []
      → state_from new_log new_cache looks ≡ after cache.capacity (state_from log cache pending) request
      → AreKept new_log new_cache.entries → ArePending new_log.edits looks → IsHeld new_log new_cache looks steps spent
  held-push request new_log new_cache looks steps of extent capacity count step next kept of_versions =
      let book : BookValue = value_of log cache pending history spent in
      let new : BookValue = value_of new_log new_cache looks steps spent in
      let pushed : steps ≡ history ++ step_of (state_of book) request ∷ [] = step ∙ ap (λ (s : State). history ++ step_of s request ∷ []) (sym state-is) in
      let same : new ≡ with_request request book = same-value new (with_request request book) extent capacity count pushed refl in
      let ours : IsReady book (session_of (step_of (state_of book) request)) = subst (IsReady book) (sym (of (state_of book))) ready in
      let state : state_of new ≡ state_from new_log new_cache looks =
      ap state_of same ∙ state-push book request ∙ ap (λ (s : State). after cache.capacity s request) state-is ∙ sym next in
      record {
        book = subst IsBook (sym same) (is_book-push book request before.book ours.of_book ours.steps);
        edits = ap (λ (s : State). s.edits) (sym state);
        looks = ap (λ (s : State). s.pending) (sym state);
        pairs = λ unspent. ap (λ (s : State). s.pairs) (sym state);
        kept = kept;
        of_versions = of_versions;
      }

  -- an edit leaves what a book holds: the step of the play, or all as it was
  pub held-edit : {T E : Type 0} (result : Result T E) (e : Edit) (new_log : LogValue) (new_cache : CacheValue) (steps : List Step)
      → OnOk result (new_log ≡ record { extent = log.extent; edits = after_edit log.edits e })
      → OnOk result (held new_cache.entries ≡ pairs_after_edit log.edits (after_edit log.edits e) (held cache.entries))
      → AreKept new_log new_cache.entries → new_cache.capacity ≡ cache.capacity
      → OnOk result (steps ≡ history ++ Edited session e (edit_reply log.edits e) ∷ [])
      → OnErr result ((new_log ≡ log) × (new_cache ≡ cache) × (steps ≡ history)) → IsHeld new_log new_cache pending steps spent
  held-edit (Ok reply) e new_log new_cache steps log_is pairs kept capacity step err =
      let edits : new_log.edits ≡ after_edit log.edits e = ap (λ (l : LogValue). l.edits) log_is in
      held-push (Editing session e) new_log new_cache pending steps (λ state. refl) (ap (λ (l : LogValue). l.extent) log_is) capacity refl step
      (ap (λ (es : List Accepted). state_with es (held new_cache.entries) pending) edits ∙ ap (λ (ps : List Pair). state_with (after_edit log.edits e) ps pending) pairs)
      kept (subst (λ (es : List Accepted). ArePending es pending) (sym edits) (pending-after log.edits e pending before.of_versions))
  held-edit (Err reason) e new_log new_cache steps log_is pairs kept capacity step err =
      subst (λ (l : LogValue). IsHeld l new_cache pending steps spent) (sym err.0)
      (subst (λ (c : CacheValue). IsHeld log c pending steps spent) (sym err.1) (subst (λ (ss : List Step). IsHeld log cache pending ss spent) (sym err.2) before))

  -- so does a look
  pub held-look : {T E : Type 0} (result : Result T E) (q : Query) (new_cache : CacheValue) (looks : List (Option PendingLook)) (steps : List Step)
      → OnOk result (state_from log new_cache looks ≡ after_looking session q (state_from log cache pending))
      → OnOk result (steps ≡ history ++ Looked session q (look_reply (state_from log cache pending) q) ∷ [])
      → AreKept log new_cache.entries → ArePending log.edits looks → length looks ≡ length pending → new_cache.capacity ≡ cache.capacity
      → OnErr result ((new_cache ≡ cache) × (looks ≡ pending) × (steps ≡ history)) → IsHeld log new_cache looks steps spent
  held-look (Ok look) q new_cache looks steps next step kept of_versions count capacity err =
      held-push (Looking session q) log new_cache looks steps (λ state. refl) refl capacity count step next kept of_versions
  held-look (Err reason) q new_cache looks steps next step kept of_versions count capacity err =
      subst (λ (c : CacheValue). IsHeld log c looks steps spent) (sym err.0)
      (subst (λ (ls : List (Option PendingLook)). IsHeld log cache ls steps spent) (sym err.1) (subst (λ (ss : List Step). IsHeld log cache pending ss spent) (sym err.2) before))

  -- the book is spent where there is no count
  pub held-settle : {T E : Type 0} (result : Result T E) (new_cache : CacheValue) (looks : List (Option PendingLook)) (steps : List Step) (failed : Bool)
      → OnOk result (held new_cache.entries ≡ pairs_settled cache.capacity log.edits (pending_of session pending) (held cache.entries))
      → AreKept log new_cache.entries → new_cache.capacity ≡ cache.capacity
      → OnOk result (looks ≡ pending_with session None pending) → ArePending log.edits looks
      → OnOk result (steps ≡ history ++ Settled session (length (settled_of log.edits (pending_of session pending))) ∷ [])
      → OnErr result ((looks ≡ pending) × (steps ≡ history)) → failed ≡ is_err result → IsHeld log new_cache looks steps failed
  held-settle (Ok count) new_cache looks steps failed pairs kept capacity looks_are of_versions step err is =
      subst (IsHeld log new_cache looks steps) (ready.unspent ∙ sym is)
      (held-push (Settling session) log new_cache looks steps (λ state. refl) refl capacity (ap length looks_are ∙ length-set pending (session - 1) None) step
      (ap (λ (ps : List Pair). state_with log.edits ps looks) pairs
      ∙ ap (λ (ls : List (Option PendingLook)). state_with log.edits (pairs_settled cache.capacity log.edits (pending_of session pending) (held cache.entries)) ls) looks_are)
      kept of_versions)
  held-settle (Err reason) new_cache looks steps failed pairs kept capacity looks_are of_versions step err is =
      let book : BookValue = value_of log cache pending history spent in
      let new : BookValue = value_of log new_cache looks steps failed in
      let same : new ≡ record book { spent = failed } = same-value new (record book { spent = failed }) refl capacity (ap length err.0) err.1 refl in
      let state : state_of new ≡ state_of book = ap state_of same in
      record {
        book = subst IsBook (sym same) (is_book-spent book failed before.book);
        edits = before.edits ∙ ap (λ (s : State). s.edits) (sym state);
        looks = err.0 ∙ before.looks ∙ ap (λ (s : State). s.pending) (sym state);
        pairs = λ unspent. let absurd_here : ◌≡◌ {A = Bool} true false = sym is ∙ unspent in cc;
        kept = kept;
        of_versions = of_versions;
      }
