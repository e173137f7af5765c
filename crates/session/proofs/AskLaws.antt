-- The answer to a look of the book, and the solution where it is to be settled.
use Rattle.std.proofs.Common.{◌≡◌, ◌∙◌, ℕ, refl, sym, ap, subst, true, [], ◌∷◌, Option, Some, None, is_some}
use Rattle.std.specs.Prelude.{sum_by, unwrap_or}
use Rattle.definitions.specs.Words.{Extent}
use Rattle.solve.specs.Plans as plans
use Rattle.solve.specs.Plans.{PlansStand, all_missed}
use Rattle.solve.specs.Works.{WorkValue}
use Rattle.solve.specs.Solutions.{AreSolved}
use Rattle.solve.specs.declared.solution.Solved.{Solved}
use Rattle.versions.specs.Versions.{LogValue}
use Rattle.book.specs.declared.query.Query.{Query}
use Rattle.book.specs.declared.step.LookReply.{LookReply}
use Rattle.book.specs.declared.step.LookReply.TheVariants as replies
use Rattle.book.specs.Walks.{all_misses, exps_of}
use Rattle.book.specs.Plans.{IsSettlement}
use Rattle.book.specs.Play.{State, Looking, PendingLook, pending_of, pending_look, looked_version, looked_rows, look_refusal, look_walk, found, after_found, after_looking, unless_refused}
use Rattle.book.specs.declared.look.Look.{Look}
use Rattle.book.specs.declared.look.Look.TheVariants.{Work, NoVersion, Pair, Level, Overflow}
use Rattle.book.specs.Looks.{IsWorkOf, IsLook}
use Rattle.book.specs.Books.{BookValue, IsReady, state_of, log_of, with_request}
use Rattle.book.proofs.MissLaws.{missed-are, exps-are}
use Rattle.book.proofs.PlanLaws.{settled-by}
use Rattle.book.proofs.StateLaws.{state-push}
use Rattle.session.specs.declared.answer.Answer.TheVariants as answers
use Rattle.session.specs.declared.asked.Asked.{Asked}
use Rattle.session.specs.declared.look.Looked.{Looked}
use Rattle.session.specs.Play.{Due, query_for, valued, unless, looked}
use Rattle.session.specs.Answers.{Shows}
use Rattle.session.specs.Looks.{IsLookedFor}
use Rattle.session.specs.Runs.{IsSolvedFor, exps_unless, exps_for}
use Rattle.session.proofs.PlaceLaws.{pending-put}

-- what is missed is pending with its solution, if anything is
solved-for : (log : LogValue) (v : ℕ) (nodes : _) (solved : Solved) (kept : Option Solved) → IsSettlement log.extent log.edits v nodes solved.nodes.items
    → (is_some (pending_look v nodes) ≡ true → kept ≡ Some solved) → IsSolvedFor log (pending_look v nodes) kept
solved-for log v [] solved kept is beside = tt
solved-for log v (node ∷ nodes) solved kept is beside =
    subst (IsSolvedFor log (Some (record { version = v; missed = node ∷ nodes }))) (sym (beside refl)) is

-- ---- the book after a look
module _ (session : ℕ) (q : Query) (old new : BookValue) (book : new ≡ with_request (Looking session q) old) where
  abbrev state : State
  state = state_of old

  abbrev v : ℕ
  v = looked_version state.edits q

  state-after : state_of new ≡ after_looking session q state
  state-after = ap state_of book ∙ state-push old (Looking session q)

  module _ (none : look_refusal state.edits q ≡ None) where
    state-found : state_of new ≡ after_found session q state
    state-found = state-after ∙ ap (λ (refusal : Option LookReply). unless_refused refusal state (after_found session q state)) none

    log-found : log_of old ≡ log_of new
    log-found =
        ap (λ (s : State). record { extent = old.extent; edits = s.edits }) (sym state-found)
        ∙ ap (λ (b : BookValue). record { extent = b.extent; edits = (state_of new).edits }) (sym book)

    -- what the walk misses is pending
    pending-found : IsReady old session → pending_look v (all_misses (look_walk state q)) ≡ pending_of session (state_of new).pending
    pending-found ready =
        sym (ap (λ (s : State). pending_of session s.pending) state-found ∙ pending-put old session (pending_look v (all_misses (look_walk state q))) ready.of_book)

    -- a solution of the work is one of the pending look
    solved-answered : IsReady old session → (work : WorkValue) (solved : Solved) (kept : Option Solved) → IsWorkOf old.extent state q work → AreSolved old.extent (all_missed work.plans) solved.nodes.items
        → (is_some (pending_of session (state_of new).pending) ≡ true → kept ≡ Some solved) → IsSolvedFor (log_of new) (pending_of session (state_of new).pending) kept
    solved-answered ready work solved kept is are beside =
        let extent : Extent = old.extent in
        let nodes = all_misses (look_walk state q) in
        let by = settled-by extent state.edits v work.plans solved.nodes.items is.each are in
        let settlement : IsSettlement extent state.edits v nodes solved.nodes.items =
        record { nodes_are = by.1 ∙ missed-are extent state.edits v (look_walk state q) work.plans is.plans; signatures = by.0 } in
        let pending = pending-found ready in
        let beside_here : is_some (pending_look v nodes) ≡ true → kept ≡ Some solved = λ some. beside (ap is_some (sym pending) ∙ some) in
        subst (λ (log : LogValue). IsSolvedFor log (pending_of session (state_of new).pending) kept) log-found
        (subst (λ (look : Option PendingLook). IsSolvedFor (log_of old) look kept) pending (solved-for (log_of old) v nodes solved kept settlement beside_here))

-- ---- a look that gives a work
-- the look of an answered query and its work, at the book that the session found
pub record IsAsked (extent : Extent) (session : ℕ) (asked : Asked) (old : BookValue) (work : WorkValue) : Type 0 where
  -- the query is of the book's extent
  pub extent_is : extent ≡ old.extent
  -- the session may do a step
  pub ready : IsReady old session
  -- the look isn't refused
  pub unrefused_is : look_refusal (state_of old).edits (query_for extent asked) ≡ None
  -- the work is that of the query
  pub work_is : IsWorkOf extent (state_of old) (query_for extent asked) work

-- a look that gave a work is one
pub asked-work : (extent : Extent) (session : ℕ) (asked : Asked) (old : BookValue) (looked : Looked) (work : WorkValue) → IsLookedFor extent session asked old looked → looked.look ≡ Work work
    → IsAsked extent session asked old work
asked-work extent session asked old looked work is look_is =
    let known : IsLook old.extent (state_of old) (query_for extent asked) (Work work) = subst (IsLook old.extent (state_of old) (query_for extent asked)) look_is is.looked_is.gives in
    record {
      extent_is = is.extent_is;
      ready = is.ready;
      unrefused_is = known.0;
      work_is = subst (λ (e : Extent). IsWorkOf e (state_of old) (query_for extent asked) work) (sym is.extent_is) known.1;
    }

module _ (extent : Extent) (session : ℕ) (asked : Asked) (old : BookValue) (work : WorkValue) (is : IsAsked extent session asked old work) where
  abbrev q : Query
  q = query_for extent asked

  abbrev new : BookValue
  new = with_request (Looking session q) old

  -- where the look is pending, its solution is the one that is kept
  pub asked-solved : (solved : Solved) (kept : Option Solved) → AreSolved extent (all_missed work.plans) solved.nodes.items
      → (is_some (pending_of session (state_of new).pending) ≡ true → kept ≡ Some solved) → IsSolvedFor (log_of new) (pending_of session (state_of new).pending) kept
  asked-solved solved kept are beside =
      solved-answered session q old new refl is.unrefused_is is.ready work solved kept (subst (λ (e : Extent). IsWorkOf e (state_of old) q work) is.extent_is is.work_is)
      (subst (λ (e : Extent). AreSolved e (all_missed work.plans) solved.nodes.items) is.extent_is are) beside

  -- the rows that are exponentiated are those of the plans
  pub asked-exps : sum_by plans.exps_of work.plans ≡ exps_for (state_of old) q
  asked-exps =
      exps-are extent (state_of old).edits (looked_version (state_of old).edits q) (look_walk (state_of old) q) work.plans is.work_is.plans
      ∙ sym (ap (λ (refusal : Option LookReply). exps_unless refusal (sum_by exps_of (look_walk (state_of old) q))) is.unrefused_is)

-- ---- a look that is refused
-- without a work there is a refusal
abbrev IsRefusal : Look → Type 0
IsRefusal (Work work) = ⊥
IsRefusal _ = Unit {0}

-- a look without a work is a refusal
pub refused-look : (look : Look) → ((work : WorkValue) → look ≡ Work work → ⊥) → IsRefusal look
refused-look (Work work) not = not work refl
refused-look (NoVersion current) not = tt
refused-look (Pair a b) not = tt
refused-look (Level k) not = tt
refused-look (Overflow v) not = tt

refusal-is : (extent : Extent) (state : State) (q : Query) (look : Look) → IsRefusal look → IsLook extent state q look → (reply : LookReply) × (look_refusal state.edits q ≡ Some reply)
refusal-is extent state q (Work work) refused is = absurd refused
refusal-is extent state q (NoVersion current) refused is = (replies.NoVersion current, is)
refusal-is extent state q (Pair a b) refused is = (replies.Pair a b, is)
refusal-is extent state q (Level k) refused is = (replies.Level k, is)
refusal-is extent state q (Overflow v) refused is = (replies.Overflow v, is)

module _ (extent : Extent) (session : ℕ) (asked : Asked) (old : BookValue) (look : Looked) (refused : IsRefusal look.look) (is : IsLookedFor extent session asked old look) where
  abbrev asked_for : Query
  asked_for = query_for extent asked

  abbrev refused_book : BookValue
  refused_book = with_request (Looking session asked_for) old

  refusal : (reply : LookReply) × (look_refusal (state_of old).edits asked_for ≡ Some reply)
  refusal = refusal-is old.extent (state_of old) asked_for look.look refused is.looked_is.gives

  -- the answer of a refused look is the refusal that is due
  pub refused-shows : Shows extent (answers.Refused look.reply) (looked extent (state_of old) asked.wanted asked_for)
  refused-shows =
      let due : Due = valued extent asked.wanted (found (state_of old) asked_for) (looked_rows (state_of old).edits asked_for) in
      subst (Shows extent (answers.Refused look.reply)) (sym (ap (λ (r : Option LookReply). unless r due) refusal.1))
      (is.looked_is.reply_is ∙ ap (λ (r : Option LookReply). unwrap_or r (found (state_of old) asked_for)) refusal.1)

  -- after it no look is pending
  pub refused-none : pending_of session (state_of refused_book).pending ≡ None
  refused-none =
      ap (λ (s : State). pending_of session s.pending)
      (state-push old (Looking session asked_for) ∙ ap (λ (r : Option LookReply). unless_refused r (state_of old) (after_found session asked_for (state_of old))) refusal.1)
      ∙ is.free

  -- it exponentiates no rows
  pub refused-exps : exps_for (state_of old) asked_for ≡ 0
  refused-exps = ap (λ (r : Option LookReply). exps_unless r (sum_by exps_of (look_walk (state_of old) asked_for))) refusal.1
