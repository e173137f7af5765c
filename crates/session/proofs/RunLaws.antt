-- A step keeps what a run keeps.
use Rattle.std.proofs.Common.{◌≡◌, ◌∙◌, ℕ, zero, suc, ◌+◌, ◌-◌, ◌*◌, ◌<◌, ◌≤◌, ◌≢◌, refl, sym, ap, subst, arith, Bool, false, cond, List, [], ◌∷◌, ◌++◌, length, drop, Option, Some, None, inl, inr}
use Rattle.std.specs.Prelude.{All, nat_eq, filter, fold, slice_index_or, slice_set}
use Rattle.std.specs.Arc.{arc_value}
use Rattle.std.proofs.Math.Seq.{drop-drop}
use Rattle.std.proofs.lemmas.Bool.{cases_Bool}
use Rattle.std.proofs.lemmas.Bool.Decides.{nat_tests}
use Rattle.std.proofs.lemmas.List.{append-nil, length-drop, length-set, map_push, get_or-set_same, get_or-set_other}
use Rattle.std.proofs.lemmas.List.Elements.{All-append, All-get_or, All-weaker, filter-append}
use Rattle.std.proofs.lemmas.List.Sums.{fold_push}
use Rattle.definitions.specs.Words.{Extent}
use Rattle.definitions.specs.Rows.{RowValue, moves_of}
use Rattle.tensor_product.specs.Sigs.{StandsFor}
use Rattle.solve.specs.declared.solution.Solved.{Solved}
use Rattle.solve.specs.declared.solution.SolvedNode.{SolvedNode}
use Rattle.versions.specs.declared.log.Accepted.{Accepted}
use Rattle.versions.proofs.Replays.{rows_at-append}
use Rattle.script_reader.specs.declared.command.Command.{Command}
use Rattle.script_reader.specs.declared.command.Command.TheVariants as commands
use Rattle.script_reader.specs.Script.{ScriptValue}
use Rattle.book.specs.declared.step.Step.{Step}
use Rattle.book.specs.Plans.{HasSignature, IsSettlement, node_rows}
use Rattle.book.specs.Play.{State, Request, Editing, Looking, Settling, PendingLook, pending_of, session_of, step_of}
use Rattle.book.specs.Play.{after as state_after}
use Rattle.book.specs.Books.{BookValue, IsSession, count_of, state_of, log_of}
use Rattle.book.specs.Books.{with_request as book_with}
use Rattle.book.proofs.StateLaws.{state-push, count-push}
use Rattle.session.specs.declared.answer.Answer.{Answer}
use Rattle.session.specs.declared.run.Run.{Run as TheRun}
use Rattle.session.specs.Play.{Run, Due, of_session, next_of, next_request, left_after, with_next, takes, stepped, opening_run, answers_at}
use Rattle.session.specs.Play.{with_request as run_with}
use Rattle.session.specs.Answers.{ShowsEach, HasMembers}
use Rattle.session.specs.Runs.{IsRun, IsAt, IsAfter, IsSolvedFor, begun, order_of, run_of}
use Rattle.session.proofs.PendingLaws.{IsLater, IsOfVersion, edits-later, pending-length, pending-of_versions, pending-other}

-- ---- the order and the run
-- one step more is one place more of the order
pub order-push : (book : BookValue) (session : ℕ) (request : Request) → session_of (step_of (state_of book) request) ≡ session → order_of (book_with request book) ≡ order_of book ++ session ∷ []
order-push book session request of = map_push session_of book.history (step_of (state_of book) request) ∙ ap (λ (s : ℕ). order_of book ++ s ∷ []) of

-- a step of the book is one of the script's run
pub run-push : (script : ScriptValue) (book : BookValue) (session : ℕ) (request : Request) → session_of (step_of (state_of book) request) ≡ session
    → next_request script.extent session (run_of script book) ≡ Some request
    → run_of script (book_with request book) ≡ run_with book.capacity script.extent session request (run_of script book)
run-push script book session request of next =
    let step : Run → ℕ → Run = λ r s. stepped book.capacity script.extent s r in
    ap (fold step (opening_run script)) (order-push book session request of)
    ∙ fold_push step (opening_run script) (order_of book) session
    ∙ ap (λ (o : Option Request). with_next book.capacity script.extent session o (run_of script book)) next

-- ---- requests
-- what a session does next hangs on its pending look and its commands alone
pub next-is : (extent : Extent) (session : ℕ) (run : Run) → 1 ≤ session
    → next_request extent session run ≡ next_of extent session (pending_of session run.state.pending) (of_session session run.left)
next-is extent zero run some = absurd (omega arith)
next-is extent (suc n) run some = refl

takes-one : (request : Request) → takes request ≤ 1
takes-one (Editing session e) = omega arith
takes-one (Looking session q) = omega arith
takes-one (Settling session) = omega arith

-- what is taken is there
takes-within : (extent : Extent) (session : ℕ) (look : Option PendingLook) (left : List Command) (request : Request) → next_of extent session look left ≡ Some request → takes request ≤ length left
takes-within extent session (Some look) left request is =
    let same : Settling session ≡ request = cc in
    let none : takes (Settling session) ≤ length left = omega arith in
    subst (λ (r : Request). takes r ≤ length left) same none
takes-within extent session None [] request is = absurd (cc)
takes-within extent session None (command ∷ left) request is = omega (arith, takes-one request)

begun-one : (look : Option PendingLook) → begun look ≤ 1
begun-one None = omega arith
begun-one (Some look) = omega arith

-- a pending look is settled alone
begun-settled : (extent : Extent) (session : ℕ) (look : Option PendingLook) (left : List Command) (s : ℕ) → next_of extent session look left ≡ Some (Settling s) → begun look ≡ 1
begun-settled extent session (Some look) left s is = refl
begun-settled extent session None [] s is = absurd (cc)
begun-settled extent session None (commands.Edit e ∷ left) s is = absurd (cc)
begun-settled extent session None (commands.Ask ask ∷ left) s is = absurd (cc)

-- a step is paid for by a command, or by the look that it settles
begun-after : (extent : Extent) (capacity : ℕ) (state : State) (request : Request) (session : ℕ) (left : List Command) → session_of (step_of state request) ≡ session
    → session - 1 < length state.pending → next_of extent session (pending_of session state.pending) left ≡ Some request
    → 1 + begun (pending_of session (state_after capacity state request).pending) ≤ begun (pending_of session state.pending) + 2 * takes request
begun-after extent capacity state (Editing s e) session left of within next = omega (arith, begun-one (pending_of session state.pending))
begun-after extent capacity state (Looking s q) session left of within next = omega (arith, begun-one (pending_of session (state_after capacity state (Looking s q)).pending))
begun-after extent capacity state (Settling s) session left of within next =
    let none : pending_of session (slice_set state.pending (s - 1) None) ≡ None =
    subst (λ (n : ℕ). pending_of session (slice_set state.pending (n - 1) None) ≡ None) (sym of) (get_or-set_same state.pending (session - 1) None None within) in
    omega (arith, begun-settled extent session (pending_of session state.pending) left s next, ap begun none)

-- ---- the commands that are left
-- a request takes its session's first command, or none
pub left-here : (session : ℕ) (request : Request) (left : List (List Command)) → session - 1 < length left
    → of_session session (left_after session request left) ≡ drop (takes request) (of_session session left)
left-here session (Editing s e) left within = get_or-set_same left (session - 1) (drop 1 (of_session session left)) [] within
left-here session (Looking s q) left within = get_or-set_same left (session - 1) (drop 1 (of_session session left)) [] within
left-here session (Settling s) left within = refl

-- it takes none of another session
pub left-other : (session : ℕ) (request : Request) (left : List (List Command)) (other : ℕ) → other - 1 ≢ session - 1 → of_session other (left_after session request left) ≡ of_session other left
left-other session (Editing s e) left other not = get_or-set_other left (session - 1) (other - 1) (drop 1 (of_session session left)) [] not
left-other session (Looking s q) left other not = get_or-set_other left (session - 1) (other - 1) (drop 1 (of_session session left)) [] not
left-other session (Settling s) left other not = refl

-- there are as many lists as before
pub left-length : (session : ℕ) (request : Request) (left : List (List Command)) → length (left_after session request left) ≡ length left
left-length session (Editing s e) left = length-set left (session - 1) (drop 1 (of_session session left))
left-length session (Looking s q) left = length-set left (session - 1) (drop 1 (of_session session left))
left-length session (Settling s) left = refl

-- ---- answers
-- answers of two lists are due one after the other
pub shows-append : (extent : Extent) (answers more : List Answer) (dues last : List Due) → ShowsEach extent answers dues → ShowsEach extent more last → ShowsEach extent (answers ++ more) (dues ++ last)
shows-append extent [] more [] last each then = then
shows-append extent [] more (due ∷ dues) last each then = absurd each
shows-append extent (answer ∷ answers) more [] last each then = absurd each
shows-append extent (answer ∷ answers) more (due ∷ dues) last each then = (each.0, shows-append extent answers more dues last each.1 then)

-- ---- steps
count-other : (session : ℕ) (history : List Step) (step : Step) → session ≢ session_of step → count_of session (history ++ step ∷ []) ≡ count_of session history
count-other session history step other =
    let theirs : Step → Bool = λ s. nat_eq session (session_of s) in
    let test : nat_eq session (session_of step) ≡ false = grind (arith, nat_tests) in
    ap length
    (filter-append theirs history (step ∷ []) ∙ ap (λ (b : Bool). filter theirs history ++ cond b (step ∷ []) []) test ∙ append-nil (filter theirs history))

-- ---- solutions
-- later edits change no row of an earlier version
pub settles-later : (extent : Extent) (old more : List Accepted) (look : PendingLook) (solved : List SolvedNode) → look.version ≤ length old
    → IsSettlement extent old look.version look.missed solved → IsSettlement extent (old ++ more) look.version look.missed solved
settles-later extent old more look solved within is = record {
  nodes_are = is.nodes_are;
  signatures = All-weaker (λ (s : SolvedNode). HasSignature extent old look.version s.node (arc_value s.sig)) (λ (s : SolvedNode). HasSignature extent (old ++ more) look.version s.node (arc_value s.sig))
      (λ s has. record { extent_is = has.extent_is; stands = subst (λ (rows : List RowValue). StandsFor (arc_value s.sig) (moves_of rows)) (same-rows s) has.stands }) solved is.signatures;
}
  where
    same-rows : (s : SolvedNode) → node_rows old look.version s.node ≡ node_rows (old ++ more) look.version s.node
    same-rows s = rw (rows_at-append old more look.version within)

solved-later : (extent : Extent) (old new : List Accepted) (look : Option PendingLook) (solved : Option Solved) → IsLater old new → IsOfVersion old look
    → IsSolvedFor (record { extent = extent; edits = old }) look solved → IsSolvedFor (record { extent = extent; edits = new }) look solved
solved-later extent old new None solved later of is = tt
solved-later extent old new (Some look) None later of is = absurd is
solved-later extent old new (Some look) (Some solved) later of is =
    subst (λ (edits : List Accepted). IsSettlement extent edits look.version look.missed solved.nodes.items) (sym later.are) (settles-later extent old later.more look solved.nodes.items of is)

-- ---- a step
module _ (script : ScriptValue) (old new : TheRun) (session : ℕ) (request : Request) (run : IsRun script old) (here : IsSession (length script.sessions) session)
    (of : session_of (step_of (state_of old.book) request) ≡ session) (next : next_request script.extent session (run_of script old.book) ≡ Some request)
    (dues : List Due) (dues_are : dues ≡ answers_at script.extent (state_of old.book) (of_session session (run_of script old.book).left) request)
    (step : IsAfter script.extent session request dues old new) where
  -- the new run, by its old book
  abbrev book : BookValue
  book = book_with request old.book

  abbrev stepped_run : TheRun
  stepped_run = record new { book = book }

  abbrev before : Run
  before = run_of script old.book

  state-is : state_of book ≡ state_after old.book.capacity (state_of old.book) request
  state-is = state-push old.book request

  run-is : run_of script book ≡ run_with old.book.capacity script.extent session request before
  run-is = run-push script old.book session request of next

  -- the request is the session's next by the old book
  asked : next_of script.extent session (pending_of session (state_of old.book).pending) (of_session session before.left) ≡ Some request
  asked = ap (λ (s : State). next_of script.extent session (pending_of session s.pending) (of_session session before.left)) (sym run.state) ∙ sym (next-is script.extent session before here.some) ∙ next

  transcripts-are : (run_of script book).transcripts ≡ slice_set before.transcripts (session - 1) (of_session session before.transcripts ++ dues)
  transcripts-are =
      ap (λ (r : Run). r.transcripts) run-is
      ∙ ap (λ (s : State). slice_set before.transcripts (session - 1) (of_session session before.transcripts ++ answers_at script.extent s (of_session session before.left) request)) run.state
      ∙ ap (λ (ds : List Due). slice_set before.transcripts (session - 1) (of_session session before.transcripts ++ ds)) (sym dues_are)

  taken-here : slice_index_or new.taken.items (session - 1) 0 ≡ slice_index_or old.taken.items (session - 1) 0 + takes request
  taken-here =
      ap (λ (ts : List ℕ). slice_index_or ts (session - 1) 0) step.taken
      ∙ get_or-set_same old.taken.items (session - 1) (slice_index_or old.taken.items (session - 1) 0 + takes request) 0 (omega (arith, run.taken, here.some, here.within))

  at-session : IsAt script stepped_run session
  at-session =
      let was : IsAt script old session = run.each session here in
      let t : ℕ = slice_index_or old.taken.items (session - 1) 0 in
      let commands : List Command = of_session session script.sessions in
      let answered : of_session session new.transcripts.items ≡ of_session session old.transcripts.items ++ step.answers =
      ap (of_session session) step.transcripts
      ∙ get_or-set_same old.transcripts.items (session - 1) (of_session session old.transcripts.items ++ step.answers) [] (omega (arith, run.transcripts, here.some, here.within)) in
      let due : of_session session (run_of script book).transcripts ≡ of_session session before.transcripts ++ dues =
      ap (of_session session) transcripts-are
      ∙ get_or-set_same before.transcripts (session - 1) (of_session session before.transcripts ++ dues) [] (omega (arith, run.answers, here.some, here.within)) in
      let place : session - 1 < length (state_of old.book).pending = omega (arith, pending-length old.book, run.sessions, here.some, here.within) in
      record {
        left =
            ap (λ (r : Run). of_session session r.left) run-is ∙ left-here session request before.left (omega (arith, run.left_of, here.some, here.within))
            ∙ ap (drop (takes request)) was.left ∙ drop-drop (takes request) t commands ∙ ap (λ (n : ℕ). drop n commands) (sym taken-here);
        within =
            omega
            (arith, taken-here, was.within, takes-within script.extent session (pending_of session (state_of old.book).pending) (of_session session before.left) request asked, ap length was.left, length-drop t commands);
        shows =
            subst (λ (answers : List Answer). ShowsEach script.extent answers (of_session session (run_of script book).transcripts)) (sym answered)
            (subst (ShowsEach script.extent (of_session session old.transcripts.items ++ step.answers)) (sym due)
            (shows-append script.extent (of_session session old.transcripts.items) step.answers (of_session session before.transcripts) dues was.shows step.shows));
        members =
            subst (All (HasMembers script.extent)) (sym answered) (All-append (HasMembers script.extent) (of_session session old.transcripts.items) step.answers was.members step.members);
        solved =
            subst (λ (b : BookValue). IsSolvedFor (log_of b) (pending_of session (state_of b).pending) (slice_index_or new.solved.items (session - 1) None)) step.book step.is_solved;
        steps =
            omega (
              arith,
              was.steps,
              taken-here,
              count-push session old.book.history (step_of (state_of old.book) request),
              ap (λ (s : State). begun (pending_of session s.pending)) state-is,
              begun-after script.extent old.book.capacity (state_of old.book) request session (of_session session before.left) of place asked,
            );
      }

  -- the other sessions stay where they are
  at-other : (other : ℕ) → IsSession (length script.sessions) other → other ≢ session → IsAt script stepped_run other
  at-other other there not =
      let was : IsAt script old other = run.each other there in
      let apart : other - 1 ≢ session - 1 = omega (arith, there.some, here.some) in
      let taken : slice_index_or new.taken.items (other - 1) 0 ≡ slice_index_or old.taken.items (other - 1) 0 =
      ap (λ (ts : List ℕ). slice_index_or ts (other - 1) 0) step.taken
      ∙ get_or-set_other old.taken.items (session - 1) (other - 1) (slice_index_or old.taken.items (session - 1) 0 + takes request) 0 apart in
      let answered : of_session other new.transcripts.items ≡ of_session other old.transcripts.items =
      ap (of_session other) step.transcripts
      ∙ get_or-set_other old.transcripts.items (session - 1) (other - 1) (of_session session old.transcripts.items ++ step.answers) [] apart in
      let due : of_session other (run_of script book).transcripts ≡ of_session other before.transcripts =
      ap (of_session other) transcripts-are
      ∙ get_or-set_other before.transcripts (session - 1) (other - 1) (of_session session before.transcripts ++ dues) [] apart in
      let solved : slice_index_or new.solved.items (other - 1) None ≡ slice_index_or old.solved.items (other - 1) None =
      ap (λ (ss : List (Option Solved)). slice_index_or ss (other - 1) None) step.solved
      ∙ get_or-set_other old.solved.items (session - 1) (other - 1) (slice_index_or new.solved.items (session - 1) None) None apart in
      let look : pending_of other (state_of book).pending ≡ pending_of other (state_of old.book).pending =
      ap (λ (s : State). pending_of other s.pending) state-is
      ∙ pending-other old.book.capacity (state_of old.book) request other (subst (λ (n : ℕ). other - 1 ≢ n - 1) (sym of) apart) in
      let later : IsLater (state_of old.book).edits (state_of book).edits =
      subst (IsLater (state_of old.book).edits) (ap (λ (s : State). s.edits) (sym state-is)) (edits-later old.book.capacity (state_of old.book) request) in
      let of_version : IsOfVersion (state_of old.book).edits (pending_of other (state_of old.book).pending) =
      All-get_or (IsOfVersion (state_of old.book).edits) (state_of old.book).pending (other - 1) None
      (omega (arith, pending-length old.book, run.sessions, there.some, there.within)) (pending-of_versions old.book) in
      record {
        left =
            ap (λ (r : Run). of_session other r.left) run-is ∙ left-other session request before.left other apart ∙ was.left
            ∙ ap (λ (n : ℕ). drop n (of_session other script.sessions)) (sym taken);
        within = omega (arith, taken, was.within);
        shows =
            subst (λ (answers : List Answer). ShowsEach script.extent answers (of_session other (run_of script book).transcripts)) (sym answered)
            (subst (ShowsEach script.extent (of_session other old.transcripts.items)) (sym due) was.shows);
        members = subst (All (HasMembers script.extent)) (sym answered) was.members;
        solved =
            subst (λ (o : Option PendingLook). IsSolvedFor (log_of book) o (slice_index_or new.solved.items (other - 1) None)) (sym look)
            (subst (IsSolvedFor (log_of book) (pending_of other (state_of old.book).pending)) (sym solved)
            (solved-later old.book.extent (state_of old.book).edits (state_of book).edits (pending_of other (state_of old.book).pending) (slice_index_or old.solved.items (other - 1) None) later of_version was.solved));
        steps =
            omega (
              arith,
              was.steps,
              taken,
              ap begun look,
              count-other other old.book.history (step_of (state_of old.book) request) (subst (λ (n : ℕ). other ≢ n) (sym of) not),
            );
      }

  at-each : (other : ℕ) → IsSession (length script.sessions) other → IsAt script stepped_run other
  at-each other there =
      elim (cases_Bool (nat_eq other session)) [
        | inl same ↦ (let is : other ≡ session = grind (arith, nat_tests) in subst (IsAt script stepped_run) (sym is) at-session)
        | inr apart ↦ at-other other there (grind (arith, nat_tests))
      ]

  is_run-book : IsRun script stepped_run
  is_run-book = record {
    extent = run.extent;
    sessions = run.sessions;
    unspent = run.unspent;
    state =
        ap (λ (r : Run). r.state) run-is ∙ ap (λ (s : State). state_after old.book.capacity s request) run.state ∙ sym state-is;
    taken = ap length step.taken ∙ length-set old.taken.items (session - 1) (slice_index_or old.taken.items (session - 1) 0 + takes request) ∙ run.taken;
    solved = ap length step.solved ∙ length-set old.solved.items (session - 1) (slice_index_or new.solved.items (session - 1) None) ∙ run.solved;
    transcripts =
        ap length step.transcripts ∙ length-set old.transcripts.items (session - 1) (of_session session old.transcripts.items ++ step.answers) ∙ run.transcripts;
    left_of = ap (λ (r : Run). length r.left) run-is ∙ left-length session request before.left ∙ run.left_of;
    answers =
        ap length transcripts-are
        ∙ length-set before.transcripts (session - 1) (of_session session before.transcripts ++ dues) ∙ run.answers;
    each = at-each;
  }

  -- the run after a step is one of the script
  pub is_run-after : IsRun script new
  is_run-after = subst (IsRun script) (ap (λ (b : BookValue). record new { book = b }) (sym step.book)) is_run-book
