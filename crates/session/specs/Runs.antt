-- What a run keeps while it takes its steps.
use Rattle.std.specs.Prelude.{◌≡◌, ℕ, ◌+◌, ◌-◌, ◌*◌, ◌≤◌, nat_eq, if◌then◌else◌, false, List, [], ◌∷◌, ◌++◌, All, map, drop, length, sum_by, slice_index_or, slice_set, true, Option, Some, None}
use Rattle.definitions.specs.Words.{Extent}
use Rattle.versions.specs.Versions.{LogValue}
use Rattle.script_reader.specs.Script.{ScriptValue}
use Rattle.solve.specs.declared.solution.Solved.{Solved}
use Rattle.book.specs.Walks.{exps_of}
use Rattle.book.specs.Play.{State, Request, Looking, PendingLook, pending_of, session_of, look_refusal, look_walk}
use Rattle.book.specs.Looks.{look_visits}
use Rattle.book.specs.declared.query.Query.{Query}
use Rattle.book.specs.declared.step.LookReply.{LookReply}
use Rattle.book.specs.declared.step.Step.{Step}
use Rattle.book.specs.declared.step.Step.TheVariants.{Looked}
use Rattle.book.specs.Plans.{IsSettlement}
use Rattle.book.specs.Books.{BookValue, IsSession, count_of, state_of, log_of, with_request}
use Rattle.session.specs.declared.answer.Answer.{Answer}
use Rattle.session.specs.declared.run.Run.{Run as TheRun}
use Rattle.session.specs.Play.{Run, opening_run, run_in, stepped, Due, has_next, next_request, takes, of_session}
use Rattle.session.specs.Answers.{ShowsEach, ShowsAll, HasMembers}

-- the order of the steps that were taken
abbrev pub order_of : BookValue → List ℕ
order_of book = map session_of book.history

-- the run of the script in the order of the steps that were taken
abbrev pub run_of : ScriptValue → BookValue → Run
run_of script book = run_in book.capacity script.extent (order_of book) (opening_run script)

-- the session has anything to do after the steps that were taken
pub record HasNext (script : ScriptValue) (book : BookValue) (session : ℕ) : Type 0 where
  pub has : has_next script.extent (run_of script book) session ≡ true

-- a pending look has its solution beside it
abbrev pub IsSolvedFor : LogValue → Option PendingLook → Option Solved → Type 0
IsSolvedFor log None solved = Unit {0}
IsSolvedFor log (Some look) None = ⊥
IsSolvedFor log (Some look) (Some solved) = IsSettlement log.extent log.edits look.version look.missed solved.nodes.items

-- a pending look counts as one step that was begun
abbrev pub begun : Option PendingLook → ℕ
begun None = 0
begun (Some look) = 1

-- what is kept of a session
pub record IsAt (script : ScriptValue) (run : TheRun) (session : ℕ) : Type 0 where
  pub left : of_session session (run_of script run.book).left ≡ drop (slice_index_or run.taken.items (session - 1) 0) (of_session session script.sessions)
  pub within : slice_index_or run.taken.items (session - 1) 0 ≤ length (of_session session script.sessions)
  pub shows : ShowsEach script.extent (of_session session run.transcripts.items) (of_session session (run_of script run.book).transcripts)
  pub members : All (HasMembers script.extent) (of_session session run.transcripts.items)
  pub solved : IsSolvedFor (log_of run.book) (pending_of session (state_of run.book).pending) (slice_index_or run.solved.items (session - 1) None)
  pub steps : count_of session run.book.history + begun (pending_of session (state_of run.book).pending) ≤ 2 * slice_index_or run.taken.items (session - 1) 0

-- the book, the solutions, the counts and the answers of a run fit together, session by session
pub record IsRun (script : ScriptValue) (run : TheRun) : Type 0 where
  pub extent : run.book.extent ≡ script.extent
  pub sessions : run.book.sessions ≡ length script.sessions
  pub unspent : run.book.spent ≡ false
  pub state : (run_of script run.book).state ≡ state_of run.book
  pub taken : length run.taken.items ≡ length script.sessions
  pub solved : length run.solved.items ≡ length script.sessions
  pub transcripts : length run.transcripts.items ≡ length script.sessions
  pub left_of : length (run_of script run.book).left ≡ length script.sessions
  pub answers : length (run_of script run.book).transcripts ≡ length script.sessions
  pub each : (session : ℕ) → IsSession (length script.sessions) session → IsAt script run session

-- ---- step units
-- no rows where the look is refused
abbrev pub exps_unless : Option LookReply → ℕ → ℕ
exps_unless None exps = exps
exps_unless (Some reply) exps = 0

-- the rows that a look exponentiates
abbrev pub exps_for : State → Query → ℕ
exps_for state q = exps_unless (look_refusal state.edits q) (sum_by exps_of (look_walk state q))

-- one for each visited node, and one for each row that is exponentiated
abbrev pub units_of : State → Option Request → ℕ
units_of state (Some (Looking session q)) = look_visits state q + exps_for state q
units_of state _ = 0

-- the units of the steps of an order
abbrev pub units_in : ℕ → Extent → List ℕ → Run → ℕ
units_in capacity extent [] run = 0
units_in capacity extent (session ∷ order) run = units_of run.state (next_request extent session run) + units_in capacity extent order (stepped capacity extent session run)

-- the units of one session's steps among those of an order
abbrev pub units_of_session : ℕ → Extent → ℕ → List ℕ → Run → ℕ
units_of_session capacity extent session [] run = 0
units_of_session capacity extent session (by ∷ order) run =
    (if nat_eq session by then units_of run.state (next_request extent by run) else 0) + units_of_session capacity extent session order (stepped capacity extent by run)

-- the counter of a session, whose number counts from 1
abbrev pub counter_of : ℕ → List ℕ → ℕ
counter_of session counters = slice_index_or counters (session - 1) 0

-- each counter was raised by exactly the units of its session's steps: the first by those of session 1, and so on
pub record AreCounted (capacity : ℕ) (script : ScriptValue) (order : List ℕ) (before after : List ℕ) : Type 0 where
  pub same_number : length after ≡ length before
  pub each : (session : ℕ) → IsSession (length script.sessions) session
      → counter_of session after ≡ counter_of session before + units_of_session capacity script.extent session order (opening_run script)

-- ---- one step
-- a session's step: its request is the book's next, the answers that are due to it follow those that it has, and a pending look has its
-- solution beside it
pub record IsAfter (extent : Extent) (session : ℕ) (request : Request) (dues : List Due) (old new : TheRun) : Type 0 where
  pub book : new.book ≡ with_request request old.book
  pub answers : List Answer
  pub shows : ShowsEach extent answers dues
  pub members : All (HasMembers extent) answers
  pub transcripts : new.transcripts.items ≡ slice_set old.transcripts.items (session - 1) (of_session session old.transcripts.items ++ answers)
  pub taken : new.taken.items ≡ slice_set old.taken.items (session - 1) (slice_index_or old.taken.items (session - 1) 0 + takes request)
  pub solved : new.solved.items ≡ slice_set old.solved.items (session - 1) (slice_index_or new.solved.items (session - 1) None)
  pub is_solved : IsSolvedFor (log_of new.book) (pending_of session (state_of new.book).pending) (slice_index_or new.solved.items (session - 1) None)

-- the session has its place in each list
pub record HasPlaces (session : ℕ) (run : TheRun) : Type 0 where
  pub some : 1 ≤ session
  pub taken : session ≤ length run.taken.items
  pub solved : session ≤ length run.solved.items
  pub transcripts : session ≤ length run.transcripts.items

-- the session has a pending look, whose solution stands beside it
pub record IsPendingSolved (session : ℕ) (run : TheRun) : Type 0 where
  pub look : PendingLook
  pub solution : Solved
  pub is_pending : pending_of session (state_of run.book).pending ≡ Some look
  pub is_beside : slice_index_or run.solved.items (session - 1) None ≡ Some solution
  pub settles : IsSettlement run.book.extent (state_of run.book).edits look.version look.missed solution.nodes.items

-- the last step is a look
pub record IsLastLook (history : List Step) : Type 0 where
  pub before : List Step
  pub session : ℕ
  pub query : Query
  pub reply : LookReply
  pub last : history ≡ before ++ Looked session query reply ∷ []

-- the book has the script's shape, its steps are those of the script's run in their order, and these answers are due in it
pub record IsTold (script : ScriptValue) (book : BookValue) (transcripts : List (List Answer)) : Type 0 where
  pub extent : book.extent ≡ script.extent
  pub state : (run_of script book).state ≡ state_of book
  pub shows : ShowsAll script.extent transcripts (run_of script book).transcripts
  pub members : All (All (HasMembers script.extent)) transcripts
