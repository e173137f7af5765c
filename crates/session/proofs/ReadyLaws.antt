-- What a session that has anything to do does next, and what its step requires.
use Rattle.std.proofs.Common.{◌≡◌, ◌∙◌, ℕ, suc, ◌-◌, ◌<◌, ◌≤◌, refl, sym, ap, subst, arith, Bool, true, false, List, [], ◌∷◌, length, drop, inl, inr, Option, Some, None}
use Rattle.std.specs.Prelude.{All, is_some, nat_lt, map, take, sum_by, slice_index_or}
use Rattle.std.proofs.Math.Seq.{drop-cons}
use Rattle.std.proofs.lemmas.Bool.{cases_Bool}
use Rattle.std.proofs.lemmas.Bool.Decides.{nat_tests}
use Rattle.std.proofs.lemmas.List.{get_or_read}
use Rattle.std.proofs.lemmas.List.Elements.{All-get_or}
use Rattle.std.proofs.lemmas.List.Sums.{get_or-le-sum_by}
use Rattle.definitions.specs.Words.{Extent}
use Rattle.solve.specs.declared.solution.Solved.{Solved}
use Rattle.script_reader.specs.declared.command.Command.{Command}
use Rattle.script_reader.specs.Script.{ScriptValue, IsScript, IsCommand}
use Rattle.book.specs.Play.{State, Request, Settling, PendingLook, pending_of, session_of, step_of}
use Rattle.book.specs.Books.{IsSession, IsReady, state_of, log_of}
use Rattle.session.specs.declared.run.Run.{Run as TheRun}
use Rattle.session.specs.Play.{Due, has_next, next_of, next_request, request_for, takes, answer_to, answers_at, of_session}
use Rattle.session.specs.Runs.{IsRun, IsAfter, IsAt, IsSolvedFor, HasPlaces, IsPendingSolved, run_of}
use Rattle.session.proofs.NextLaws.{has_next-none, has_next-left}
use Rattle.session.proofs.RunLaws.{next-is, is_run-after}

next-settling : (extent : Extent) (session : ℕ) (look : Option PendingLook) (left : List Command) → is_some look ≡ true → next_of extent session look left ≡ Some (Settling session)
next-settling extent session (Some look) left some = refl
next-settling extent session None left some = absurd (cc)

next-command : (extent : Extent) (session : ℕ) (look : Option PendingLook) (command : Command) (left : List Command) → is_some look ≡ false
    → next_of extent session look (command ∷ left) ≡ Some (request_for extent session command)
next-command extent session (Some look) command left none = absurd (cc)
next-command extent session None command left none = refl

pending-solved : (session : ℕ) (run : TheRun) (look : Option PendingLook) (solved : Option Solved) → pending_of session (state_of run.book).pending ≡ look
    → slice_index_or run.solved.items (session - 1) None ≡ solved → IsSolvedFor (log_of run.book) look solved → is_some look ≡ true → IsPendingSolved session run
pending-solved session run None solved look_is solved_is settles some = absurd (cc)
pending-solved session run (Some look) None look_is solved_is settles some = absurd settles
pending-solved session run (Some look) (Some solved) look_is solved_is settles some =
    record { look = look; solution = solved; is_pending = look_is; is_beside = solved_is; settles = settles }

module _ (script : ScriptValue) (run : TheRun) (session : ℕ) (is_script : IsScript script) (is : IsRun script run) (has : has_next script.extent (run_of script run.book) session ≡ true) where
  -- only a session that there is has anything to do
  is_session : IsSession (length script.sessions) session
  is_session = record {
    some =
        elim (cases_Bool (nat_lt session 1)) [
          | inl none ↦ (let low : session < 1 = grind (arith, nat_tests) in absurd (never (has_next-none script run session is (inl low))))
          | inr some ↦ grind (arith, nat_tests)
        ];
    within =
        elim (cases_Bool (nat_lt (length script.sessions) session)) [
          | inl past ↦ (let high : length script.sessions < session = grind (arith, nat_tests) in absurd (never (has_next-none script run session is (inr high))))
          | inr within ↦ grind (arith, nat_tests)
        ];
  }
    where
      never : has_next script.extent (run_of script run.book) session ≡ false → ⊥
      never none = let same : ◌≡◌ {A = Bool} true false = sym has ∙ none in cc

  few-commands : length (of_session session script.sessions) ≤ 65536
  few-commands =
      let place : session - 1 < length script.sessions = omega (arith, is_session.some, is_session.within) in
      let within : length (of_session session script.sessions) ≤ sum_by length script.sessions = get_or-le-sum_by length script.sessions (session - 1) [] place in
      omega (arith, within, is_script.few_commands)

  -- the session may do a step in the book
  pub is_ready : IsReady run.book session
  is_ready =
      let at : IsAt script run session = is.each session is_session in
      record {
        unspent = is.unspent;
        of_book = record { some = is_session.some; within = omega (arith, is.sessions, is_session.within) };
        steps = omega (arith, at.steps, at.within, few-commands);
      }

  -- it has its place in each list
  pub has_places : HasPlaces session run
  has_places = record {
    some = is_session.some;
    taken = omega (arith, is.taken, is_session.within);
    solved = omega (arith, is.solved, is_session.within);
    transcripts = omega (arith, is.transcripts, is_session.within);
  }

  -- where its look is pending, the solution stands beside it
  pub is_pending_solved : is_some (pending_of session (state_of run.book).pending) ≡ true → IsPendingSolved session run
  is_pending_solved some =
      pending-solved session run (pending_of session (state_of run.book).pending) (slice_index_or run.solved.items (session - 1) None) refl refl (is.each session is_session).solved some

  -- without a pending look a command is left
  pub some-command : is_some (pending_of session (state_of run.book).pending) ≡ false
      → slice_index_or run.taken.items (session - 1) 0 < length (of_session session script.sessions)
  some-command none =
      let test : nat_lt (slice_index_or run.taken.items (session - 1) 0) (length (of_session session script.sessions)) ≡ true = sym (has_next-left script run session is is_session none) ∙ has in
      grind (arith, nat_tests)

  next-asked : next_request script.extent session (run_of script run.book)
      ≡ next_of script.extent session (pending_of session (state_of run.book).pending) (of_session session (run_of script run.book).left)
  next-asked =
      next-is script.extent session (run_of script run.book) is_session.some
      ∙ ap (λ (s : State). next_of script.extent session (pending_of session s.pending) (of_session session (run_of script run.book).left)) is.state

  -- the pending look is settled
  pub next-settles : is_some (pending_of session (state_of run.book).pending) ≡ true → next_request script.extent session (run_of script run.book) ≡ Some (Settling session)
  next-settles some =
      next-asked ∙ next-settling script.extent session (pending_of session (state_of run.book).pending) (of_session session (run_of script run.book).left) some

  -- the next command is the one after those that were taken
  next-left : (command : Command) → is_some (pending_of session (state_of run.book).pending) ≡ false
      → command ≡ slice_index_or (of_session session script.sessions) (slice_index_or run.taken.items (session - 1) 0) command
      → of_session session (run_of script run.book).left ≡ command ∷ drop (suc (slice_index_or run.taken.items (session - 1) 0)) (of_session session script.sessions)
  next-left command none at =
      let t : ℕ = slice_index_or run.taken.items (session - 1) 0 in
      let commands : List Command = of_session session script.sessions in
      (is.each session is_session).left ∙ drop-cons commands t command (some-command none) ∙ ap (λ (c : Command). c ∷ drop (suc t) commands) (sym at)

  -- it is asked for
  pub next-commands : (command : Command) → is_some (pending_of session (state_of run.book).pending) ≡ false
      → command ≡ slice_index_or (of_session session script.sessions) (slice_index_or run.taken.items (session - 1) 0) command
      → next_request script.extent session (run_of script run.book) ≡ Some (request_for script.extent session command)
  next-commands command none at =
      let t : ℕ = slice_index_or run.taken.items (session - 1) 0 in
      next-asked
      ∙ ap (next_of script.extent session (pending_of session (state_of run.book).pending)) (next-left command none at)
      ∙ next-command script.extent session (pending_of session (state_of run.book).pending) command (drop (suc t) (of_session session script.sessions)) none

  -- its answer is due alone
  pub next-dues : (command : Command) (request : Request) → is_some (pending_of session (state_of run.book).pending) ≡ false
      → command ≡ slice_index_or (of_session session script.sessions) (slice_index_or run.taken.items (session - 1) 0) command → takes request ≡ 1
      → answer_to script.extent (state_of run.book) command ∷ [] ≡ answers_at script.extent (state_of run.book) (of_session session (run_of script run.book).left) request
  next-dues command request none at one =
      let answer : Command → Due = answer_to script.extent (state_of run.book) in
      sym (ap (λ (n : ℕ). map answer (take n (of_session session (run_of script run.book).left))) one ∙ ap (λ (left : List Command). map answer (take 1 left)) (next-left command none at))

  -- the next command is one of the script's, with its ranges
  pub is_command : (command : Command) → is_some (pending_of session (state_of run.book).pending) ≡ false
      → command ≡ slice_index_or (of_session session script.sessions) (slice_index_or run.taken.items (session - 1) 0) command → IsCommand script.extent command
  is_command command none at =
      subst (IsCommand script.extent) (sym at)
      (All-get_or (IsCommand script.extent) (of_session session script.sessions) (slice_index_or run.taken.items (session - 1) 0) command (some-command none)
      (All-get_or (All (IsCommand script.extent)) script.sessions (session - 1) [] (omega (arith, is_session.some, is_session.within)) is_script.commands))

  -- the run keeps its form after the step
  pub run-after : (extent : Extent) (request : Request) (dues : List Due) (new : TheRun) → extent ≡ script.extent → session_of (step_of (state_of run.book) request) ≡ session
      → next_request script.extent session (run_of script run.book) ≡ Some request
      → dues ≡ answers_at script.extent (state_of run.book) (of_session session (run_of script run.book).left) request → IsAfter extent session request dues run new → IsRun script new
  run-after extent request dues new shape of next due step =
      is_run-after script run new session request is is_session of next dues due (subst (λ (e : Extent). IsAfter e session request dues run new) shape step)

  -- what is read at the session's place is the command after those that were taken
  pub read-command : (sessions : List (List Command)) (commands list : List Command) (t : ℕ) (read command : Command) → is_some (pending_of session (state_of run.book).pending) ≡ false
      → sessions ≡ script.sessions → commands ≡ slice_index_or sessions (session - 1) commands → list ≡ commands → t ≡ slice_index_or run.taken.items (session - 1) t
      → read ≡ slice_index_or list t read → read ≡ command → command ≡ slice_index_or (of_session session script.sessions) (slice_index_or run.taken.items (session - 1) 0) command
  read-command sessions commands list t read command none sessions_are commands_at list_is t_at read_at is_read =
      let taken : t ≡ slice_index_or run.taken.items (session - 1) 0 =
      get_or_read run.taken.items (session - 1) t (omega (arith, is.taken, is_session.some, is_session.within)) t_at 0 in
      let list_of : list ≡ of_session session script.sessions =
      list_is ∙ get_or_read sessions (session - 1) commands (omega (arith, ap length sessions_are, is_session.some, is_session.within)) commands_at []
      ∙ ap (of_session session) sessions_are in
      let within : t < length list = omega (arith, taken, ap length list_of, some-command none) in
      sym is_read ∙ get_or_read list t read within read_at command
      ∙ ap (λ (xs : List Command). slice_index_or xs t command) list_of ∙ ap (λ (n : ℕ). slice_index_or (of_session session script.sessions) n command) taken
