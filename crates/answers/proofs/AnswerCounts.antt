-- A run has no more answers than the script has commands.
use Rattle.std.proofs.Common.{◌≡◌, ◌∙◌, ℕ, zero, suc, ◌+◌, ◌-◌, ◌≤◌, List, [], ◌∷◌, ◌++◌, length, get_or, set, refl, ap, subst, arith}
use Rattle.std.specs.Prelude.{Option, Some, None, sum_by, map, take}
use Rattle.std.proofs.lemmas.List.{length-append}
use Rattle.std.proofs.lemmas.List.Sums.{sum_by-cons}
use Rattle.std.proofs.lemmas.List.Folds.{sum_by-replicate}
use Rattle.session.proofs.RoundLaws.{command-taken}
use Rattle.definitions.specs.Words.{Extent}
use Rattle.script_reader.specs.declared.command.Command.{Command}
use Rattle.script_reader.specs.declared.command.Command.TheVariants as commands
use Rattle.script_reader.specs.Script.{ScriptValue, IsScript}
use Rattle.book.specs.Play.{Request, PendingLook, Settling, pending_of}
use Rattle.session.specs.declared.answer.Answer.{Answer}
use Rattle.session.specs.declared.answer.Outcome.{Outcome}
use Rattle.session.specs.Play.{Due, Run, opening_run, stepped, next_request, next_of, request_for, takes, answer_to, answers_at, of_session, with_request, with_next, run_in, due_outcome}
use Rattle.session.specs.Answers.{ShowsEach, ShowsAll, IsOutcome}

-- the commands that are left, and the answers so far
abbrev commands_and_answers : Run → ℕ
commands_and_answers run = sum_by length run.left + sum_by length run.transcripts

-- ---- lists
-- answers come to one session
answers-come : (transcripts : List (List Due)) (i : ℕ) (dues : List Due) → sum_by length (set transcripts i (get_or transcripts i [] ++ dues)) ≤ sum_by length transcripts + length dues
answers-come [] i dues = omega arith
answers-come (before ∷ transcripts) zero dues = omega (arith, sum_by-cons length (before ++ dues) transcripts, sum_by-cons length before transcripts, length-append before dues)
answers-come (before ∷ transcripts) (suc i) dues =
    omega (arith, sum_by-cons length before (set transcripts i (get_or transcripts i [] ++ dues)), sum_by-cons length before transcripts, answers-come transcripts i dues)

-- ---- a step
module _ (capacity : ℕ) (extent : Extent) (session : ℕ) (run : Run) where
  -- one answer is due to a command
  one-due : (request : Request) (command : Command) (rest : List Command) → takes request ≡ 1 → of_session session run.left ≡ command ∷ rest
      → length (answers_at extent run.state (of_session session run.left) request) ≡ 1
  one-due request command rest one e =
      ap (λ (left : List Command). length (answers_at extent run.state left request)) e ∙ ap (λ (n : ℕ). length (map (answer_to extent run.state) (take n (command ∷ rest)))) one

  command-answered : (command : Command) (rest : List Command) → of_session session run.left ≡ command ∷ rest
      → commands_and_answers (with_request capacity extent session (request_for extent session command) run) ≤ commands_and_answers run
  command-answered (commands.Edit edit) rest e =
      let request : Request = request_for extent session (commands.Edit edit) in
      omega (arith, command-taken run.left (session - 1) (commands.Edit edit) rest e, answers-come run.transcripts (session - 1) (answers_at extent run.state (of_session session run.left) request), one-due request (commands.Edit edit) rest refl e)
  command-answered (commands.Ask ask) rest e =
      let request : Request = request_for extent session (commands.Ask ask) in
      omega (arith, command-taken run.left (session - 1) (commands.Ask ask) rest e, answers-come run.transcripts (session - 1) (answers_at extent run.state (of_session session run.left) request), one-due request (commands.Ask ask) rest refl e)

  request-answered : (pending : Option PendingLook) (left : List Command) (request : Request) → of_session session run.left ≡ left → next_of extent session pending left ≡ Some request
      → commands_and_answers (with_request capacity extent session request run) ≤ commands_and_answers run
  request-answered (Some look) left request l e =
      let same : Settling session ≡ request = cc in
      subst (λ (r : Request). commands_and_answers (with_request capacity extent session r run) ≤ commands_and_answers run) same (omega (arith, answers-come run.transcripts (session - 1) []))
  request-answered None [] request l e = absurd (cc)
  request-answered None (command ∷ rest) request l e =
      let same : request_for extent session command ≡ request = cc in
      subst (λ (r : Request). commands_and_answers (with_request capacity extent session r run) ≤ commands_and_answers run) same (command-answered command rest l)

module _ (capacity : ℕ) (extent : Extent) where
  step-answered : (session : ℕ) (run : Run) → commands_and_answers (stepped capacity extent session run) ≤ commands_and_answers run
  step-answered zero run = omega arith
  step-answered (suc n) run = at (next_request extent (suc n) run) refl
    where
      at : (next : Option Request) → next_request extent (suc n) run ≡ next → commands_and_answers (with_next capacity extent (suc n) next run) ≤ commands_and_answers run
      at (Some request) e = request-answered capacity extent (suc n) run (pending_of (suc n) run.state.pending) (of_session (suc n) run.left) request refl e
      at None e = omega arith

  run-answered : (order : List ℕ) (run : Run) → commands_and_answers (run_in capacity extent order run) ≤ commands_and_answers run
  run-answered [] run = omega arith
  run-answered (session ∷ order) run = omega (arith, run-answered order (stepped capacity extent session run), step-answered session run)

-- ---- outcomes
due-few : (capacity : ℕ) (script : ScriptValue) (order : List ℕ) → IsScript script → sum_by length (due_outcome capacity script order).transcripts ≤ 65536
due-few capacity script order is =
    omega (arith, run-answered capacity script.extent order (opening_run script), sum_by-replicate {X = List Due} length (length script.sessions) [], is.few_commands)

shown-length : (extent : Extent) (kept : List Answer) (dues : List Due) → ShowsEach extent kept dues → length kept ≡ length dues
shown-length extent [] [] h = refl
shown-length extent [] (due ∷ dues) h = absurd h
shown-length extent (answer ∷ kept) [] h = absurd h
shown-length extent (answer ∷ kept) (due ∷ dues) h = ap suc (shown-length extent kept dues h.1)

all-shown-length : (extent : Extent) (transcripts : List (List Answer)) (sessions : List (List Due)) → ShowsAll extent transcripts sessions → sum_by length transcripts ≡ sum_by length sessions
all-shown-length extent [] [] h = refl
all-shown-length extent [] (dues ∷ sessions) h = absurd h
all-shown-length extent (kept ∷ transcripts) [] h = absurd h
all-shown-length extent (kept ∷ transcripts) (dues ∷ sessions) h =
    omega (arith, sum_by-cons length kept transcripts, sum_by-cons length dues sessions, shown-length extent kept dues h.0, all-shown-length extent transcripts sessions h.1)

-- the answers of an outcome that a script is due
pub answers-few : (capacity : ℕ) (script : ScriptValue) (order : List ℕ) (outcome : Outcome) → IsScript script → IsOutcome script.extent outcome (due_outcome capacity script order)
    → sum_by length outcome.transcripts.items ≤ 65536
answers-few capacity script order outcome is shows =
    omega (arith, all-shown-length script.extent outcome.transcripts.items (due_outcome capacity script order).transcripts shows.transcripts, due-few capacity script order is)
