-- What a script is due in an order of its sessions: the answer to each command, and the accepted edits.
use Rattle.std.specs.Prelude.{◌≡◌, ℕ, zero, suc, ◌-◌, ◌*◌, Bool, if◌then◌else◌, List, [], ◌∷◌, ◌++◌, map, drop, take, length, fold, sum_by, replicate, slice_index_or, slice_set, Option, Some, None, is_some, ℤ}
use Rattle.std.specs.List.{find, list_any}
use Rattle.definitions.specs.Words.{Extent, up_to}
use Rattle.definitions.specs.Signature.{signature}
use Rattle.definitions.specs.Logarithm.{logarithm}
use Rattle.definitions.specs.Rows.{RowValue, moves_of}
use Rattle.versions.specs.declared.edit.EditReply.{EditReply}
use Rattle.versions.specs.declared.log.Accepted.{Accepted}
use Rattle.versions.specs.Versions.{edit_reply}
use Rattle.definitions.specs.Hall.{hall_list}
use Rattle.lie_bracket.specs.declared.term.Term.{Term}
use Rattle.lie_bracket.specs.Tables.{heavy_pair}
use Rattle.dynkin_map.specs.Coordinates.{heavy_level, lie_bounds, coordinates}
use Rattle.script_reader.specs.declared.command.Ask.{Ask}
use Rattle.script_reader.specs.declared.command.Kind.{Kind}
use Rattle.script_reader.specs.declared.command.Kind.TheVariants as kinds
use Rattle.script_reader.specs.declared.command.Command.{Command}
use Rattle.script_reader.specs.declared.command.Command.TheVariants as commands
use Rattle.script_reader.specs.Script.{ScriptValue}
use Rattle.book.specs.declared.query.Query.{Query}
use Rattle.book.specs.declared.query.Allowed.{Allowed}
use Rattle.book.specs.declared.query.Allowed.TheVariants.{Pair, Level, Fits}
use Rattle.book.specs.declared.step.LookReply.{LookReply}
use Rattle.book.specs.Play.{State, Request, Editing, Looking, Settling, PendingLook, opening, after, pending_of, found, look_refusal, looked_rows}
use Rattle.session.specs.declared.asked.Asked.{Asked}
use Rattle.session.specs.declared.asked.Wanted.{Wanted}
use Rattle.session.specs.declared.asked.Wanted.TheVariants.{Signature, Logarithm}

-- ---- what is asked of the book
-- why there are no tables of a shape, or the bound of a logarithm
abbrev pub allowed_by : Option (ℕ × ℕ) → Option ℕ → List ℕ → Allowed
allowed_by (Some pair) level factors = Pair pair.0 pair.1
allowed_by None (Some level) factors = Level level
allowed_by None None factors = Fits factors

-- what a look may be answered with: factors 1 for a signature, the bounds of the coordinates for a logarithm
abbrev pub allowed_for : Extent → Wanted → Allowed
allowed_for extent Signature = Fits (replicate extent.depth 1)
allowed_for extent Logarithm = allowed_by (heavy_pair extent.depth (hall_list extent.width extent.depth)) (heavy_level extent) (lie_bounds extent)

-- what the rows are wanted for, where a query is of this kind
abbrev pub wanted_by : Kind → Wanted
wanted_by kinds.Sig = Signature
wanted_by kinds.Log = Logarithm

-- the look that a query asks for
abbrev pub asked_by : Ask → Asked
asked_by ask = record { ask = ask; wanted = wanted_by ask.kind }

-- the command asks for this look; an edit asks for none
abbrev pub Asks : Command → Asked → Type 0
Asks (commands.Edit edit) asked = ⊥
Asks (commands.Ask ask) asked = asked ≡ asked_by ask

-- the query of a look to the book
abbrev pub query_for : Extent → Asked → Query
query_for extent asked = record {
  kind = asked.ask.kind;
  from = asked.ask.from;
  to = asked.ask.to;
  r = asked.ask.r;
  version = asked.ask.version;
  allowed = allowed_for extent asked.wanted;
}

-- the request of a command to the book
abbrev pub request_for : Extent → ℕ → Command → Request
request_for extent session (commands.Edit edit) = Editing session edit
request_for extent session (commands.Ask ask) = Looking session (query_for extent (asked_by ask))

-- how many commands a request takes; to settle is no command
abbrev pub takes : Request → ℕ
takes (Settling session) = 0
takes _ = 1

-- ---- answers
-- an answer: a signature is the series of its numerators, a logarithm the list of its nonzero Hall coordinates
pub data Due : Type 0 where
  Edited : EditReply → Due
  Valued : LookReply → (List ℕ → ℤ) → Due
  Logged : LookReply → List Term → Due
  Refused : LookReply → Due

-- the value of rows: their signature, or the Hall coordinates of its logarithm
abbrev pub valued : Extent → Wanted → LookReply → List RowValue → Due
valued extent Signature reply rows = Valued reply (signature (moves_of rows))
valued extent Logarithm reply rows = Logged reply (coordinates extent (logarithm (signature (moves_of rows))))

-- the refusal where there is one
abbrev pub unless : Option LookReply → Due → Due
unless None due = due
unless (Some reply) due = Refused reply

-- the value of the rows of the version in the rounded interval, where they have one
abbrev pub looked : Extent → State → Wanted → Query → Due
looked extent state wanted q = unless (look_refusal state.edits q) (valued extent wanted (found state q) (looked_rows state.edits q))

-- the answer to a command
abbrev pub answer_to : Extent → State → Command → Due
answer_to extent state (commands.Edit edit) = Edited (edit_reply state.edits edit)
answer_to extent state (commands.Ask ask) = looked extent state (wanted_by ask.kind) (query_for extent (asked_by ask))

-- the answers at a session's request, with the commands that are left to it: that to the first, where the request takes one
abbrev pub answers_at : Extent → State → List Command → Request → List Due
answers_at extent state left request = map (answer_to extent state) (take (takes request) left)

-- ---- runs
-- the state of the book, and for each session the commands that are left and the answers so far
pub record Run : Type 0 where
  pub state : State
  pub left : List (List Command)
  pub transcripts : List (List Due)

-- no step taken: all commands are left, and there are no answers
abbrev pub opening_run : ScriptValue → Run
opening_run script = record {
  state = opening (length script.sessions);
  left = script.sessions;
  transcripts = replicate (length script.sessions) [];
}

-- the list of a session, whose number counts from 1
abbrev pub of_session : {X : Type 0} → ℕ → List (List X) → List X
of_session session lists = slice_index_or lists (session - 1) []

-- a pending look is settled, before the next command
abbrev pub next_of : Extent → ℕ → Option PendingLook → List Command → Option Request
next_of extent session (Some look) left = Some (Settling session)
next_of extent session None [] = None
next_of extent session None (command ∷ left) = Some (request_for extent session command)

-- what a session does next, if there is such a session and it has anything to do
abbrev pub next_request : Extent → ℕ → Run → Option Request
next_request extent zero run = None
next_request extent (suc n) run = next_of extent (suc n) (pending_of (suc n) run.state.pending) (of_session (suc n) run.left)

-- the session has anything to do
abbrev pub has_next : Extent → Run → ℕ → Bool
has_next extent run session = is_some (next_request extent session run)

-- a settle leaves the commands as they are, each other request takes one
abbrev pub left_after : ℕ → Request → List (List Command) → List (List Command)
left_after session (Settling s) left = left
left_after session _ left = slice_set left (session - 1) (drop 1 (of_session session left))

-- the run after a request of this session: its answer stands after the others
abbrev pub with_request : ℕ → Extent → ℕ → Request → Run → Run
with_request capacity extent session request run = record {
  state = after capacity run.state request;
  left = left_after session request run.left;
  transcripts = slice_set run.transcripts (session - 1) (of_session session run.transcripts ++ answers_at extent run.state (of_session session run.left) request);
}

-- the run after what the session does next; where it has nothing to do, nothing changes
abbrev pub with_next : ℕ → Extent → ℕ → Option Request → Run → Run
with_next capacity extent session None run = run
with_next capacity extent session (Some request) run = with_request capacity extent session request run

-- the run after one step of a session
abbrev pub stepped : ℕ → Extent → ℕ → Run → Run
stepped capacity extent session run = with_next capacity extent session (next_request extent session run) run

-- ---- orders
-- the run after the steps of these sessions, one after another
abbrev pub run_in : ℕ → Extent → List ℕ → Run → Run
run_in capacity extent order run = fold (λ r session. stepped capacity extent session r) run order

-- a session has something to do
abbrev pub has_any : Extent → Run → Bool
has_any extent run = list_any (has_next extent run) (up_to (length run.left))

-- the first place of an order, where they count from this one, at which the session has nothing to do, or past its end where any has
abbrev pub illegal_from : ℕ → ℕ → Extent → List ℕ → Run → Option ℕ
illegal_from capacity place extent [] run = if has_any extent run then Some place else None
illegal_from capacity place extent (session ∷ order) run =
    if has_next extent run session then illegal_from capacity (suc place) extent order (stepped capacity extent session run) else Some place

-- the first place, from 1, at which an order of the script is illegal; None where it is legal
abbrev pub illegal_place : ℕ → ScriptValue → List ℕ → Option ℕ
illegal_place capacity script order = illegal_from capacity 1 script.extent order (opening_run script)

-- the sessions after this one, and then those up to it
abbrev pub turns_after : ℕ → ℕ → List ℕ
turns_after last sessions = drop last (up_to sessions) ++ take last (up_to sessions)

-- the next session with anything to do, from the one after the last on
abbrev pub next_turn : Extent → ℕ → Run → Option ℕ
next_turn extent last run = find (has_next extent run) (turns_after last (length run.left))

-- the order in which sessions take one step each in turn, passing over those without one, of so many steps at most
abbrev pub turns_from : ℕ → ℕ → Extent → ℕ → Run → List ℕ
turns_from capacity zero extent last run = []
turns_from capacity (suc steps) extent last run =
    elim (next_turn extent last run) [
      | None ↦ []
      | Some session ↦ session ∷ turns_from capacity steps extent session (stepped capacity extent session run)
    ]

-- each command is one step, and each look may be followed by a settle
abbrev pub most_steps : ScriptValue → ℕ
most_steps script = 2 * sum_by length script.sessions

-- the sessions of all steps, where each takes one step in turn
abbrev pub round_order : ℕ → ScriptValue → List ℕ
round_order capacity script = turns_from capacity (most_steps script) script.extent 0 (opening_run script)

-- ---- outcomes
-- the answers to each session's commands, the sessions of the steps, and the accepted edits, one for each version from 1
pub record DueOutcome : Type 0 where
  pub transcripts : List (List Due)
  pub order : List ℕ
  pub edits : List Accepted

-- what is due to a script in an order
abbrev pub due_outcome : ℕ → ScriptValue → List ℕ → DueOutcome
due_outcome capacity script order =
    let run : Run = run_in capacity script.extent order (opening_run script) in
    record { transcripts = run.transcripts; order = order; edits = run.state.edits }
