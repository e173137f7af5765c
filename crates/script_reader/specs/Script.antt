-- The script that bytes spell, or the first bad line.
use Rattle.std.specs.Prelude.{ℕ, suc, ◌≤◌, ◌^◌, nat_lt, if◌then◌else◌, List, [], ◌∷◌, ◌++◌, All, length, fold, filter, sum_by, Option, Some, None, Result, Ok, Err}
use Rattle.definitions.specs.Words.{Extent, IsShape}
use Rattle.spellings.specs.Lines.{lines_of, is_content}
use Rattle.script_reader.specs.declared.fault.Reason.{Reason}
use Rattle.script_reader.specs.declared.fault.Reason.TheVariants as reasons
use Rattle.script_reader.specs.declared.fault.ScriptFault.{ScriptFault}
use Rattle.script_reader.specs.declared.fault.ScriptFault.TheVariants.{Size, Line}
use Rattle.script_reader.specs.declared.command.Command.{Command}
use Rattle.script_reader.specs.declared.command.Command.TheVariants as commands
use Rattle.script_reader.specs.declared.command.Ask.{Ask}
use Rattle.script_reader.specs.declared.said.Said.{Said}
use Rattle.script_reader.specs.declared.said.Said.TheVariants as sayings
use Rattle.versions.specs.Versions.{IsEdit}
use Rattle.watches.specs.declared.interval.Interval.{Interval}
use Rattle.watches.specs.Watches.{IsInterval}
use Rattle.script_reader.specs.Limits.{named, commands_of}
use Rattle.script_reader.specs.Lines.{said_in, tally, reason_of}

-- a shape, the commands of each session, and the watched intervals
pub record ScriptValue : Type 0 where
  pub extent : Extent
  pub sessions : List (List Command)
  pub watches : List Interval

-- ---- what good content lines say
-- the script before the first line
abbrev pub empty_script : ScriptValue
empty_script = record { extent = named None; sessions = []; watches = [] }

-- a command more for the last session
abbrev pub onto_last : Command → List (List Command) → List (List Command)
onto_last command [] = []
onto_last command (session ∷ []) = (session ++ command ∷ []) ∷ []
onto_last command (session ∷ next ∷ sessions) = session ∷ onto_last command (next ∷ sessions)

-- commands more for the last session
abbrev pub all_onto_last : List (List Command) → List Command → List (List Command)
all_onto_last sessions commands = fold (λ before command. onto_last command before) sessions commands

-- the sessions after one line more
abbrev pub sessions_with : List (List Command) → Said → List (List Command)
sessions_with sessions (sayings.Shape shape) = sessions
sessions_with sessions sayings.Session = sessions ++ [] ∷ []
sessions_with sessions said = all_onto_last sessions (commands_of said)

-- the watched intervals after one line more
abbrev pub watches_with : List Interval → Said → List Interval
watches_with watches (sayings.Watch interval) = watches ++ interval ∷ []
watches_with watches _ = watches

-- the extent after one line more
abbrev pub extent_with : Extent → Said → Extent
extent_with extent (sayings.Shape shape) = shape
extent_with extent _ = extent

-- the script after one line more
abbrev pub script_with : ScriptValue → Said → ScriptValue
script_with script said = record { extent = extent_with script.extent said; sessions = sessions_with script.sessions said; watches = watches_with script.watches said }

-- the script after what a line says, if it says something
abbrev pub script_with_some : ScriptValue → Option Said → ScriptValue
script_with_some script None = script
script_with_some script (Some said) = script_with script said

-- the script that content lines say
abbrev pub script_of : List (List ℕ) → ScriptValue
script_of lines = fold (λ script line. script_with_some script (said_in script.extent line)) empty_script lines

-- ---- the first bad line
-- a line with this reason, or else a later one
abbrev pub bad_or : ℕ → Option Reason → Option (ℕ × Reason) → Option (ℕ × Reason)
bad_or n (Some reason) later = Some (n, reason)
bad_or n None later = later

-- the number of the first bad line among these, which n lines precede, and its first reason
abbrev pub first_bad : ℕ → List (List ℕ) → List (List ℕ) → Option (ℕ × Reason)
first_bad n earlier [] = if nat_lt 0 (tally earlier).sessions then None else Some (suc n, reasons.End)
first_bad n earlier (line ∷ lines) =
    if is_content line then bad_or (suc n) (reason_of earlier line) (first_bad (suc n) (earlier ++ line ∷ []) lines)
    else first_bad (suc n) earlier lines

-- the first bad line, or what the content lines say
abbrev pub judged : Option (ℕ × Reason) → List (List ℕ) → Result ScriptValue ScriptFault
judged (Some bad) lines = Err (Line bad.0 bad.1)
judged None lines = Ok (script_of (filter is_content lines))

-- the most bytes of a script
abbrev pub most_bytes : ℕ
most_bytes = 4194304

-- the script that the bytes spell, or why they spell none
abbrev pub parse : List ℕ → Result ScriptValue ScriptFault
parse bytes = if nat_lt most_bytes (length bytes) then Err Size else judged (first_bad 0 [] (lines_of bytes)) (lines_of bytes)

-- ---- what every script keeps
-- a query within the limits
pub record IsAsk (ask : Ask) : Type 0 where
  pub forward : ask.from ≤ ask.to
  pub within : ask.to ≤ 2 ^ 32
  pub resolution : ask.r ≤ 16

-- a command of an extent
abbrev pub IsCommand : Extent → Command → Type 0
IsCommand extent (commands.Edit e) = IsEdit extent e
IsCommand extent (commands.Ask ask) = IsAsk ask

-- a script within the limits
pub record IsScript (script : ScriptValue) : Type 0 where
  pub shape : IsShape script.extent
  pub some_session : 1 ≤ length script.sessions
  pub few_sessions : length script.sessions ≤ 16
  pub few_commands : sum_by length script.sessions ≤ 65536
  pub commands : All (All (IsCommand script.extent)) script.sessions
  pub few_watches : length script.watches ≤ 64
  pub watches : All IsInterval script.watches
