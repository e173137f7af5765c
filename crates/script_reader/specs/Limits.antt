-- What was said so far, counted, and the limits on commands.
use Rattle.std.specs.Prelude.{ℕ, suc, ◌+◌, ◌*◌, Bool, true, false, nat_le, if◌then◌else◌, List, [], ◌∷◌, fold, Option, Some, None, unwrap_or}
use Rattle.definitions.specs.Words.{Extent, shorter}
use Rattle.script_reader.specs.declared.tally.Tally.{Tally}
use Rattle.script_reader.specs.declared.said.Said.{Said}
use Rattle.script_reader.specs.declared.said.Said.TheVariants as sayings
use Rattle.script_reader.specs.declared.command.Command.{Command}
use Rattle.script_reader.specs.declared.command.Command.TheVariants.{Edit, Ask}
use Rattle.script_reader.specs.declared.fault.Reason.{Reason}
use Rattle.script_reader.specs.declared.fault.Reason.TheVariants as reasons
use Rattle.script_reader.specs.Fields.{unless, first_of}

-- the extent named so far, which is there before each command
abbrev pub named : Option Extent → Extent
named shape = unwrap_or shape (record { width = 0; depth = 0 })

-- the words of an extent
abbrev pub total_words : Extent → ℕ
total_words extent = shorter extent.width (suc extent.depth)

-- a query
abbrev pub is_query : Command → Bool
is_query (Edit edit) = false
is_query (Ask ask) = true

-- the commands that a line says
abbrev pub commands_of : Said → List Command
commands_of (sayings.Shape shape) = []
commands_of sayings.Session = []
commands_of (sayings.Watch interval) = []
commands_of (sayings.Command command) = command ∷ []
commands_of (sayings.Commands commands) = commands

-- ---- tallies: all that the reasons of a line depend on, of the content lines before it
-- the tally before the first line
abbrev pub nothing_said : Tally
nothing_said = record { shape = None; sessions = 0; watches = 0; commands = 0; queries = 0 }

-- the tally after one command more
abbrev pub with_command : Tally → Command → Tally
with_command before command = record before {
  commands = before.commands + 1;
  queries = before.queries + (if is_query command then 1 else 0);
}

-- the tally after commands more
abbrev pub with_commands : Tally → List Command → Tally
with_commands before commands = fold with_command before commands

-- the tally after one line more
abbrev pub with_said : Tally → Said → Tally
with_said before (sayings.Shape shape) = record before { shape = Some shape }
with_said before sayings.Session = record before { sessions = before.sessions + 1 }
with_said before (sayings.Watch interval) = record before { watches = before.watches + 1 }
with_said before said = with_commands before (commands_of said)

-- ---- limits
-- the limits, at the tally that counts a command in
abbrev pub limit_tests : Tally → List (Option Reason)
limit_tests counted =
    unless (nat_le counted.commands 65536) reasons.Commands
    ∷ unless (nat_le (counted.commands * total_words (named counted.shape)) 8000000) reasons.Load
    ∷ unless (nat_le (counted.queries * total_words (named counted.shape)) 2000000) reasons.Answers
    ∷ []

-- the first limit that the commands meet, each of them counted in turn
abbrev pub limit_reason : Tally → List Command → Option Reason
limit_reason before [] = None
limit_reason before (command ∷ commands) =
    first_of (first_of (limit_tests (with_command before command)) ∷ limit_reason (with_command before command) commands ∷ [])
