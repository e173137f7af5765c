-- What reading line by line keeps.
use Rattle.std.specs.Prelude.{◌≡◌, ℕ, ◌<◌, ◌≤◌, List, All, length, sum_by, Option, Some, None, IsSome, IfSome, Result, MatchResult}
use Rattle.definitions.specs.Words.{IsShape}
use Rattle.watches.specs.declared.interval.Interval.{Interval}
use Rattle.watches.specs.Watches.{IsInterval}
use Rattle.script_reader.specs.declared.command.Command.{Command}
use Rattle.script_reader.specs.declared.fault.Reason.{Reason}
use Rattle.script_reader.specs.declared.fault.ScriptFault.{ScriptFault}
use Rattle.script_reader.specs.declared.fault.ScriptFault.TheVariants as faults
use Rattle.script_reader.specs.declared.fault.LineFault.{LineFault}
use Rattle.script_reader.specs.declared.fault.LineFault.TheVariants.{Bad, Memory}
use Rattle.script_reader.specs.declared.said.Said.{Said}
use Rattle.script_reader.specs.declared.said.Said.TheVariants as sayings
use Rattle.script_reader.specs.declared.tally.Tally.{Tally}
use Rattle.script_reader.specs.Limits.{named, commands_of, with_said, limit_reason}
use Rattle.script_reader.specs.Forms.{Form, form_reason}
use Rattle.script_reader.specs.Lines.{said_in}
use Rattle.script_reader.specs.Script.{sessions_with, watches_with, IsCommand}

-- refused for the reason that is due, or for want of memory
abbrev pub IsRefusal : Option Reason → LineFault → Type 0
IsRefusal due (Bad reason) = due ≡ Some reason
IsRefusal due Memory = Unit {0}

-- the fault of a script whose n-th line is refused so
abbrev pub fault_at : ℕ → LineFault → ScriptFault
fault_at n (Bad reason) = faults.Line n reason
fault_at n Memory = faults.Memory

-- what every tally keeps
pub record IsTally (tally : Tally) : Type 0 where
  pub shape_first : 0 < tally.sessions → IsSome tally.shape
  pub queries_within : tally.queries ≤ tally.commands
  pub few_commands : tally.commands ≤ 65536
  pub few_watches : tally.watches ≤ 64

-- what may be said next, up to the limits on commands
abbrev pub IsNext : Tally → Said → Type 0
IsNext before (sayings.Shape shape) = (before.shape ≡ None) × IsShape shape
IsNext before sayings.Session = IsSome before.shape × (before.sessions < 16)
IsNext before (sayings.Watch interval) = IsSome before.shape × (before.watches < 64) × IsInterval interval
IsNext before (sayings.Command command) = (0 < before.sessions) × IsCommand (named before.shape) command
IsNext before (sayings.Commands commands) = (0 < before.sessions) × All (IsCommand (named before.shape)) commands

-- a line of a form with no reason, and what it says
pub record IsOfForm (form : Form) (before : Tally) (words : List (List ℕ)) (said : Said) : Type 0 where
  pub good : form_reason form before words ≡ None
  pub next : IsNext before said
  pub says : said ≡ form.says (named before.shape) words

-- what a line of a form says where there is no reason; else exactly the first reason, or want of memory
abbrev pub Reads : Form → Tally → List (List ℕ) → Result Said LineFault → Type 0
Reads form before words result =
    MatchResult result (λ said. IsOfForm form before words said) (λ fault. IsRefusal (form_reason form before words) fault)

-- what a good content line says
pub record IsSaid (before : Tally) (line : List ℕ) (said : Said) : Type 0 where
  pub next : IsNext before said
  pub within : limit_reason before (commands_of said) ≡ None
  pub says : said_in (named before.shape) line ≡ Some said

-- what is kept while a script is read
pub record Keeps (tally : Tally) (sessions : List (List Command)) (watches : List Interval) : Type 0 where
  pub tally_kept : IsTally tally
  pub counted : tally.sessions ≡ length sessions
  pub few_sessions : tally.sessions ≤ 16
  pub commands_counted : tally.commands ≡ sum_by length sessions
  pub shaped : IfSome tally.shape IsShape
  pub commands : All (All (IsCommand (named tally.shape))) sessions
  pub watches_counted : tally.watches ≡ length watches
  pub watches_kept : All IsInterval watches

-- a good line was taken
pub record Takes (before : Tally) (sessions : List (List Command)) (watches : List Interval) (line : List ℕ) (after : Tally) (sessions' : List (List Command)) (watches' : List Interval) : Type 0 where
  pub said : Said
  pub good : IsSaid before line said
  pub tallied : after ≡ with_said before said
  pub added : sessions' ≡ sessions_with sessions said
  pub watched : watches' ≡ watches_with watches said
