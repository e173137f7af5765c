-- Adding the commands of a line one by one is adding all of them.
use Rattle.std.proofs.Common.{◌≡◌, ◌<◌, List, ◌∷◌, None, All}
use Rattle.std.proofs.lemmas.List.Elements.{All-head, All-tail}
use Rattle.watches.specs.declared.interval.Interval.{Interval}
use Rattle.script_reader.specs.declared.command.Command.{Command}
use Rattle.script_reader.specs.declared.tally.Tally.{Tally}
use Rattle.script_reader.specs.Limits.{named, with_command, with_commands, limit_reason}
use Rattle.script_reader.specs.Script.{onto_last, all_onto_last, IsCommand}
use Rattle.script_reader.specs.Reading.{Keeps}
use Rattle.script_reader.proofs.Kept.{within_limits, keeps_command}

-- with this tally, these sessions and these watches, and the rest of the commands still to be added
pub record IsAdding (first : Tally) (firsts : List (List Command)) (all : List Command) (t : Tally) (sessions : List (List Command)) (watches : List Interval) (rest : List Command) : Type 0 where
  -- a session has begun
  pub opened : 0 < t.sessions
  -- they keep what is kept while a script is read
  pub kept : Keeps t sessions watches
  -- the commands that are left are of the shape
  pub good : All (IsCommand (named t.shape)) rest
  -- none of them meets a limit
  pub within : limit_reason t rest ≡ None
  -- with them the tally comes to that of all
  pub tallied : with_commands t rest ≡ with_commands first all
  -- with them the sessions come to those of all
  pub added : all_onto_last sessions rest ≡ all_onto_last firsts all

-- one command was added
pub adds_next : (first : Tally) (firsts : List (List Command)) (all : List Command) (t : Tally) (sessions : List (List Command)) (watches : List Interval) (command : Command) (rest : List Command) (t' : Tally) (sessions' : List (List Command)) (watches' : List Interval) → IsAdding first firsts all t sessions watches (command ∷ rest) → t' ≡ with_command t command → sessions' ≡ onto_last command sessions → watches' ≡ watches → IsAdding first firsts all t' sessions' watches' rest
adds_next first firsts all t sessions watches command rest t' sessions' watches' a e e' e'' =
    let limits = within_limits t command rest a.within in
    rw (e, e', e'') (record {
      opened = a.opened;
      kept = keeps_command t sessions watches command a.kept a.opened (All-head (IsCommand (named t.shape)) command rest a.good) limits.0;
      good = All-tail (IsCommand (named t.shape)) command rest a.good;
      within = limits.1;
      tallied = a.tallied;
      added = a.added;
    })
