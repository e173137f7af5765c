-- The tally and the script of a list of lines, at one line more.
use Rattle.std.proofs.Common.{◌≡◌, ℕ, List, [], ◌∷◌, ◌++◌, Some, refl, ap, ◌∙◌}
use Rattle.std.proofs.lemmas.List.Sums.{fold_push}
use Rattle.script_reader.specs.declared.command.Command.{Command}
use Rattle.script_reader.specs.declared.said.Said.{Said}
use Rattle.script_reader.specs.declared.said.Said.TheVariants as sayings
use Rattle.script_reader.specs.declared.tally.Tally.{Tally}
use Rattle.script_reader.specs.Limits.{named, nothing_said, with_command, with_commands, with_said}
use Rattle.script_reader.specs.Lines.{said_in, with_some, tally}
use Rattle.script_reader.specs.Script.{empty_script, extent_with, script_with, script_with_some, script_of}

-- the tally of one line more is the tally after what it says
pub tally_takes : (earlier : List (List ℕ)) (line : List ℕ) (said : Said) → said_in (named (tally earlier).shape) line ≡ Some said → tally (earlier ++ line ∷ []) ≡ with_said (tally earlier) said
tally_takes earlier line said e =
    fold_push (λ before l. with_some before (said_in (named before.shape) l)) nothing_said earlier line ∙ ap (with_some (tally earlier)) e

-- the script of one line more is the script after what it says
pub script_takes : (earlier : List (List ℕ)) (line : List ℕ) (said : Said) → said_in (script_of earlier).extent line ≡ Some said → script_of (earlier ++ line ∷ []) ≡ script_with (script_of earlier) said
script_takes earlier line said e =
    fold_push (λ script l. script_with_some script (said_in script.extent l)) empty_script earlier line ∙ ap (script_with_some (script_of earlier)) e

-- commands leave the shape
pub commands_leave : (t : Tally) (commands : List Command) → (with_commands t commands).shape ≡ t.shape
commands_leave t [] = refl
commands_leave t (command ∷ commands) = commands_leave (with_command t command) commands

-- the extent that is named after one line more
pub extent_takes : (t : Tally) (said : Said) → named (with_said t said).shape ≡ extent_with (named t.shape) said
extent_takes t (sayings.Shape shape) = refl
extent_takes t sayings.Session = refl
extent_takes t (sayings.Watch interval) = refl
extent_takes t (sayings.Command command) = refl
extent_takes t (sayings.Commands commands) = ap named (commands_leave t commands)
