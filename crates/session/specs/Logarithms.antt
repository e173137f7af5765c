-- That the due Hall coordinates, expanded by brackets, are exactly the logarithm.
use Rattle.std.specs.Prelude.{◌≡◌, ℕ, ◌≤◌, List, [], ◌∷◌, length, Option, Some, Result, Ok, Err, ℤ, pos, ◌*ℤ◌}
use Rattle.definitions.specs.Words.{Extent, IsWord}
use Rattle.definitions.specs.Signature.{signature}
use Rattle.definitions.specs.Logarithm.{logarithm}
use Rattle.definitions.specs.Rows.{moves_of}
use Rattle.definitions.specs.Hall.{hall_list, expansion}
use Rattle.lie_bracket.specs.declared.term.Term.{Term}
use Rattle.lie_bracket.specs.Brackets.{expanded}
use Rattle.script_reader.specs.declared.command.Command.{Command}
use Rattle.script_reader.specs.declared.fault.ScriptFault.{ScriptFault}
use Rattle.script_reader.specs.Script.{ScriptValue}
use Rattle.book.specs.declared.step.LookReply.{LookReply}
use Rattle.book.specs.Play.{State, Request, Looking, looked_rows}
use Rattle.session.specs.Play.{Run, Logged, answers_at, of_session, next_request, stepped, opening_run}

-- at each word of k letters the sum over the members, with their coordinates, of their expansions by commutators is k times the series
pub record ExpandsTo (extent : Extent) (terms : List Term) (series : List ℕ → ℤ) : Type 0 where
  pub expands : (word : List ℕ) → IsWord extent word → 1 ≤ length word → expanded (expansion (hall_list extent.width extent.depth)) terms word ≡ pos (length word) *ℤ series word

-- a logarithm that answers the request, where these commands are left, expands to that of the rows of its version in its interval
abbrev pub IsExpanded : Extent → State → List Command → Option Request → Type 0
IsExpanded extent state left (Some (Looking session q)) =
    (reply : LookReply) → (terms : List Term) → answers_at extent state left (Looking session q) ≡ Logged reply terms ∷ [] → ExpandsTo extent terms (logarithm (signature (moves_of (looked_rows state.edits q))))
IsExpanded extent state left _ = Unit {0}

-- so do all that are due in this order
abbrev pub AreExpanded : ℕ → Extent → List ℕ → Run → Type 0
AreExpanded capacity extent [] run = Unit {0}
AreExpanded capacity extent (session ∷ order) run =
    IsExpanded extent run.state (of_session session run.left) (next_request extent session run) × AreExpanded capacity extent order (stepped capacity extent session run)

-- this holds along the order, from the script's start
abbrev pub ExpandIn : ℕ → ScriptValue → List ℕ → Type 0
ExpandIn capacity script order = AreExpanded capacity script.extent order (opening_run script)

-- so it is with all that are due to a script, in any order and with any capacity
abbrev pub LogarithmsExpand : Result ScriptValue ScriptFault → Type 0
LogarithmsExpand (Ok script) = (capacity : ℕ) → (order : List ℕ) → ExpandIn capacity script order
LogarithmsExpand (Err fault) = Unit {0}
