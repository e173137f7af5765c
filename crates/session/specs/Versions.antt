-- The versions that the answers of a script tell, in an order of its sessions.
use Rattle.std.specs.Prelude.{ℕ, ◌≤◌, List, [], ◌∷◌, ◌++◌, AllPairs, Option, Some, None, Result, Ok, Err}
use Rattle.definitions.specs.Words.{Extent}
use Rattle.script_reader.specs.declared.fault.ScriptFault.{ScriptFault}
use Rattle.script_reader.specs.Script.{ScriptValue}
use Rattle.book.specs.Play.{State, Request, step_of}
use Rattle.book.specs.Seen.{seen_in}
use Rattle.session.specs.Play.{Run, next_request, stepped, opening_run}

-- the version in the reply to a request; to a query that names one there is none here
abbrev pub versions_at : State → Option Request → List ℕ
versions_at state None = []
versions_at state (Some request) = seen_in (step_of state request)

-- those in all replies, in the order of the steps
abbrev pub versions_in : ℕ → Extent → List ℕ → Run → List ℕ
versions_in capacity extent [] run = []
versions_in capacity extent (session ∷ order) run = versions_at run.state (next_request extent session run) ++ versions_in capacity extent order (stepped capacity extent session run)

-- an answer's version is no older than any that was told before, to its session or another
abbrev pub NeverFall : ℕ → ScriptValue → List ℕ → Type 0
NeverFall capacity script order = AllPairs (λ v w. v ≤ w) (versions_in capacity script.extent order (opening_run script))

-- so it is with a script, in any order and with any capacity
abbrev pub VersionsNeverFall : Result ScriptValue ScriptFault → Type 0
VersionsNeverFall (Ok script) = (capacity : ℕ) → (order : List ℕ) → NeverFall capacity script order
VersionsNeverFall (Err fault) = Unit {0}
