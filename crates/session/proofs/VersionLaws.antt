-- The versions of a script's answers are those that the book's steps tell.
use Rattle.std.proofs.Common.{◌≡◌, ℕ, refl, sym, ap, subst, List, [], ◌∷◌, ◌++◌, Option, Some, None}
use Rattle.std.specs.Prelude.{AllPairs, ◌≤◌}
use Rattle.definitions.specs.Words.{Extent}
use Rattle.script_reader.specs.Script.{ScriptValue}
use Rattle.book.specs.Play.{State, Request, step_of, steps_of}
use Rattle.book.specs.Seen.{versions_seen, seen_in}
use Rattle.session.specs.Play.{Run, next_request, with_next, stepped, opening_run}
use Rattle.session.specs.Versions.{versions_at, versions_in, NeverFall}

-- the requests of a run in this order
abbrev listed : Option Request → List Request
listed None = []
listed (Some request) = request ∷ []

abbrev requests_in : ℕ → Extent → List ℕ → Run → List Request
requests_in capacity extent [] run = []
requests_in capacity extent (session ∷ order) run = listed (next_request extent session run) ++ requests_in capacity extent order (stepped capacity extent session run)

-- one step more, whose versions come first
module _ (capacity : ℕ) (extent : Extent) (order : List ℕ) (run : Run) where
  abbrev AreSeen : Run → Type 0
  AreSeen r = versions_in capacity extent order r ≡ versions_seen (steps_of capacity r.state (requests_in capacity extent order r))

  versions-step : (session : ℕ) (next : Option Request) → ((r : Run) → AreSeen r)
      → versions_at run.state next ++ versions_in capacity extent order (with_next capacity extent session next run)
      ≡ versions_seen (steps_of capacity run.state (listed next ++ requests_in capacity extent order (with_next capacity extent session next run)))
  versions-step session None seen = seen run
  versions-step session (Some request) seen = ap (λ (vs : List ℕ). seen_in (step_of run.state request) ++ vs) (seen (with_next capacity extent session (Some request) run))

versions-are : (capacity : ℕ) (extent : Extent) (order : List ℕ) (run : Run)
    → versions_in capacity extent order run ≡ versions_seen (steps_of capacity run.state (requests_in capacity extent order run))
versions-are capacity extent [] run = refl
versions-are capacity extent (session ∷ order) run =
    versions-step capacity extent order run session (next_request extent session run) (λ r. versions-are capacity extent order r)

-- versions never fall along an order of a script, since they don't in the play of any requests
pub never-fall : (capacity : ℕ) (script : ScriptValue) (order : List ℕ)
    → ((capacity : ℕ) → (state : State) → (requests : List Request) → AllPairs (λ v w. v ≤ w) (versions_seen (steps_of capacity state requests))) → NeverFall capacity script order
never-fall capacity script order rise =
    subst (AllPairs (λ v w. v ≤ w)) (sym (versions-are capacity script.extent order (opening_run script)))
    (rise capacity (opening_run script).state (requests_in capacity script.extent order (opening_run script)))
