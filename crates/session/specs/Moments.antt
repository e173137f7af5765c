-- What one session does, told from the steps of all.
use Rattle.std.specs.Prelude.{◌≡◌, ℕ, nat_eq, Bool, if◌then◌else◌, List, [], ◌∷◌, ◌++◌, map, drop, sum_by, Some}
use Rattle.definitions.specs.Words.{Extent}
use Rattle.script_reader.specs.declared.command.Command.{Command}
use Rattle.book.specs.Play.{State, Request, opening, after, pending_of, request_of}
use Rattle.book.specs.Seen.{asker}
use Rattle.book.specs.Books.{BookValue}
use Rattle.session.specs.Play.{Due, next_of, takes, answers_at}
use Rattle.session.specs.Runs.{units_of}

-- a request, and the state that it meets
pub record Moment : Type 0 where
  pub state : State
  pub request : Request

-- the moment, where it is the session's own
abbrev pub own_moment : Bool → Moment → List Moment
own_moment mine moment = if mine then moment ∷ [] else []

-- a session's requests among those of all, which begin in this state
abbrev pub moments : ℕ → ℕ → State → List Request → List Moment
moments capacity session state [] = []
moments capacity session state (request ∷ requests) =
    own_moment (nat_eq session (asker request)) (record { state = state; request = request }) ++ moments capacity session (after capacity state request) requests

-- a session's requests in a book
abbrev pub moments_of : BookValue → ℕ → List Moment
moments_of book session = moments book.capacity session (opening book.sessions) (map request_of book.history)

-- each request is the session's next one, where these commands are left at first
abbrev pub AreNext : Extent → ℕ → List Command → List Moment → Type 0
AreNext extent session left [] = Unit {0}
AreNext extent session left (moment ∷ moments) =
    (next_of extent session (pending_of session moment.state.pending) left ≡ Some moment.request) × AreNext extent session (drop (takes moment.request) left) moments

-- how many commands they take
abbrev pub taken_by : List Moment → ℕ
taken_by moments = sum_by (λ moment. takes moment.request) moments

-- the answers that are due to them, where these commands are left at first
abbrev pub dues_of : Extent → List Command → List Moment → List Due
dues_of extent left [] = []
dues_of extent left (moment ∷ moments) = answers_at extent moment.state left moment.request ++ dues_of extent (drop (takes moment.request) left) moments

-- one unit for each node that they visit, and for each row that is exponentiated
abbrev pub units_by : List Moment → ℕ
units_by moments = sum_by (λ moment. units_of moment.state (Some moment.request)) moments
