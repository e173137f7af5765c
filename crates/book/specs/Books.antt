-- Books: their steps are those of the play, and what they keep is true.
use Rattle.std.specs.Prelude.{◌≡◌, ℕ, ◌<◌, ◌≤◌, ◌^◌, Bool, false, nat_eq, List, [], ◌∷◌, ◌++◌, All, map, filter, length, Option, Some, None}
use Rattle.definitions.specs.Words.{Extent}
use Rattle.words.specs.Capacities.{most_capacity}
use Rattle.dyadic.specs.Nodes.{IsNode, low_of, high_of}
use Rattle.node_cache.specs.Entries.{Entry, CacheValue}
use Rattle.versions.specs.declared.log.Accepted.{Accepted}
use Rattle.versions.specs.Versions.{LogValue, since}
use Rattle.book.specs.declared.step.Step.{Step}
use Rattle.book.specs.Walks.{Pair}
use Rattle.book.specs.Plans.{HasSignature, IsSettlement}
use Rattle.book.specs.Play.{State, Request, PendingLook, is_past, opening, played, steps_of, step_of, request_of, session_of, pending_of}
use Rattle.solve.specs.declared.solution.SolvedNode.{SolvedNode}

-- the steps of a number of sessions over one stream and one cache of so many pairs; a spent book does nothing more
pub record BookValue : Type 0 where
  pub extent : Extent
  pub capacity : ℕ
  pub sessions : ℕ
  pub history : List Step
  pub spent : Bool

-- the state after the book's history
abbrev pub state_of : BookValue → State
state_of book = played book.capacity (opening book.sessions) (map request_of book.history)

-- the sessions have the numbers from 1
pub record IsSession (sessions session : ℕ) : Type 0 where
  pub some : 1 ≤ session
  pub within : session ≤ sessions

-- how many steps are a session's
abbrev pub count_of : ℕ → List Step → ℕ
count_of session history = length (filter (λ step. nat_eq session (session_of step)) history)

-- the replies of the history are those of the play
pub record IsBook (book : BookValue) : Type 0 where
  pub some : 1 ≤ book.capacity
  pub within : book.capacity ≤ most_capacity
  pub one : 1 ≤ book.sessions
  pub few : book.sessions ≤ 16
  pub due : book.history ≡ steps_of book.capacity (opening book.sessions) (map request_of book.history)
  pub sessions : All (λ step. IsSession book.sessions (session_of step)) book.history
  pub steps : (session : ℕ) → count_of session book.history ≤ 2 ^ 32

-- ---- what is kept
-- the node and the version of an entry
abbrev pub pair_of : Entry → Pair
pair_of e = record { node = e.node; since = e.since }

-- the pairs of the entries, in their order
abbrev pub held : List Entry → List Pair
held entries = map pair_of entries

-- the entry of a node has the signature of its rows at its version, which touched it; no edit did long ago
pub record Keeps (extent : Extent) (edits : List Accepted) (e : Entry) : Type 0 where
  pub is_node : IsNode e.node
  pub back : e.since ≤ length edits
  pub latest : since (low_of e.node) (high_of e.node) edits e.since ≡ e.since
  pub recent : is_past edits e.node e.since ≡ false
  pub signature : HasSignature extent edits e.since e.node e.sig

-- this holds for each entry
abbrev pub AreKept : LogValue → List Entry → Type 0
AreKept log entries = All (Keeps log.extent log.edits) entries

-- a look that is pending is of a version that there is
pub record IsPending (edits : List Accepted) (look : PendingLook) : Type 0 where
  pub version : look.version ≤ length edits
  pub nodes : All IsNode look.missed

-- what is said of a look that is pending; where none is, nothing
abbrev pub IsPendingOr : List Accepted → Option PendingLook → Type 0
IsPendingOr edits None = Unit {0}
IsPendingOr edits (Some look) = IsPending edits look

-- this holds for each session
abbrev pub ArePending : List Accepted → List (Option PendingLook) → Type 0
ArePending edits pending = All (IsPendingOr edits) pending

-- what a book is made of, and the state that it holds: once it is spent the cache may have any entries
pub record IsHeld (log : LogValue) (cache : CacheValue) (pending : List (Option PendingLook)) (history : List Step) (spent : Bool) : Type 0 where
  pub book : IsBook (record { extent = log.extent; capacity = cache.capacity; sessions = length pending; history = history; spent = spent })
  pub edits : log.edits ≡ (played cache.capacity (opening (length pending)) (map request_of history)).edits
  pub looks : pending ≡ (played cache.capacity (opening (length pending)) (map request_of history)).pending
  pub pairs : spent ≡ false → held cache.entries ≡ (played cache.capacity (opening (length pending)) (map request_of history)).pairs
  pub kept : AreKept log cache.entries
  pub of_versions : ArePending log.edits pending

-- ---- conditions of a step
-- the session may do a step more: the book isn't spent, and its steps can be counted
pub record IsReady (book : BookValue) (session : ℕ) : Type 0 where
  pub unspent : book.spent ≡ false
  pub of_book : IsSession book.sessions session
  pub steps : count_of session book.history < 2 ^ 32

-- the session has no pending look
abbrev pub IsFree : BookValue → ℕ → Type 0
IsFree book session = pending_of session (state_of book).pending ≡ None

-- there is a look, and these are its nodes with their signatures
abbrev pub IsSettledBy : LogValue → Option PendingLook → List SolvedNode → Type 0
IsSettledBy log None solved = ⊥
IsSettledBy log (Some look) solved = IsSettlement log.extent log.edits look.version look.missed solved

-- the stream of the book
abbrev pub log_of : BookValue → LogValue
log_of book = record { extent = book.extent; edits = (state_of book).edits }

-- the book with one step more
abbrev pub with_request : Request → BookValue → BookValue
with_request request book = record book { history = book.history ++ step_of (state_of book) request ∷ [] }
