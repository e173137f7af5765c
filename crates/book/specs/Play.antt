-- What a list of requests makes of a stream, its kept pairs and its pending looks, and the reply to each.
use Rattle.std.specs.Prelude.{ℕ, suc, ◌-◌, ◌*◌, ◌^◌, Bool, true, not, ◌&&◌, nat_le, nat_lt, if◌then◌else◌, List, [], ◌∷◌, filter, fold, take, length, sum_by, slice_index_or, slice_set, replicate, Option, Some, None, unwrap_or}
use Rattle.definitions.specs.Rows.{RowValue, rounded, rows_in, moves_of}
use Rattle.definitions.specs.Signature.{weight, limit}
use Rattle.dyadic.specs.Nodes.{NodeValue, low_of, high_of}
use Rattle.versions.specs.declared.edit.Edit.{Edit}
use Rattle.versions.specs.declared.log.Accepted.{Accepted}
use Rattle.versions.specs.Versions.{rows_at, since, edit_reply, after_edit}
use Rattle.book.specs.declared.query.Query.{Query}
use Rattle.book.specs.declared.query.Allowed.{Allowed}
use Rattle.book.specs.declared.query.Allowed.TheVariants as allowed
use Rattle.book.specs.declared.step.LookReply.{LookReply}
use Rattle.book.specs.declared.step.LookReply.TheVariants.{Found, NoVersion, Pair as HeavyPair, Level, Overflow}
use Rattle.book.specs.declared.step.Step.{Step}
use Rattle.book.specs.declared.step.Step.TheVariants.{Edited, Looked, Settled}
use Rattle.book.specs.Walks.{Pair, is_pair, pair_at, walk, Visit, all_hits, all_misses, exps_of}

-- a look whose missed nodes aren't kept yet
pub record PendingLook : Type 0 where
  pub version : ℕ
  pub missed : List NodeValue

-- the accepted edits, the kept pairs with the most recent first, and the pending look of each session
pub record State : Type 0 where
  pub edits : List Accepted
  pub pairs : List Pair
  pub pending : List (Option PendingLook)

-- a session is a number from 1
pub data Request : Type 0 where
  Editing : ℕ → Edit → Request
  Looking : ℕ → Query → Request
  Settling : ℕ → Request

-- how many versions a pair is kept after the first edit that touches its node
abbrev pub span : ℕ
span = 64

-- ---- pairs whose versions have ended
-- an edit after version v has touched the node, and that more than 63 edits ago
abbrev pub is_past : List Accepted → NodeValue → ℕ → Bool
is_past edits node v = nat_lt v (since (low_of node) (high_of node) edits (length edits - span))

-- the pairs whose versions didn't end long ago, in their order
abbrev pub recent : List Accepted → List Pair → List Pair
recent edits pairs = filter (λ pair. not (is_past edits pair.node pair.since)) pairs

-- ---- edits
-- an accepted edit drops the pairs whose versions ended long ago; a refused one changes nothing
abbrev pub pairs_after_edit : List Accepted → List Accepted → List Pair → List Pair
pairs_after_edit before edits pairs = if nat_lt (length before) (length edits) then recent edits pairs else pairs

-- the state after an edit
abbrev pub after_editing : Edit → State → State
after_editing edit state = record state {
  edits = after_edit state.edits edit;
  pairs = pairs_after_edit state.edits (after_edit state.edits edit) state.pairs;
}

-- ---- looks
-- the version that is looked at: the current one, where none is named
abbrev pub looked_version : List Accepted → Query → ℕ
looked_version edits q = unwrap_or q.version (length edits)

-- its rows in the rounded interval
abbrev pub looked_rows : List Accepted → Query → List RowValue
looked_rows edits q = rows_in (rounded q.r q.from) (rounded q.r q.to) (rows_at edits (looked_version edits q))

-- the weight to the power of k, times the k-th factor, is at most the limit, from this k on
abbrev pub fits_from : ℕ → List ℕ → ℕ → Bool
fits_from k [] v = true
fits_from k (factor ∷ factors) v = nat_le (v ^ k * factor) limit && fits_from (suc k) factors v

-- an overflow where the weight doesn't fit the factors
abbrev pub weighed : List ℕ → ℕ → Option LookReply
weighed factors v = if fits_from 1 factors v then None else Some (Overflow v)

-- why rows of this weight have no answer
abbrev pub refused_by : Allowed → ℕ → Option LookReply
refused_by (allowed.Pair a b) v = Some (HeavyPair a b)
refused_by (allowed.Level k) v = Some (Level k)
refused_by (allowed.Fits factors) v = weighed factors v

-- why a look is refused: its version doesn't exist, or its rows have no answer; None where it is answered
abbrev pub look_refusal : List Accepted → Query → Option LookReply
look_refusal edits q =
    if nat_lt (length edits) (looked_version edits q) then Some (NoVersion (length edits))
    else refused_by q.allowed (weight (moves_of (looked_rows edits q)))

-- what the look finds: the pieces of its rounded interval, at the version that it looks at
abbrev pub look_walk : State → Query → List Visit
look_walk state q = walk state.edits (looked_version state.edits q) state.pairs (rounded q.r q.from) (rounded q.r q.to)

-- the reply to a look that is answered: its version, and the counts of hits, misses and rows in leaves
abbrev pub found : State → Query → LookReply
found state q =
    let visits : List Visit = look_walk state q in
    Found (looked_version state.edits q) (length (all_hits visits)) (length (all_misses visits)) (sum_by exps_of visits)

-- the reply to a look
abbrev pub look_reply : State → Query → LookReply
look_reply state q = unwrap_or (look_refusal state.edits q) (found state q)

-- a pair goes to the front, whether or not it was there
abbrev pub to_front : Pair → List Pair → List Pair
to_front pair pairs = pair ∷ filter (λ other. not (is_pair pair other)) pairs

-- the pairs of these nodes at version v go to the front, one after another
abbrev pub with_hits : List Accepted → ℕ → List NodeValue → List Pair → List Pair
with_hits edits v nodes pairs = fold (λ ps node. to_front (pair_at edits v node) ps) pairs nodes

-- a look is pending where it misses a node
abbrev pub pending_look : ℕ → List NodeValue → Option PendingLook
pending_look v [] = None
pending_look v (node ∷ nodes) = Some (record { version = v; missed = node ∷ nodes })

-- the pending look of one session, among those of all
abbrev pub pending_with : ℕ → Option PendingLook → List (Option PendingLook) → List (Option PendingLook)
pending_with session look pending = slice_set pending (session - 1) look

-- the state after a look that is answered: the hits go to the front, and what was missed is pending
abbrev pub after_found : ℕ → Query → State → State
after_found session q state =
    let v : ℕ = looked_version state.edits q in
    let visits : List Visit = look_walk state q in
    record state {
      pairs = with_hits state.edits v (all_hits visits) state.pairs;
      pending = pending_with session (pending_look v (all_misses visits)) state.pending;
    }

-- a refused look changes nothing
abbrev pub unless_refused : Option LookReply → State → State → State
unless_refused None old new = new
unless_refused (Some reply) old new = old

-- the state after a look
abbrev pub after_looking : ℕ → Query → State → State
after_looking session q state = unless_refused (look_refusal state.edits q) state (after_found session q state)

-- ---- settles
-- the nodes that weren't touched long ago
abbrev pub settled_nodes : List Accepted → ℕ → List NodeValue → List NodeValue
settled_nodes edits v nodes = filter (λ node. not (is_past edits node v)) nodes

-- the pairs of these nodes at version v go to the front, one after another; past the capacity the last one goes each time
abbrev pub with_settled : ℕ → List Accepted → ℕ → List NodeValue → List Pair → List Pair
with_settled capacity edits v nodes pairs = fold (λ ps node. take capacity (to_front (pair_at edits v node) ps)) pairs nodes

-- the pending look of a session
abbrev pub pending_of : ℕ → List (Option PendingLook) → Option PendingLook
pending_of session pending = slice_index_or pending (session - 1) None

-- the nodes that a settle keeps; none where no look is pending
abbrev pub settled_of : List Accepted → Option PendingLook → List NodeValue
settled_of edits None = []
settled_of edits (Some look) = settled_nodes edits look.version look.missed

-- the pairs after a settle of that look
abbrev pub pairs_settled : ℕ → List Accepted → Option PendingLook → List Pair → List Pair
pairs_settled capacity edits None pairs = pairs
pairs_settled capacity edits (Some look) pairs = with_settled capacity edits look.version (settled_nodes edits look.version look.missed) pairs

-- the state after a settle: the missed nodes' pairs go to the front, and the look is no longer pending
abbrev pub after_settling : ℕ → ℕ → State → State
after_settling capacity session state = record state {
  pairs = pairs_settled capacity state.edits (pending_of session state.pending) state.pairs;
  pending = pending_with session None state.pending;
}

-- ---- the play
-- the state after a request
abbrev pub after : ℕ → State → Request → State
after capacity state (Editing session edit) = after_editing edit state
after capacity state (Looking session q) = after_looking session q state
after capacity state (Settling session) = after_settling capacity session state

-- the request with its reply
abbrev pub step_of : State → Request → Step
step_of state (Editing session edit) = Edited session edit (edit_reply state.edits edit)
step_of state (Looking session q) = Looked session q (look_reply state q)
step_of state (Settling session) = Settled session (length (settled_of state.edits (pending_of session state.pending)))

-- the request that a step answers
abbrev pub request_of : Step → Request
request_of (Edited session edit reply) = Editing session edit
request_of (Looked session q reply) = Looking session q
request_of (Settled session kept) = Settling session

-- the session that a step is of
abbrev pub session_of : Step → ℕ
session_of (Edited session edit reply) = session
session_of (Looked session q reply) = session
session_of (Settled session kept) = session

-- no edits, no pairs, and no pending look of any session
abbrev pub opening : ℕ → State
opening sessions = record { edits = []; pairs = []; pending = replicate sessions None }

-- the state after these requests, one after another
abbrev pub played : ℕ → State → List Request → State
played capacity state requests = fold (after capacity) state requests

-- the steps of these requests
abbrev pub steps_of : ℕ → State → List Request → List Step
steps_of capacity state [] = []
steps_of capacity state (request ∷ requests) = step_of state request ∷ steps_of capacity (after capacity state request) requests
