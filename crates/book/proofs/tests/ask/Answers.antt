use Rattle.std.proofs.Common.{◌≡◌, ◌∙◌, ℕ, ◌<◌, ◌≤◌, arith, ap, subst, sym, refl, T, true, List, [], ◌∷◌, length, Option, Some, None, inl, inr}
use Rattle.std.specs.Prelude.{All, is_some, slice_index_or, slice_set, map}
use Rattle.std.specs.Arc.{arc_value}
use Rattle.std.proofs.lemmas.Bool.{cases_lt}
use Rattle.definitions.specs.Words.{Extent}
use Rattle.dyadic.specs.Nodes.{NodeValue, IsNode}
use Rattle.versions.specs.declared.log.Accepted.{Accepted}
use Rattle.solve.specs.Plans.{node_of, all_missed}
use Rattle.solve.specs.Solutions.{AreSolved}
use Rattle.solve.specs.Works.{WorkValue}
use Rattle.solve.specs.declared.solution.SolvedNode.{SolvedNode}
use Rattle.book.specs.declared.query.Query.{Query}
use Rattle.book.specs.Walks.{Visit, all_misses, all_hits}
use Rattle.book.specs.Play.{State, PendingLook, pending_of, pending_look, pending_with, looked_version, look_refusal, look_walk, after_found, unless_refused, Looking}
use Rattle.book.specs.Plans.{HasSignature}
use Rattle.book.specs.Looks.{IsLook, IsWorkOf}
use Rattle.book.specs.Books.{BookValue, IsSettledBy, IsPendingOr, state_of, with_request}
use Rattle.book.proofs.StateLaws.{state-push}
use Rattle.book.proofs.MissLaws.{missed-are, misses-are_nodes}
use Rattle.book.proofs.LookLaws.{refused-late}
use Rattle.book.proofs.PlanLaws.{settled-by}
use Rattle.book.proofs.tests.ask.Goals as goal

-- these nodes settle a look that is pending after these edits
abbrev Settles : Extent → List SolvedNode → List Accepted → Option PendingLook → Type 0
Settles extent solved edits look = IsSettledBy (record { extent = extent; edits = edits }) look solved × IsPendingOr edits look

first-set : (looks : List (Option PendingLook)) (look : Option PendingLook) → is_some (slice_index_or (slice_set looks 0 look) 0 None) ≡ true → slice_index_or (slice_set looks 0 look) 0 None ≡ look
first-set [] look some = absurd (subst T (sym some) tt)
first-set (l ∷ looks) look some = refl

missing : (v : ℕ) (nodes : List NodeValue) → is_some (pending_look v nodes) ≡ true → pending_look v nodes ≡ Some (record { version = v; missed = nodes })
missing v [] some = absurd (subst T (sym some) tt)
missing v (node ∷ nodes) some = refl

version-within : (edits : List Accepted) (q : Query) → look_refusal edits q ≡ None → looked_version edits q ≤ length edits
version-within edits q answered =
    elim (cases_lt (length edits) (looked_version edits q)) [
      | inl late ↦ absurd (subst T (sym (ap is_some (sym answered ∙ refused-late edits q late))) tt)
      | inr within ↦ omega (arith, within)
    ]

-- a solved work settles its look
found-settles : (book : BookValue) (q : Query) (work : WorkValue) (solved : List SolvedNode) → look_refusal (state_of book).edits q ≡ None → IsWorkOf book.extent (state_of book) q work
    → AreSolved work.extent (all_missed work.plans) solved → is_some (pending_of 1 (after_found 1 q (state_of book)).pending) ≡ true
    → Settles book.extent solved (after_found 1 q (state_of book)).edits (pending_of 1 (after_found 1 q (state_of book)).pending)
found-settles book q work solved answered is are some =
    let state : State = state_of book in
    let v : ℕ = looked_version state.edits q in
    let visits : List Visit = look_walk state q in
    let here : pending_of 1 (after_found 1 q state).pending ≡ pending_look v (all_misses visits) = first-set state.pending (pending_look v (all_misses visits)) some in
    let look : PendingLook = record { version = v; missed = all_misses visits } in
    let pending : pending_of 1 (after_found 1 q state).pending ≡ Some look = here ∙ missing v (all_misses visits) (ap is_some (sym here) ∙ some) in
    let own : AreSolved book.extent (all_missed work.plans) solved = subst (λ extent. AreSolved extent (all_missed work.plans) solved) is.extent_is are in
    let settled = settled-by book.extent state.edits v work.plans solved is.each own in
    subst (Settles book.extent solved state.edits) (sym pending) (
      record { nodes_are = settled.1 ∙ missed-are book.extent state.edits v visits work.plans is.plans; signatures = settled.0 },
      record { version = version-within state.edits q answered; nodes = misses-are_nodes book.extent state.edits v visits work.plans is.plans },
    )

look-settles : (book : BookValue) (q : Query) (work : WorkValue) (solved : List SolvedNode) → look_refusal (state_of book).edits q ≡ None → IsWorkOf book.extent (state_of book) q work
    → AreSolved work.extent (all_missed work.plans) solved → is_some (pending_of 1 (state_of (with_request (Looking 1 q) book)).pending) ≡ true
    → Settles book.extent solved (state_of (with_request (Looking 1 q) book)).edits (pending_of 1 (state_of (with_request (Looking 1 q) book)).pending)
look-settles book q work solved answered is are some =
    let state : State = state_of book in
    let after : state_of (with_request (Looking 1 q) book) ≡ after_found 1 q state =
    state-push book (Looking 1 q) ∙ ap (λ refusal. unless_refused refusal state (after_found 1 q state)) answered in
    subst (λ (s : State). Settles book.extent solved s.edits (pending_of 1 s.pending)) (sym after)
    (found-settles book q work solved answered is are (ap (λ (s : State). is_some (pending_of 1 s.pending)) (sym after) ∙ some))

pub settle-requires-clause-settled : goal.settle-requires-clause-settled
settle-requires-clause-settled c =
    let book : BookValue = c.args.book.now in
    let q : Query = c.args.q in
    let work : WorkValue = c.in-Work.work in
    let solved : List SolvedNode = c.in_ok-solved.solved.nodes.items in
    let after : c.look.new.self ≡ with_request (Looking 1 q) book = c.in_ok-look.ensures.ok in
    let looked : (look_refusal (state_of book).edits q ≡ None) × IsWorkOf book.extent (state_of book) q work = subst (IsLook book.extent (state_of book) q) c.in-Work.is c.in_ok-look.ensures.look in
    let some : is_some (pending_of 1 (state_of (with_request (Looking 1 q) book)).pending) ≡ true =
    ap (λ (b : BookValue). is_some (pending_of 1 (state_of b).pending)) (sym after) ∙ sym c.pending.ensures ∙ c.if-pending.true in
    let settles : Settles c.look.new.self.extent solved (state_of c.look.new.self).edits (pending_of 1 (state_of c.look.new.self).pending) =
    subst (λ (b : BookValue). Settles b.extent solved (state_of b).edits (pending_of 1 (state_of b).pending)) (sym after) (look-settles book q work solved looked.0 looked.1 c.in_ok-solved.ensures.nodes some) in
    (c.correct.ensures.settles solved settles.0 settles.1).0
