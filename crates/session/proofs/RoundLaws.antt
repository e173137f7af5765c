-- The steps of a round: after as many as there are at most, no session has anything to do.
use Rattle.std.proofs.Common.{◌≡◌, ◌∙◌, ℕ, zero, suc, ◌+◌, ◌-◌, ◌*◌, ◌≤◌, Bool, true, false, List, [], ◌∷◌, length, drop, get_or, set, refl, ap, subst, arith, inl, inr}
use Rattle.std.specs.Prelude.{Option, Some, None, is_some, sum_by, if◌then◌else◌}
use Rattle.std.proofs.lemmas.Bool.{cases_lt}
use Rattle.std.proofs.lemmas.List.Sums.{sum_by-cons, sum_by-set}
use Rattle.std.proofs.lemmas.List.Folds.{sum_by-replicate, list_any_none}
use Rattle.std.proofs.Math.ListN.{get_or-eq_default}
use Rattle.definitions.specs.Words.{Extent, up_to}
use Rattle.script_reader.specs.declared.command.Command.{Command}
use Rattle.script_reader.specs.declared.command.Command.TheVariants as commands
use Rattle.script_reader.specs.Script.{ScriptValue}
use Rattle.book.specs.declared.query.Query.{Query}
use Rattle.book.specs.declared.step.LookReply.{LookReply}
use Rattle.book.specs.Play.{Request, PendingLook, Settling, pending_of, unless_refused, look_refusal, after_found}
use Rattle.session.specs.Play.{Run, opening_run, stepped, has_next, has_any, next_request, next_of, request_for, query_for, asked_by, of_session, with_request, with_next, next_turn, illegal_from, illegal_place, turns_from, most_steps, round_order}
use Rattle.session.specs.Runs.{begun}
use Rattle.session.proofs.TurnLaws.{turn-is, no-turn-any}
use Rattle.session.proofs.OrderLaws.{legal-here, turn-here, no-turn}

-- two for each command that is left, and one for each pending look
abbrev steps_left : Run → ℕ
steps_left run = 2 * sum_by length run.left + sum_by begun run.state.pending

-- ---- lists
-- where a command is taken, one less is left
pub command-taken : (left : List (List Command)) (i : ℕ) (command : Command) (rest : List Command) → get_or left i [] ≡ command ∷ rest → sum_by length (set left i (drop 1 (get_or left i []))) + 1 ≡ sum_by length left
command-taken left i command rest e =
    elim (cases_lt i (length left)) [
      | inl l ↦
          let sums = sum_by-set length left i (drop 1 (get_or left i [])) [] l in
          let before : length (get_or left i []) ≡ suc (length rest) = ap length e in
          let after : length (drop 1 (get_or left i [])) ≡ length rest = ap (λ (cs : List Command). length (drop 1 cs)) e in
          omega (arith, sums, before, after)
      | inr g ↦ let none : get_or left i [] ≡ [] = get_or-eq_default left [] g in absurd (cc)
    ]

one-begun : (look : Option PendingLook) → begun look ≤ 1
one-begun None = omega arith
one-begun (Some look) = omega arith

look-begun : (pending : List (Option PendingLook)) (i : ℕ) (look : Option PendingLook) → sum_by begun (set pending i look) ≤ sum_by begun pending + 1
look-begun [] i look = omega arith
look-begun (old ∷ pending) zero look = omega (arith, sum_by-cons begun look pending, sum_by-cons begun old pending, one-begun look)
look-begun (old ∷ pending) (suc i) look = omega (arith, sum_by-cons begun old (set pending i look), sum_by-cons begun old pending, look-begun pending i look)

look-settled : (pending : List (Option PendingLook)) (i : ℕ) (look : PendingLook) → get_or pending i None ≡ Some look → sum_by begun (set pending i None) + 1 ≡ sum_by begun pending
look-settled pending i look e =
    elim (cases_lt i (length pending)) [
      | inl l ↦
          let sums = sum_by-set begun pending i None None l in
          let before : begun (get_or pending i None) ≡ 1 = ap begun e in
          omega (arith, sums, before)
      | inr g ↦ let none : get_or pending i None ≡ None = get_or-eq_default pending None g in absurd (cc)
    ]

-- ---- a step takes one of the steps that are left at least
module _ (capacity : ℕ) (extent : Extent) (session : ℕ) (run : Run) where
  -- a look begins one settle at most
  look-begins : (refusal : Option LookReply) (q : Query) → sum_by begun (unless_refused refusal run.state (after_found session q run.state)).pending ≤ sum_by begun run.state.pending + 1
  look-begins (Some reply) q = omega arith
  look-begins None q = look-begun run.state.pending (session - 1) _

  command-falls : (command : Command) (rest : List Command) → of_session session run.left ≡ command ∷ rest → steps_left (with_request capacity extent session (request_for extent session command) run) + 1 ≤ steps_left run
  command-falls (commands.Edit edit) rest e = omega (arith, command-taken run.left (session - 1) (commands.Edit edit) rest e)
  command-falls (commands.Ask ask) rest e =
      let taken = command-taken run.left (session - 1) (commands.Ask ask) rest e in
      let begins = look-begins (look_refusal run.state.edits (query_for extent (asked_by ask))) (query_for extent (asked_by ask)) in
      omega (arith, taken, begins)

  settle-falls : (look : PendingLook) → pending_of session run.state.pending ≡ Some look → steps_left (with_request capacity extent session (Settling session) run) + 1 ≤ steps_left run
  settle-falls look e = omega (arith, look-settled run.state.pending (session - 1) look e)

  request-falls : (pending : Option PendingLook) (left : List Command) (request : Request) → pending_of session run.state.pending ≡ pending → of_session session run.left ≡ left → next_of extent session pending left ≡ Some request
      → steps_left (with_request capacity extent session request run) + 1 ≤ steps_left run
  request-falls (Some look) left request p l e = let same : Settling session ≡ request = cc in subst (λ (r : Request). steps_left (with_request capacity extent session r run) + 1 ≤ steps_left run) same (settle-falls look p)
  request-falls None [] request p l e = absurd (cc)
  request-falls None (command ∷ rest) request p l e = let same : request_for extent session command ≡ request = cc in subst (λ (r : Request). steps_left (with_request capacity extent session r run) + 1 ≤ steps_left run) same (command-falls command rest l)

module _ (capacity : ℕ) (extent : Extent) where
  next-falls : (session : ℕ) (run : Run) → has_next extent run session ≡ true → steps_left (stepped capacity extent session run) + 1 ≤ steps_left run
  next-falls zero run h = absurd (cc)
  next-falls (suc n) run h = at (next_request extent (suc n) run) refl h
    where
      at : (next : Option Request) → next_request extent (suc n) run ≡ next → is_some next ≡ true → steps_left (with_next capacity extent (suc n) next run) + 1 ≤ steps_left run
      at (Some request) e t = request-falls capacity extent (suc n) run (pending_of (suc n) run.state.pending) (of_session (suc n) run.left) request refl refl e
      at None e t = absurd (cc)

  none-left : (run : Run) → steps_left run ≤ 0 → has_any extent run ≡ false
  none-left run h = list_any_none (has_next extent run) (up_to (length run.left)) (λ k d l. none (get_or (up_to (length run.left)) k d))
    where
      at : (session : ℕ) (b : Bool) → has_next extent run session ≡ b → has_next extent run session ≡ false
      at session true e = absurd (omega (arith, next-falls session run e))
      at session false e = e

      none : (session : ℕ) → has_next extent run session ≡ false
      none session = at session (has_next extent run session) refl

  -- turns of as many steps as are left are legal
  turns-legal : (steps place last : ℕ) (run : Run) → steps_left run ≤ steps → illegal_from capacity place extent (turns_from capacity steps extent last run) run ≡ None
  turns-legal zero place last run h = ap (λ (b : Bool). if b then Some place else None) (none-left run h)
  turns-legal (suc steps) place last run h =
      at (next_turn extent last run) refl (λ session has. turns-legal steps (suc place) session (stepped capacity extent session run) (let falls = next-falls session run has in omega (arith, falls)))
    where
      at : (turn : Option ℕ) → next_turn extent last run ≡ turn
          → ((session : ℕ) → has_next extent run session ≡ true → illegal_from capacity (suc place) extent (turns_from capacity steps extent session (stepped capacity extent session run)) (stepped capacity extent session run) ≡ None)
          → illegal_from capacity place extent (turns_from capacity (suc steps) extent last run) run ≡ None
      at None e later =
          ap (λ (order : List ℕ). illegal_from capacity place extent order run) (no-turn capacity (suc steps) extent last run e)
          ∙ ap (λ (b : Bool). if b then Some place else None) (no-turn-any extent last run e)
      at (Some session) e later =
          let has : has_next extent run session ≡ true = (turn-is extent last session run e).0 in
          ap (λ (order : List ℕ). illegal_from capacity place extent order run) (turn-here capacity steps extent last session run e)
          ∙ legal-here capacity extent place session (turns_from capacity steps extent session (stepped capacity extent session run)) run has
          ∙ later session has

-- the steps of a round are legal
pub round-legal : (capacity : ℕ) (script : ScriptValue) → illegal_place capacity script (round_order capacity script) ≡ None
round-legal capacity script =
    let none = sum_by-replicate begun (length script.sessions) None in
    turns-legal capacity script.extent (most_steps script) 1 0 (opening_run script) (omega (arith, none))
