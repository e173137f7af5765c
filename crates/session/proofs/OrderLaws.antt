-- How a run goes on along an order.
use Rattle.std.proofs.Common.{◌≡◌, ◌∙◌, ℕ, zero, suc, ◌+◌, ◌-◌, ◌<◌, ◌≤◌, Bool, true, false, List, [], ◌∷◌, ◌++◌, length, take, drop, get_or, refl, sym, ap, subst, arith, add-zero, append_assoc}
use Rattle.std.specs.Prelude.{Option, Some, None, is_some, if◌then◌else◌}
use Rattle.std.proofs.lemmas.List.{take_more, take_all, drop_all, append-nil, take-append-drop}
use Rattle.std.proofs.lemmas.List.Sums.{fold-append}
use Rattle.std.proofs.Math.Seq.{drop-cons}
use Rattle.definitions.specs.Words.{Extent}
use Rattle.script_reader.specs.Script.{ScriptValue}
use Rattle.book.specs.Play.{State}
use Rattle.book.specs.Books.{BookValue, state_of}
use Rattle.session.specs.Play.{Run, opening_run, run_in, stepped, has_next, has_any, next_request, next_turn, illegal_from, illegal_place, turns_from, most_steps, round_order, DueOutcome, due_outcome}
use Rattle.session.specs.Runs.{order_of, run_of, units_of, units_in}
use Rattle.session.proofs.TurnLaws.{any-turn}

-- ---- one step more
module _ (capacity : ℕ) (extent : Extent) where
  run_in-more : (order : List ℕ) (session : ℕ) (run : Run) → run_in capacity extent (order ++ session ∷ []) run ≡ stepped capacity extent session (run_in capacity extent order run)
  run_in-more order session run = fold-append (λ r s. stepped capacity extent s r) run order (session ∷ [])

  units_in-append : (first last : List ℕ) (run : Run)
      → units_in capacity extent (first ++ last) run ≡ units_in capacity extent first run + units_in capacity extent last (run_in capacity extent first run)
  units_in-append [] last run = omega arith
  units_in-append (session ∷ first) last run =
      let rest = units_in-append first last (stepped capacity extent session run) in
      omega (arith, rest)

  -- where the session has something to do, the order is judged from the next place on
  pub legal-here : (place session : ℕ) (order : List ℕ) (run : Run) → has_next extent run session ≡ true
      → illegal_from capacity place extent (session ∷ order) run ≡ illegal_from capacity (suc place) extent order (stepped capacity extent session run)
  legal-here place session order run t =
      ap (λ (b : Bool). if b then illegal_from capacity (suc place) extent order (stepped capacity extent session run) else Some place) t

  illegal-here : (place session : ℕ) (order : List ℕ) (run : Run) → has_next extent run session ≡ false → illegal_from capacity place extent (session ∷ order) run ≡ Some place
  illegal-here place session order run t =
      ap (λ (b : Bool). if b then illegal_from capacity (suc place) extent order (stepped capacity extent session run) else Some place) t

-- ---- turns
module _ (capacity steps : ℕ) (extent : Extent) (last : ℕ) where
  -- the session whose turn is next takes the next place of the round
  pub turn-here : (session : ℕ) (run : Run) → next_turn extent last run ≡ Some session → turns_from capacity (suc steps) extent last run ≡ session ∷ turns_from capacity steps extent session (stepped capacity extent session run)
  turn-here session run e = ap (λ (o : Option ℕ). elim o as (λ _. List ℕ) [ None ↦ [] | Some s ↦ s ∷ turns_from capacity steps extent s (stepped capacity extent s run) ]) e

  no-turn-here : (run : Run) → next_turn extent last run ≡ None → turns_from capacity (suc steps) extent last run ≡ []
  no-turn-here run e = ap (λ (o : Option ℕ). elim o as (λ _. List ℕ) [ None ↦ [] | Some s ↦ s ∷ turns_from capacity steps extent s (stepped capacity extent s run) ]) e

-- where no session has anything to do, the round ends
pub no-turn : (capacity steps : ℕ) (extent : Extent) (last : ℕ) (run : Run) → next_turn extent last run ≡ None → turns_from capacity steps extent last run ≡ []
no-turn capacity zero extent last run e = refl
no-turn capacity (suc steps) extent last run e = no-turn-here capacity steps extent last run e

-- ---- a book that took the steps of an order
-- the book took the first i steps of the order, and each of these sessions had anything to do
pub record IsReplayed (capacity : ℕ) (script : ScriptValue) (order : List ℕ) (i : ℕ) (book : BookValue) : Type 0 where
  -- the book has the capacity
  pub capacity_is : book.capacity ≡ capacity
  -- it took the first i steps of the order
  pub order_is : order_of book ≡ take i order
  -- the order is as legal as what is left of it
  pub legal : illegal_place capacity script order ≡ illegal_from capacity (suc i) script.extent (drop i order) (run_of script book)

-- the book took the first i steps in turn, and this session had the last one
pub record IsRound (capacity : ℕ) (script : ScriptValue) (i last : ℕ) (book : BookValue) : Type 0 where
  -- the book has the capacity
  pub capacity_is : book.capacity ≡ capacity
  -- the steps that it took, and those that the round then has, are the round
  pub rest : order_of book ++ turns_from capacity (most_steps script - i) script.extent last (run_of script book) ≡ round_order capacity script

-- the step units of the steps that a book took
abbrev pub units_taken : ScriptValue → BookValue → ℕ
units_taken script book = units_in book.capacity script.extent (order_of book) (opening_run script)

module _ (script : ScriptValue) (old new : BookValue) (session : ℕ) (c : new.capacity ≡ old.capacity) (e : order_of new ≡ order_of old ++ session ∷ []) where
  -- the run after one step more
  run-more : run_of script new ≡ stepped old.capacity script.extent session (run_of script old)
  run-more =
      ap (λ (n : ℕ). run_in n script.extent (order_of new) (opening_run script)) c
      ∙ ap (λ (order : List ℕ). run_in old.capacity script.extent order (opening_run script)) e
      ∙ run_in-more old.capacity script.extent (order_of old) session (opening_run script)

  -- the step units after one step more
  units-more : (run_of script old).state ≡ state_of old → units_taken script new ≡ units_taken script old + units_of (state_of old) (next_request script.extent session (run_of script old))
  units-more same =
      ap (λ (n : ℕ). units_in n script.extent (order_of new) (opening_run script)) c
      ∙ ap (λ (order : List ℕ). units_in old.capacity script.extent order (opening_run script)) e
      ∙ units_in-append old.capacity script.extent (order_of old) (session ∷ []) (opening_run script)
      ∙ ap (λ (n : ℕ). units_taken script old + n) (add-zero (units_of (run_of script old).state (next_request script.extent session (run_of script old))))
      ∙ ap (λ (state : State). units_taken script old + units_of state (next_request script.extent session (run_of script old))) same

  -- the units counted so far and those of this step are those of the run with this step
  pub units-on : (run_of script old).state ≡ state_of old → (first before after : ℕ) → before ≡ first + units_taken script old
      → after ≡ before + units_of (state_of old) (next_request script.extent session (run_of script old)) → after ≡ first + units_taken script new
  units-on same first before after b a =
      let units = units_of (state_of old) (next_request script.extent session (run_of script old)) in
      let m : units_taken script new ≡ units_taken script old + units = units-more same in
      a ∙ omega (arith, m, b)

  -- the run after one step more, of a book of this capacity
  run-stepped : (capacity : ℕ) → old.capacity ≡ capacity → stepped capacity script.extent session (run_of script old) ≡ run_of script new
  run-stepped capacity k = ap (λ (n : ℕ). stepped n script.extent session (run_of script old)) (sym k) ∙ sym run-more

  -- one step more of an order that is given
  pub replayed-more : (capacity i d : ℕ) (order : List ℕ) → i < length order → session ≡ get_or order i d → has_next script.extent (run_of script old) session ≡ true
      → IsReplayed capacity script order i old → IsReplayed capacity script order (i + 1) new
  replayed-more capacity i d order h at has before = record {
    capacity_is = c ∙ before.capacity_is;
    order_is =
        e
        ∙ ap (λ (o : List ℕ). o ++ session ∷ []) before.order_is
        ∙ ap (λ (s : ℕ). take i order ++ s ∷ []) at
        ∙ sym (take_more order i d h);
    legal =
        let next : suc i ≡ i + 1 = omega arith in
        before.legal
        ∙ ap (λ (rest : List ℕ). illegal_from capacity (suc i) script.extent rest (run_of script old)) (drop-cons order i d h ∙ ap (λ (s : ℕ). s ∷ drop (suc i) order) (sym at))
        ∙ legal-here capacity script.extent (suc i) session (drop (suc i) order) (run_of script old) has
        ∙ ap (λ (run : Run). illegal_from capacity (suc (suc i)) script.extent (drop (suc i) order) run) (run-stepped capacity before.capacity_is)
        ∙ ap (λ (j : ℕ). illegal_from capacity (suc j) script.extent (drop j order) (run_of script new)) next;
  }

  -- one step more of a round
  pub round-more : (capacity i last : ℕ) → i < most_steps script → next_turn script.extent last (run_of script old) ≡ Some session
      → IsRound capacity script i last old → IsRound capacity script (i + 1) session new
  round-more capacity i last h turn before =
      let most = most_steps script in
      let next : most - i ≡ suc (most - (i + 1)) = omega arith in
      let rest = turns_from capacity (most - (i + 1)) script.extent session (run_of script new) in
      record {
        capacity_is = c ∙ before.capacity_is;
        rest =
            ap (λ (o : List ℕ). o ++ rest) e
            ∙ append_assoc (order_of old) (session ∷ []) rest
            ∙ ap (λ (run : Run). order_of old ++ session ∷ turns_from capacity (most - (i + 1)) script.extent session run) (sym (run-stepped capacity before.capacity_is))
            ∙ ap (λ (o : List ℕ). order_of old ++ o) (sym (turn-here capacity (most - (i + 1)) script.extent last session (run_of script old) turn))
            ∙ ap (λ (n : ℕ). order_of old ++ turns_from capacity n script.extent last (run_of script old)) (sym next)
            ∙ before.rest;
      }

-- ---- the end of an order
module _ (capacity : ℕ) (script : ScriptValue) (book : BookValue) where
  -- before its first step a book has taken none of an order
  pub replayed-none : order_of book ≡ [] → book.capacity ≡ capacity → (order : List ℕ) → IsReplayed capacity script order 0 book
  replayed-none e c order = record {
    capacity_is = c;
    order_is = e;
    legal = ap (λ (o : List ℕ). illegal_from capacity 1 script.extent order (run_in book.capacity script.extent o (opening_run script))) (sym e);
  }

  -- the next session of the order has nothing to do
  pub replay-stops : (order : List ℕ) (i d session : ℕ) → i < length order → session ≡ get_or order i d → has_next script.extent (run_of script book) session ≡ false
      → IsReplayed capacity script order i book → illegal_place capacity script order ≡ Some (i + 1)
  replay-stops order i d session h at has before =
      let next : suc i ≡ i + 1 = omega arith in
      before.legal
      ∙ ap (λ (rest : List ℕ). illegal_from capacity (suc i) script.extent rest (run_of script book)) (drop-cons order i d h ∙ ap (λ (s : ℕ). s ∷ drop (suc i) order) (sym at))
      ∙ illegal-here capacity script.extent (suc i) session (drop (suc i) order) (run_of script book) has
      ∙ ap (λ (j : ℕ). Some j) next

  all-taken : (order : List ℕ) (i : ℕ) → length order ≤ i → i ≤ length order → IsReplayed capacity script order i book
      → illegal_place capacity script order ≡ (if has_any script.extent (run_of script book) then Some (length order + 1) else None)
  all-taken order i h g before =
      let place : suc i ≡ length order + 1 = omega arith in
      before.legal
      ∙ ap (λ (rest : List ℕ). illegal_from capacity (suc i) script.extent rest (run_of script book)) (drop_all i order h)
      ∙ ap (λ (n : ℕ). if has_any script.extent (run_of script book) then Some n else None) place

  -- the order ends where a session has anything to do
  pub replay-lacks : (order : List ℕ) (i : ℕ) → length order ≤ i → i ≤ length order → is_some (next_turn script.extent 0 (run_of script book)) ≡ true
      → IsReplayed capacity script order i book → illegal_place capacity script order ≡ Some (length order + 1)
  replay-lacks order i h g turn before =
      all-taken order i h g before
      ∙ ap (λ (b : Bool). if b then Some (length order + 1) else None) (sym (any-turn script.extent (run_of script book)) ∙ turn)

  -- an order is legal, where it is at its end and no session has anything left
  pub replay-ends : (order : List ℕ) (i : ℕ) → length order ≤ i → i ≤ length order → is_some (next_turn script.extent 0 (run_of script book)) ≡ false
      → IsReplayed capacity script order i book → illegal_place capacity script order ≡ None
  replay-ends order i h g turn before =
      all-taken order i h g before
      ∙ ap (λ (b : Bool). if b then Some (length order + 1) else None) (sym (any-turn script.extent (run_of script book)) ∙ turn)

  -- a book that took all steps of an order has this order
  pub replayed-order : (order : List ℕ) (i : ℕ) → length order ≤ i → IsReplayed capacity script order i book → order_of book ≡ order
  replayed-order order i h before = before.order_is ∙ take_all i order h

  -- before its first step a book has taken none of a round
  pub round-none : order_of book ≡ [] → book.capacity ≡ capacity → IsRound capacity script 0 0 book
  round-none e c = record {
    capacity_is = c;
    rest =
        ap (λ (o : List ℕ). o ++ turns_from capacity (most_steps script - 0) script.extent 0 (run_in book.capacity script.extent o (opening_run script))) e
        ∙ ap (λ (n : ℕ). turns_from capacity n script.extent 0 (opening_run script)) (omega arith);
  }

  -- no session has anything to do
  pub round-stops : (i last : ℕ) → next_turn script.extent last (run_of script book) ≡ None → IsRound capacity script i last book → order_of book ≡ round_order capacity script
  round-stops i last turn before =
      sym (append-nil (order_of book))
      ∙ ap (λ (o : List ℕ). order_of book ++ o) (sym (no-turn capacity (most_steps script - i) script.extent last (run_of script book) turn))
      ∙ before.rest

  -- as many steps as there are at most
  pub round-ends : (i last : ℕ) → most_steps script ≤ i → IsRound capacity script i last book → order_of book ≡ round_order capacity script
  round-ends i last h before =
      let none : 0 ≡ most_steps script - i = omega arith in
      sym (append-nil (order_of book))
      ∙ ap (λ (n : ℕ). order_of book ++ turns_from capacity n script.extent last (run_of script book)) none
      ∙ before.rest

-- ---- an order that goes on from the steps that a book took
module _ (capacity : ℕ) (script : ScriptValue) (book : BookValue) (c : book.capacity ≡ capacity) where
  units-on_from : (rest : List ℕ) → units_in capacity script.extent (order_of book ++ rest) (opening_run script) ≡ units_taken script book + units_in book.capacity script.extent rest (run_of script book)
  units-on_from rest =
      ap (λ (n : ℕ). units_in n script.extent (order_of book ++ rest) (opening_run script)) (sym c)
      ∙ units_in-append book.capacity script.extent (order_of book) rest (opening_run script)

  module _ (order : List ℕ) where
    -- the units taken are no more than those of the whole order
    units-before : (rest : List ℕ) → order_of book ++ rest ≡ order → units_taken script book ≤ units_in capacity script.extent order (opening_run script)
    units-before rest is =
        let whole = units-on_from rest in
        let same = ap (λ (o : List ℕ). units_in capacity script.extent o (opening_run script)) is in
        omega (arith, whole, same)

    -- nor are they with those of the session's step, where this is the next one of the order
    units-within : (session : ℕ) (rest : List ℕ) → order_of book ++ session ∷ rest ≡ order → (run_of script book).state ≡ state_of book
        → units_taken script book + units_of (state_of book) (next_request script.extent session (run_of script book)) ≤ units_in capacity script.extent order (opening_run script)
    units-within session rest is state =
        let whole = units-on_from (session ∷ rest) in
        let same = ap (λ (o : List ℕ). units_in capacity script.extent o (opening_run script)) is in
        let here = ap (λ (s : State). units_of s (next_request script.extent session (run_of script book))) state in
        omega (arith, whole, same, here)

module _ (capacity : ℕ) (script : ScriptValue) (book : BookValue) where
  -- a book that took the first steps of an order took no more units than the order has
  pub replayed-units : (order : List ℕ) (i : ℕ) → IsReplayed capacity script order i book → units_taken script book ≤ units_in capacity script.extent order (opening_run script)
  replayed-units order i before =
      units-before capacity script book before.capacity_is order (drop i order) (ap (λ (o : List ℕ). o ++ drop i order) before.order_is ∙ take-append-drop i order)

  -- nor does it with its next step
  pub replayed-within : (order : List ℕ) (i d session : ℕ) → i < length order → session ≡ get_or order i d → (run_of script book).state ≡ state_of book → IsReplayed capacity script order i book
      → units_taken script book + units_of (state_of book) (next_request script.extent session (run_of script book)) ≤ units_in capacity script.extent order (opening_run script)
  replayed-within order i d session h at state before =
      units-within capacity script book before.capacity_is order session (drop (suc i) order)
      (ap (λ (o : List ℕ). o ++ session ∷ drop (suc i) order) before.order_is
      ∙ ap (λ (s : ℕ). take i order ++ s ∷ drop (suc i) order) at
      ∙ ap (λ (rest : List ℕ). take i order ++ rest) (sym (drop-cons order i d h))
      ∙ take-append-drop i order)
      state

  -- a book that took the first steps of a round took no more units than the round has
  pub round-units : (i last : ℕ) → IsRound capacity script i last book → units_taken script book ≤ units_in capacity script.extent (round_order capacity script) (opening_run script)
  round-units i last before =
      units-before capacity script book before.capacity_is (round_order capacity script) (turns_from capacity (most_steps script - i) script.extent last (run_of script book)) before.rest

  -- nor does it with the step of the session whose turn is next
  pub round-within : (i last session : ℕ) → i < most_steps script → next_turn script.extent last (run_of script book) ≡ Some session → (run_of script book).state ≡ state_of book
      → IsRound capacity script i last book
      → units_taken script book + units_of (state_of book) (next_request script.extent session (run_of script book)) ≤ units_in capacity script.extent (round_order capacity script) (opening_run script)
  round-within i last session h turn state before =
      let left : ℕ = most_steps script - (i + 1) in
      let next : most_steps script - i ≡ suc left = omega arith in
      units-within capacity script book before.capacity_is (round_order capacity script) session (turns_from capacity left script.extent session (stepped capacity script.extent session (run_of script book)))
      (ap (λ (o : List ℕ). order_of book ++ o) (sym (turn-here capacity left script.extent last session (run_of script book) turn))
      ∙ ap (λ (n : ℕ). order_of book ++ turns_from capacity n script.extent last (run_of script book)) (sym next)
      ∙ before.rest)
      state

-- a count that has come so far is within that of the order
pub at-most : (first now taken whole : ℕ) → now ≡ first + taken → taken ≤ whole → (first ≤ now) × (now ≤ first + whole)
at-most first now taken whole is within = (omega arith, omega arith)

-- so it is when a step gives up on its way
pub at-most_with : (first before now taken more whole : ℕ) → before ≡ first + taken → (before ≤ now) × (now ≤ before + more) → taken + more ≤ whole → (first ≤ now) × (now ≤ first + whole)
at-most_with first before now taken more whole is step within = (omega (arith, step.0), omega (arith, step.1))

-- before its first step a book has taken no units
pub no-units : (script : ScriptValue) (book : BookValue) → order_of book ≡ [] → (first : ℕ) → first ≡ first + units_taken script book
no-units script book e first =
    let none : units_taken script book ≡ 0 = ap (λ (o : List ℕ). units_in book.capacity script.extent o (opening_run script)) e in
    omega (arith, none)

-- ---- a book that took all steps of an order
module _ (capacity : ℕ) (script : ScriptValue) (book : BookValue) (order : List ℕ) (c : book.capacity ≡ capacity) (e : order_of book ≡ order) where
  -- the units taken are those of the order
  pub all-units : units_taken script book ≡ units_in capacity script.extent order (opening_run script)
  all-units =
      ap (λ (n : ℕ). units_in n script.extent (order_of book) (opening_run script)) c
      ∙ ap (λ (o : List ℕ). units_in capacity script.extent o (opening_run script)) e

  -- what holds of its outcome
  pub whole-outcome : (P : DueOutcome → Type 0) → P (due_outcome book.capacity script (order_of book)) → P (due_outcome capacity script order)
  whole-outcome P shown =
      subst (λ (o : List ℕ). P (due_outcome capacity script o)) e
      (subst (λ (n : ℕ). P (due_outcome n script (order_of book))) c shown)
