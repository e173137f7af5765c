-- The rows of a version stand in the order of their ticks and births.
use Rattle.std.proofs.Common.{◌∙◌, ℕ, zero, suc, ◌+◌, ◌<◌, ◌≤◌, sym, ap, subst, arith, List, [], ◌∷◌, length, get_or, add-one, not, cond, inl, inr}
use Rattle.std.specs.Prelude.{All}
use Rattle.std.proofs.lemmas.Bool.{cases_lt, cases_Bool}
use Rattle.std.proofs.lemmas.List.Elements.{All-head, All-tail, All-weaker, All-cons, All-filter, All-nil}
use Rattle.std.proofs.lemmas.List.Kept.{AllPairs-cons}
use Rattle.definitions.specs.Moves.{Parts}
use Rattle.definitions.specs.Rows.{RowValue, with_row}
use Rattle.increments.specs.Edits.{IsBefore, IsInOrder, is_named, with_move, without}
use Rattle.increments.proofs.Places.{stops, passes}
use Rattle.increments.proofs.Edits.{All-with_row, All-with_move}
use Rattle.versions.specs.declared.edit.Edit.{Edit}
use Rattle.versions.specs.declared.edit.Edit.TheVariants.{Append, Correct, Remove}
use Rattle.versions.specs.declared.log.Accepted.{Accepted}
use Rattle.versions.specs.Versions.{edited, rows_at, LogValue, IsLog}
use Rattle.versions.proofs.Replays.{rows_at-next}
use Rattle.versions.proofs.Births.{younger}
use Rattle.increments.proofs.Joins.{in_order-tail}
use Rattle.timeline.proofs.Edits.{first-of}

none : IsInOrder []
none = λ i j d h k. absurd (omega arith)

before-all : (row r s : RowValue) → row.tick < r.tick → IsBefore r s → IsBefore row s
before-all row r s h b = elim b [ inl x ↦ inl (omega arith) | inr x ↦ inl (omega (arith, h, x.0)) ]

before-younger : (r row : RowValue) → r.tick ≤ row.tick → r.birth < row.birth → IsBefore r row
before-younger r row h b = elim (cases_lt r.tick row.tick) [ inl x ↦ inl x | inr x ↦ inr (omega (arith, h, x), b) ]

-- a row that is younger than the others
pub in-order-with_row : (row : RowValue) (rows : List RowValue) → All (λ r. r.birth < row.birth) rows → IsInOrder rows → IsInOrder (with_row row rows)
in-order-with_row row [] young order = AllPairs-cons IsBefore row [] (All-nil (IsBefore row)) order
in-order-with_row row (r ∷ rows) young order =
    elim (cases_lt row.tick r.tick) [
      | inl before ↦ subst IsInOrder (sym (stops row r rows before))
          (AllPairs-cons IsBefore row (r ∷ rows)
          (All-cons (IsBefore row) r rows (inl before) (All-weaker (IsBefore r) (IsBefore row) (λ (s : RowValue) (b : IsBefore r s). before-all row r s before b) rows (first-of r rows order))) order)
      | inr after ↦ subst IsInOrder (sym (passes row r rows after))
          (AllPairs-cons IsBefore r (with_row row rows)
          (All-with_row (IsBefore r) row rows (before-younger r row after (All-head (λ s. s.birth < row.birth) r rows young)) (first-of r rows order))
          (in-order-with_row row rows (All-tail (λ s. s.birth < row.birth) r rows young) (in_order-tail r rows order)))
    ]

moved-before : (name : List ℕ) (x : Parts) (r s : RowValue) → IsBefore r s → IsBefore (cond (is_named name r) (record r { x = x }) r) s
moved-before name x r s b = elim (cases_Bool (is_named name r)) [
  | inl sure ↦ subst (λ t. IsBefore (cond t (record r { x = x }) r) s) (sym sure) b
  | inr other ↦ subst (λ t. IsBefore (cond t (record r { x = x }) r) s) (sym other) b
]

in-order-with_move : (name : List ℕ) (x : Parts) (rows : List RowValue) → IsInOrder rows → IsInOrder (with_move name x rows)
in-order-with_move name x [] order = order
in-order-with_move name x (r ∷ rows) order =
    let later : All (IsBefore r) (with_move name x rows) = All-with_move (IsBefore r) name x rows (λ s b. b) (first-of r rows order) in
    AllPairs-cons IsBefore (cond (is_named name r) (record r { x = x }) r) (with_move name x rows)
    (All-weaker (IsBefore r) (IsBefore (cond (is_named name r) (record r { x = x }) r)) (λ (s : RowValue) (b : IsBefore r s). moved-before name x r s b) (with_move name x rows) later)
    (in-order-with_move name x rows (in_order-tail r rows order))

in-order-without : (name : List ℕ) (rows : List RowValue) → IsInOrder rows → IsInOrder (without name rows)
in-order-without name [] order = order
in-order-without name (r ∷ rows) order =
    let rest : IsInOrder (without name rows) = in-order-without name rows (in_order-tail r rows order) in
    elim (cases_Bool (not (is_named name r))) [
      | inl keeps ↦ subst (λ t. IsInOrder (cond t (r ∷ without name rows) (without name rows))) (sym keeps)
          (AllPairs-cons IsBefore r (without name rows) (All-filter (λ (s : RowValue). not (is_named name s)) (IsBefore r) rows (first-of r rows order)) rest)
      | inr goes ↦ subst (λ t. IsInOrder (cond t (r ∷ without name rows) (without name rows))) (sym goes) rest
    ]

in-order-edited : (v : ℕ) (e : Edit) (rows : List RowValue) → All (λ (row : RowValue). row.birth < v) rows → IsInOrder rows → IsInOrder (edited v e rows)
in-order-edited v (Append name tick x) rows young order = in-order-with_row (record { name = name; tick = tick; birth = v; x = x }) rows young order
in-order-edited v (Correct name x) rows young order = in-order-with_move name x rows order
in-order-edited v (Remove name) rows young order = in-order-without name rows order

-- an edit that stands where a list has none
abbrev pub some_edit : Accepted
some_edit = record { edit = Remove []; tick = 0 }

-- the rows of each version stand in order
pub rows-in-order : (log : LogValue) (v : ℕ) → IsLog log → v ≤ length log.edits → IsInOrder (rows_at log.edits v)
rows-in-order log zero is within = none
rows-in-order log (suc v) is within =
    let e : Accepted = get_or log.edits v some_edit in
    subst IsInOrder (sym (ap (rows_at log.edits) (sym (add-one v)) ∙ rows_at-next log.edits v some_edit (omega arith)))
    (in-order-edited (v + 1) e.edit (rows_at log.edits v) (younger log v is (omega arith)) (rows-in-order log v is (omega arith)))
