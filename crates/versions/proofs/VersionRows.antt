-- The rows of a version have moves of the extent, and are at most as many as the edits before it.
use Rattle.std.proofs.Common.{◌≡◌, ◌∙◌, ℕ, zero, suc, ◌+◌, ◌<◌, ◌≤◌, sym, ap, subst, arith, add-one, refl, ◌^◌, List, [], ◌∷◌, length, get_or, not, Bool, true, false, cond, inl, inr}
use Rattle.std.specs.Prelude.{All}
use Rattle.std.proofs.lemmas.Bool.{cases_lt}
use Rattle.std.proofs.lemmas.List.{length-map}
use Rattle.std.proofs.lemmas.List.Elements.{All-nil, All-get_or, All-filter}
use Rattle.definitions.specs.Words.{Extent}
use Rattle.definitions.specs.Moves.{IsMove}
use Rattle.definitions.specs.Rows.{RowValue, with_row}
use Rattle.increments.specs.Edits.{is_named, without}
use Rattle.increments.proofs.Places.{stops, passes}
use Rattle.increments.proofs.Edits.{All-with_row, All-with_move}
use Rattle.versions.specs.declared.edit.Edit.{Edit}
use Rattle.versions.specs.declared.edit.Edit.TheVariants.{Append, Correct, Remove}
use Rattle.versions.specs.declared.log.Accepted.{Accepted}
use Rattle.versions.specs.Versions.{IsEdit, edited, rows_at, LogValue, IsLog}
use Rattle.versions.proofs.Replays.{rows_at-next}
use Rattle.versions.proofs.InOrder.{some_edit}
use Rattle.timeline.proofs.Filters.{kept-fewer}

-- ---- moves
abbrev HasMove : Extent → RowValue → Type 0
HasMove extent row = IsMove extent row.x

moves-edited : (extent : Extent) (v : ℕ) (e : Edit) (rows : List RowValue) → IsEdit extent e → All (HasMove extent) rows → All (HasMove extent) (edited v e rows)
moves-edited extent v (Append name tick x) rows edit all = All-with_row (HasMove extent) (record { name = name; tick = tick; birth = v; x = x }) rows edit.1 all
moves-edited extent v (Correct name x) rows edit all = All-with_move (HasMove extent) name x rows (λ r here. edit) all
moves-edited extent v (Remove name) rows edit all = All-filter (λ row. not (is_named name row)) (HasMove extent) rows all

-- each row of a version has a move of the extent
pub rows-have_moves : (log : LogValue) (v : ℕ) → IsLog log → v ≤ length log.edits → All (λ row. IsMove log.extent row.x) (rows_at log.edits v)
rows-have_moves log zero is within = All-nil (HasMove log.extent)
rows-have_moves log (suc v) is within =
    let e : Accepted = get_or log.edits v some_edit in
    let edit = All-get_or (λ (e : Accepted). IsEdit log.extent e.edit × (e.tick < 2 ^ 32)) log.edits v some_edit (omega arith) is.within in
    subst (All (HasMove log.extent)) (sym (ap (rows_at log.edits) (sym (add-one v)) ∙ rows_at-next log.edits v some_edit (omega arith)))
    (moves-edited log.extent (v + 1) e.edit (rows_at log.edits v) edit.0 (rows-have_moves log v is (omega arith)))

-- ---- numbers
with_row-length : (row : RowValue) (rows : List RowValue) → length (with_row row rows) ≡ suc (length rows)
with_row-length row [] = refl
with_row-length row (r ∷ rows) =
    elim (cases_lt row.tick r.tick) [
      | inl before ↦ ap length (stops row r rows before)
      | inr after ↦ (ap length (passes row r rows after) ∙ ap suc (with_row-length row rows))
    ]

without-fewer : (name : List ℕ) (rows : List RowValue) → length (without name rows) ≤ length rows
without-fewer name [] = omega arith
without-fewer name (r ∷ rows) = kept-fewer (not (is_named name r)) r (without name rows) (length rows) (without-fewer name rows)

few-edited : (v : ℕ) (e : Edit) (rows : List RowValue) → length (edited v e rows) ≤ suc (length rows)
few-edited v (Append name tick x) rows = omega (arith, with_row-length (record { name = name; tick = tick; birth = v; x = x }) rows)
few-edited v (Correct name x) rows = omega (arith, length-map rows (λ (row : RowValue). cond (is_named name row) (record row { x = x }) row))
few-edited v (Remove name) rows = omega (arith, without-fewer name rows)

-- version v has at most v rows
pub rows-few : (edits : List Accepted) (v : ℕ) → v ≤ length edits → length (rows_at edits v) ≤ v
rows-few edits zero within = omega arith
rows-few edits (suc v) within =
    let next = rows_at-next edits v some_edit (omega arith) in
    omega (arith, ap length (ap (rows_at edits) (sym (add-one v)) ∙ next), few-edited (v + 1) (get_or edits v some_edit).edit (rows_at edits v), rows-few edits v (omega arith))
