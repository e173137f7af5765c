-- Versions between which no edit touches an interval have the same rows in it.
use Rattle.std.proofs.Common.{◌≡◌, ◌∙◌, ℕ, zero, suc, ◌+◌, ◌<◌, ◌≤◌, refl, sym, ap, arith, add-one, List, [], ◌∷◌, length, get_or, Bool, true, false, cond, Some, inl, inr}
use Rattle.std.specs.Option.{option_map}
use Rattle.std.proofs.lemmas.Bool.{cases_lt, cases_Bool}
use Rattle.std.proofs.lemmas.Option.{same_Some}
use Rattle.std.proofs.lemmas.Map.Keys.{IsDistinct-head, IsDistinct-tail}
use Rattle.std.specs.Str.{bytes_eq}
use Rattle.definitions.specs.Moves.{Parts}
use Rattle.definitions.specs.Rows.{RowValue, lies_in, rows_in, with_row}
use Rattle.increments.specs.Edits.{is_named, tick_of, with_move, without}
use Rattle.increments.proofs.Places.{names_in, found, passed, passes, stops, with_move-named, with_move-other, with_move-unnamed, without-named, without-other, without-unnamed}
use Rattle.versions.specs.declared.edit.Edit.{Edit}
use Rattle.versions.specs.declared.edit.Edit.TheVariants.{Append, Correct, Remove}
use Rattle.versions.specs.declared.log.Accepted.{Accepted}
use Rattle.versions.specs.Versions.{edited_tick, edited, rows_at, LogValue, IsLog, touched, since}
use Rattle.versions.proofs.Replays.{IsLog-accepted_at, rows_at-next}
use Rattle.versions.proofs.DistinctNames.{HaveDistinctNames, distinct-names}
use Rattle.versions.proofs.TouchLaws.{touched-next}

module _ (a b : ℕ) where
  -- a row outside isn't counted
  skipped : (r : RowValue) (rows : List RowValue) → lies_in a b r.tick ≡ false → rows_in a b (r ∷ rows) ≡ rows_in a b rows
  skipped r rows outside = ap (λ t. cond t (r ∷ rows_in a b rows) (rows_in a b rows)) outside

  -- one row more before rows that agree
  beside : (r : RowValue) (rows others : List RowValue) → rows_in a b rows ≡ rows_in a b others → rows_in a b (r ∷ rows) ≡ rows_in a b (r ∷ others)
  beside r rows others same = ap (λ (rs : List RowValue). cond (lies_in a b r.tick) (r ∷ rs) rs) same

  rows_in-with_row : (row : RowValue) (rows : List RowValue) → lies_in a b row.tick ≡ false → rows_in a b (with_row row rows) ≡ rows_in a b rows
  rows_in-with_row row [] outside = skipped row [] outside
  rows_in-with_row row (r ∷ rows) outside =
      elim (cases_lt row.tick r.tick) [
        | inl before ↦ (ap (rows_in a b) (stops row r rows before) ∙ skipped row (r ∷ rows) outside)
        | inr after ↦ (ap (rows_in a b) (passes row r rows after) ∙ beside r (with_row row rows) rows (rows_in-with_row row rows outside))
      ]

  module _ (name : List ℕ) (tick : ℕ) (outside : lies_in a b tick ≡ false) where
    here : (r : RowValue) (rows : List RowValue) → is_named name r ≡ true → tick_of name (r ∷ rows) ≡ Some tick → lies_in a b r.tick ≡ false
    here r rows named at = ap (lies_in a b) (same_Some r.tick tick (sym (ap (option_map (λ (row : RowValue). row.tick)) (found name r rows named)) ∙ at)) ∙ outside

    further : (r : RowValue) (rows : List RowValue) → is_named name r ≡ false → tick_of name (r ∷ rows) ≡ Some tick → tick_of name rows ≡ Some tick
    further r rows other at = sym (ap (option_map (λ (row : RowValue). row.tick)) (passed name r rows other)) ∙ at

    rows_in-with_move : (x : Parts) (rows : List RowValue) → tick_of name rows ≡ Some tick → HaveDistinctNames rows → rows_in a b (with_move name x rows) ≡ rows_in a b rows
    rows_in-with_move x [] at distinct = refl
    rows_in-with_move x (r ∷ rows) at distinct =
        elim (cases_Bool (is_named name r)) [
          | inl named ↦ (
              let out : lies_in a b r.tick ≡ false = here r rows named at in
              let kept : with_move name x rows ≡ rows = with_move-unnamed name r.name x rows named (IsDistinct-head bytes_eq r.name (names_in rows) distinct) in
              ap (rows_in a b) (with_move-named name x r rows named) ∙ skipped (record r { x = x }) (with_move name x rows) out
              ∙ ap (rows_in a b) kept ∙ sym (skipped r rows out))
          | inr other ↦ (
              ap (rows_in a b) (with_move-other name x r rows other)
              ∙ beside r (with_move name x rows) rows (rows_in-with_move x rows (further r rows other at) (IsDistinct-tail bytes_eq r.name (names_in rows) distinct)))
        ]

    rows_in-without : (rows : List RowValue) → tick_of name rows ≡ Some tick → HaveDistinctNames rows → rows_in a b (without name rows) ≡ rows_in a b rows
    rows_in-without [] at distinct = refl
    rows_in-without (r ∷ rows) at distinct =
        elim (cases_Bool (is_named name r)) [
          | inl named ↦ (
              let kept : without name rows ≡ rows = without-unnamed name r.name rows named (IsDistinct-head bytes_eq r.name (names_in rows) distinct) in
              ap (rows_in a b) (without-named name r rows named ∙ kept) ∙ sym (skipped r rows (here r rows named at)))
          | inr other ↦ (
              ap (rows_in a b) (without-other name r rows other)
              ∙ beside r (without name rows) rows (rows_in-without rows (further r rows other at) (IsDistinct-tail bytes_eq r.name (names_in rows) distinct)))
        ]

  -- an edit outside the interval leaves its rows
  rows_in-edited : (version tick : ℕ) (e : Edit) (rows : List RowValue) → edited_tick rows e ≡ Some tick → lies_in a b tick ≡ false → HaveDistinctNames rows
      → rows_in a b (edited version e rows) ≡ rows_in a b rows
  rows_in-edited version tick (Append name at x) rows is outside distinct =
      rows_in-with_row (record { name = name; tick = at; birth = version; x = x }) rows (ap (lies_in a b) (same_Some at tick is) ∙ outside)
  rows_in-edited version tick (Correct name x) rows is outside distinct = rows_in-with_move name tick outside x rows is distinct
  rows_in-edited version tick (Remove name) rows is outside distinct = rows_in-without name tick outside rows is distinct

  module _ (log : LogValue) (is : IsLog log) where
    untouched-next : (v : ℕ) → v < length log.edits → touched a b log.edits (suc v) ≡ false → rows_in a b (rows_at log.edits (suc v)) ≡ rows_in a b (rows_at log.edits v)
    untouched-next v within outside =
        let any : Accepted = record { edit = Remove []; tick = 0 } in
        let e : Accepted = get_or log.edits v any in
        let out : lies_in a b e.tick ≡ false = sym (touched-next a b log.edits v any within) ∙ ap (touched a b log.edits) (add-one v) ∙ outside in
        ap (λ n. rows_in a b (rows_at log.edits n)) (sym (add-one v)) ∙ ap (rows_in a b) (rows_at-next log.edits v any within)
        ∙ rows_in-edited (v + 1) e.tick e.edit (rows_at log.edits v) (IsLog-accepted_at log v any is within).tick_is out (distinct-names log v is)

    -- up to version v none after s touches the interval
    pub untouched : (s v : ℕ) → s ≤ v → v ≤ length log.edits → ((t : ℕ) → s < t → t ≤ v → touched a b log.edits t ≡ false) → rows_in a b (rows_at log.edits v) ≡ rows_in a b (rows_at log.edits s)
    untouched s zero back within passes =
        let same : zero ≡ s = omega arith in
        ap (λ n. rows_in a b (rows_at log.edits n)) same
    untouched s (suc v) back within passes =
        elim (cases_lt v s) [
          | inl last ↦ (
              let same : suc v ≡ s = omega arith in
              ap (λ n. rows_in a b (rows_at log.edits n)) same)
          | inr earlier ↦ (
              let now : touched a b log.edits (suc v) ≡ false = passes (suc v) (omega arith) (omega arith) in
              untouched-next v (omega arith) now ∙ untouched s v earlier (omega arith) (λ t after upto. passes t after (omega arith)))
        ]

    -- none does after the last one that does
    pub untouched-since : (v : ℕ) → v ≤ length log.edits → rows_in a b (rows_at log.edits v) ≡ rows_in a b (rows_at log.edits (since a b log.edits v))
    untouched-since zero within = refl
    untouched-since (suc v) within =
        let last : Bool → ℕ = λ t. cond t (suc v) (since a b log.edits v) in
        elim (cases_Bool (touched a b log.edits (suc v))) [
          | inl touches ↦ ap (λ n. rows_in a b (rows_at log.edits n)) (sym (ap last touches))
          | inr passes ↦ (
              untouched-next v (omega arith) passes ∙ untouched-since v (omega arith)
              ∙ ap (λ n. rows_in a b (rows_at log.edits n)) (sym (ap last passes)))
        ]
