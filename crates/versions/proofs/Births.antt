-- The rows of a version were born by it, at ticks of the line of time.
use Rattle.std.proofs.Common.{◌≡◌, ◌∙◌, ℕ, suc, ◌+◌, ◌<◌, ◌≤◌, ◌^◌, sym, ap, subst, arith, add-zero, List, [], ◌∷◌, length, take, not, Some, inl, inr}
use Rattle.std.specs.Prelude.{All}
use Rattle.std.specs.Option.{option_map}
use Rattle.std.proofs.lemmas.Bool.{cases_Bool}
use Rattle.std.proofs.lemmas.Option.{same_Some}
use Rattle.std.proofs.lemmas.List.{length-take-le}
use Rattle.std.proofs.lemmas.List.Elements.{All-nil, All-head, All-tail, All-take, All-filter, All-weaker}
use Rattle.definitions.specs.Words.{Extent}
use Rattle.definitions.specs.Rows.{RowValue}
use Rattle.increments.specs.Edits.{is_named, tick_of}
use Rattle.increments.proofs.Places.{found, passed}
use Rattle.increments.proofs.Edits.{All-with_row, All-with_move}
use Rattle.versions.specs.declared.edit.Edit.{Edit}
use Rattle.versions.specs.declared.edit.Edit.TheVariants.{Append, Correct, Remove}
use Rattle.versions.specs.declared.log.Accepted.{Accepted}
use Rattle.versions.specs.Versions.{IsEdit, edited, replayed, rows_at, current_rows, LogValue, IsLog}

-- a row of a version
pub record IsBorn (v : ℕ) (row : RowValue) : Type 0 where
  -- its birth is at most v
  pub by : row.birth ≤ v
  -- its tick is one of the line of time
  pub at : row.tick < 2 ^ 32

later : (v : ℕ) (row : RowValue) → IsBorn v row → IsBorn (suc v) row
later v row born = record { by = omega arith; at = born.at }

born-edited : (extent : Extent) (v : ℕ) (e : Edit) (rows : List RowValue) → IsEdit extent e → All (IsBorn v) rows → All (IsBorn (suc v)) (edited (suc v) e rows)
born-edited extent v (Append name tick x) rows edit born =
    All-with_row (IsBorn (suc v)) (record { name = name; tick = tick; birth = suc v; x = x }) rows (record { by = omega arith; at = edit.0 }) (All-weaker (IsBorn v) (IsBorn (suc v)) (later v) rows born)
born-edited extent v (Correct name x) rows edit born =
    All-with_move (IsBorn (suc v)) name x rows (λ r here. record { by = here.by; at = here.at }) (All-weaker (IsBorn v) (IsBorn (suc v)) (later v) rows born)
born-edited extent v (Remove name) rows edit born =
    All-filter (λ row. not (is_named name row)) (IsBorn (suc v)) rows (All-weaker (IsBorn v) (IsBorn (suc v)) (later v) rows born)

born-replayed : (extent : Extent) (v : ℕ) (xs : List Accepted) (rows : List RowValue) → All (λ (e : Accepted). IsEdit extent e.edit × (e.tick < 2 ^ 32)) xs → All (IsBorn v) rows
    → All (IsBorn (v + length xs)) (replayed v xs rows)
born-replayed extent v [] rows edits born = subst (λ n. All (IsBorn n) rows) (sym (add-zero v)) born
born-replayed extent v (x ∷ xs) rows edits born =
    let Within : Accepted → Type 0 = λ e. IsEdit extent e.edit × (e.tick < 2 ^ 32) in
    let count : suc v + length xs ≡ v + length (x ∷ xs) = omega arith in
    subst (λ n. All (IsBorn n) (replayed v (x ∷ xs) rows)) count
    (born-replayed extent (suc v) xs (edited (suc v) x.edit rows) (All-tail Within x xs edits) (born-edited extent v x.edit rows (All-head Within x xs edits).0 born))

-- the rows of version v
born : (log : LogValue) (v : ℕ) → IsLog log → v ≤ length log.edits → All (IsBorn v) (rows_at log.edits v)
born log v is within =
    let Within : Accepted → Type 0 = λ e. IsEdit log.extent e.edit × (e.tick < 2 ^ 32) in
    let count : 0 + length (take v log.edits) ≡ v = omega (arith, length-take-le v log.edits within) in
    subst (λ n. All (IsBorn n) (rows_at log.edits v)) count (born-replayed log.extent 0 (take v log.edits) [] (All-take Within v log.edits is.within) (All-nil (IsBorn 0)))

-- a row that version v + 1 brings is younger
pub younger : (log : LogValue) (v : ℕ) → IsLog log → v ≤ length log.edits → All (λ (row : RowValue). row.birth < v + 1) (rows_at log.edits v)
younger log v is within = All-weaker (IsBorn v) (λ (row : RowValue). row.birth < v + 1) (λ row here. omega arith) (rows_at log.edits v) (born log v is within)

tick-born : (v : ℕ) (name : List ℕ) (rows : List RowValue) (tick : ℕ) → All (IsBorn v) rows → tick_of name rows ≡ Some tick → tick < 2 ^ 32
tick-born v name [] tick all at = absurd (cc)
tick-born v name (r ∷ rows) tick all at =
    elim (cases_Bool (is_named name r)) [
      | inl named ↦ (
          let same : r.tick ≡ tick = same_Some r.tick tick (sym (ap (option_map (λ (row : RowValue). row.tick)) (found name r rows named)) ∙ at) in
          subst (λ t. t < 2 ^ 32) same (All-head (IsBorn v) r rows all).at)
      | inr other ↦ (tick-born v name rows tick (All-tail (IsBorn v) r rows all) (sym (ap (option_map (λ (row : RowValue). row.tick)) (passed name r rows other)) ∙ at))
    ]

-- the tick of a row of the current version
pub current-tick : (log : LogValue) (name : List ℕ) (tick : ℕ) → IsLog log → tick_of name (current_rows log.edits) ≡ Some tick → tick < 2 ^ 32
current-tick log name tick is at = tick-born (length log.edits) name (current_rows log.edits) tick (born log (length log.edits) is (omega arith)) at
