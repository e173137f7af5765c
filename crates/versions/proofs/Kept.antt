-- A log with the rows of its versions beside it, once it has an edit more.
use Rattle.std.proofs.Common.{◌≡◌, ◌∙◌, ℕ, ◌+◌, ◌<◌, ◌≤◌, ◌^◌, sym, ap, subst, arith, inl, inr, List, [], ◌∷◌, ◌++◌, length, refl, Option, Some, None}
use Rattle.std.specs.Option.{option_map}
use Rattle.std.proofs.lemmas.Option.{same_Some}
use Rattle.std.proofs.lemmas.Bool.{cases_Bool}
use Rattle.std.proofs.lemmas.Slice.Eq.{bytes_eq-Decides}
use Rattle.definitions.specs.Rows.{RowValue}
use Rattle.increments.specs.Edits.{RowsValue, is_named, row_of}
use Rattle.increments.proofs.Places.{found, passed}
use Rattle.increments.specs.Tables.{place_of}
use Rattle.timeline.specs.Pasts.{PastValue}
use Rattle.timeline.proofs.Edits.{found-all}
use Rattle.versions.specs.declared.edit.Edit.{Edit}
use Rattle.versions.specs.declared.edit.Edit.TheVariants.{Append, Correct, Remove}
use Rattle.versions.specs.declared.log.Accepted.{Accepted}
use Rattle.versions.specs.Versions.{IsEdit, IsAccepted, edited, current_rows, LogValue, IsLog}
use Rattle.versions.specs.Streams.{rows_of}
use Rattle.versions.specs.Pasts.{past_of_log, log_with, IsKept}
use Rattle.versions.proofs.Replays.{IsLog-push}
use Rattle.versions.proofs.Committed.{committed}
use Rattle.versions.proofs.Births.{younger, current-tick}

module _ (old new : List Accepted) (line after : PastValue) (rows changed : RowsValue) (kept : IsKept (log_with rows.extent old) line rows) (past : after ≡ past_of_log new) where
  -- an edit more
  pub kept-next : (e : Accepted) → new ≡ old ++ e ∷ [] → IsEdit rows.extent e.edit → e.tick < 2 ^ 32 → IsAccepted rows.rows e
      → changed ≡ record { extent = rows.extent; rows = edited (length old + 1) e.edit rows.rows } → IsKept (log_with rows.extent new) after changed
  kept-next e pushed edit tick accepted took =
      let log : LogValue = log_with rows.extent old in
      record {
        log_is =
            subst (λ (es : List Accepted). IsLog (log_with rows.extent es)) (sym pushed)
            (IsLog-push log e kept.log_is edit tick (subst (λ (r : RowsValue). IsAccepted r.rows e) kept.rows accepted));
        past = past;
        rows = committed log (log_with rows.extent new) rows changed e kept.rows (ap (log_with rows.extent) pushed) took;
      }

  -- no more
  pub kept-same : new ≡ old → changed ≡ rows → IsKept (log_with rows.extent new) after changed
  kept-same same unchanged = record {
    log_is = subst (λ (es : List Accepted). IsLog (log_with rows.extent es)) (sym same) kept.log_is;
    past = past;
    rows = unchanged ∙ kept.rows ∙ ap (λ (es : List Accepted). rows_of (log_with rows.extent es)) (sym same);
  }

-- the row at a place that was found
pub record IsFound (o : Option RowValue) (tick birth : ℕ) : Type 0 where
  -- the row
  pub row : RowValue
  -- it is what was found
  pub is : o ≡ Some row
  -- it stands at this tick
  pub at : row.tick ≡ tick
  -- it has this birth
  pub born : row.birth ≡ birth

-- where a place and a tick are found, there is a row with this tick and the birth of the place
pub place-found : (o : Option RowValue) (place : ℕ × ℕ) (tick : ℕ) → Some place ≡ option_map place_of o → option_map (λ (row : RowValue). row.tick) o ≡ Some tick → IsFound o tick place.1
place-found None place tick e f = absurd (cc)
place-found (Some row) place tick e f =
    let same : place ≡ place_of row = same_Some place (place_of row) e in
    record { row = row; is = refl; at = same_Some row.tick tick f; born = sym (ap (λ (p : ℕ × ℕ). p.1) same) }

-- a row of the current version was born before the next one
pub found-born : (log : LogValue) (name : List ℕ) (row : RowValue) → IsLog log → row_of name (current_rows log.edits) ≡ Some row → row.birth ≤ length log.edits
found-born log name row is at =
    let born : row.birth < length log.edits + 1 = found-all (λ (r : RowValue). r.birth < length log.edits + 1) row name (current_rows log.edits) (younger log (length log.edits) is (omega arith)) at in
    omega (arith, born)

-- the tick of an accepted edit is one of the line of time
pub accepted-tick : (log : LogValue) (e : Edit) (tick : ℕ) → IsLog log → IsEdit log.extent e → IsAccepted (current_rows log.edits) (record { edit = e; tick = tick }) → tick < 2 ^ 32
accepted-tick log (Append name own x) tick is edit accepted = subst (λ (n : ℕ). n < 2 ^ 32) (same_Some own tick accepted.tick_is) edit.0
accepted-tick log (Correct name x) tick is edit accepted = current-tick log name tick is accepted.tick_is
accepted-tick log (Remove name) tick is edit accepted = current-tick log name tick is accepted.tick_is

-- it has the name that it was found by
pub found-name : (name : List ℕ) (row : RowValue) (rows : List RowValue) → row_of name rows ≡ Some row → row.name ≡ name
found-name name row [] at = absurd (cc)
found-name name row (q ∷ rows) at =
    elim (cases_Bool (is_named name q)) [
      | inl named ↦ ap (λ (r : RowValue). r.name) (sym (same_Some q row (sym (found name q rows named) ∙ at))) ∙ (bytes_eq-Decides q.name name).0 named
      | inr other ↦ found-name name row rows (sym (passed name q rows other) ∙ at)
    ]
