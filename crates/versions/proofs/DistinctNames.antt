-- The rows of a version have names of their own.
use Rattle.std.proofs.Common.{◌≡◌, ℕ, suc, sym, subst, List, [], ◌∷◌, take, Bool, true, false, not, inl, inr}
use Rattle.std.specs.List.{IsDistinct}
use Rattle.std.specs.Str.{bytes_eq}
use Rattle.std.proofs.lemmas.Bool.{cases_Bool}
use Rattle.definitions.specs.Rows.{RowValue}
use Rattle.increments.proofs.Places.{names_in}
use Rattle.increments.proofs.Names.{IsDistinct-with_row, IsDistinct-without, names_in-with_move}
use Rattle.versions.specs.declared.edit.Edit.{Edit}
use Rattle.versions.specs.declared.edit.Edit.TheVariants.{Append, Correct, Remove}
use Rattle.versions.specs.declared.log.Accepted.{Accepted}
use Rattle.versions.specs.Versions.{accepts, edited, replayed, rows_at, AreAccepted, LogValue, IsLog}
use Rattle.versions.proofs.Replays.{AreAccepted-take}
use Rattle.versions.proofs.Removals.{no_row}

-- no two rows have one name
abbrev pub HaveDistinctNames : List RowValue → Type 0
HaveDistinctNames rows = IsDistinct bytes_eq (names_in rows)

none : HaveDistinctNames []
unfolding IsDistinct
none = tt

not-true : (b : Bool) → not b ≡ true → b ≡ false
not-true b h = elim (cases_Bool b) [ inl is ↦ absurd (cc) | inr is ↦ is ]

distinct-edited : (version : ℕ) (e : Edit) (rows : List RowValue) → accepts rows e ≡ true → HaveDistinctNames rows → HaveDistinctNames (edited version e rows)
distinct-edited version (Append name tick x) rows accepted distinct =
    IsDistinct-with_row (record { name = name; tick = tick; birth = version; x = x }) rows (no_row name rows (not-true _ accepted)) distinct
distinct-edited version (Correct name x) rows accepted distinct = subst (IsDistinct bytes_eq) (sym (names_in-with_move name x rows)) distinct
distinct-edited version (Remove name) rows accepted distinct = IsDistinct-without name rows distinct

distinct-replayed : (v : ℕ) (edits : List Accepted) (rows : List RowValue) → AreAccepted v edits rows → HaveDistinctNames rows → HaveDistinctNames (replayed v edits rows)
distinct-replayed v [] rows accepted distinct = distinct
distinct-replayed v (e ∷ edits) rows accepted distinct =
    distinct-replayed (suc v) edits (edited (suc v) e.edit rows) accepted.1 (distinct-edited (suc v) e.edit rows accepted.0.accepted distinct)

-- the rows of each version have names of their own
pub distinct-names : (log : LogValue) (v : ℕ) → IsLog log → HaveDistinctNames (rows_at log.edits v)
distinct-names log v is = distinct-replayed 0 (take v log.edits) [] (AreAccepted-take v 0 log.edits [] is.accepted) none
