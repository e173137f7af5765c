use Rattle.std.proofs.Common.{◌≡◌, ◌∙◌, ℕ, sym, ap, None, Some}
use Rattle.std.specs.Map.{set_value}
use Rattle.std.specs.Option.{option_map}
use Rattle.std.specs.BTreeMap.{values, is_at}
use Rattle.definitions.specs.Rows.{RowValue}
use Rattle.increments.specs.Edits.{row_of, with_move}
use Rattle.increments.specs.Tables.{place_of, place_cmp}
use Rattle.increments.proofs.Places.{place_in, with_move-none}
use Rattle.increments.proofs.Ties.{Becomes, becomes-with_move, no_place, lookup-tied}
use Rattle.increments.proofs.tables.correct_row.Goals as goal

pub returns-in_err-place-clause-rows : goal.returns-in_err-place-clause-rows
returns-in_err-place-clause-rows c =
    sym (with_move-none c.args.name.now c.args.x (values c.args.rows.now) (no_place (row_of c.args.name.now (values c.args.rows.now)) (sym c.place_at.ensures ∙ c.in_err-place.was)))

-- a row stands at the place of a name
absent : (c : goal.After-drop-x-inside-in_err-row) → ⊥
absent c =
    let at : place_in c.args.name.now (values c.args.rows.now) ≡ Some c.in_ok-place.place = sym c.place_at.ensures ∙ c.in_ok-place.was in
    let gone : row_of c.args.name.now (values c.args.rows.now) ≡ None =
    sym (lookup-tied c.args.rows.now c.args.rows.now c.args.names.now c.args.names.now c.requires c.args.name.now c.in_ok-place.place at) ∙ sym c.in_err-row.ensures.value in
    none_some c.in_ok-place.place (sym (ap (option_map place_of) gone) ∙ at)
  where
    none_some : (p : ℕ × ℕ) → None ≡ Some p → ⊥
    none_some p h = cc

pub returns-in_err-row-clause-tick : goal.returns-in_err-row-clause-tick
returns-in_err-row-clause-tick c = absurd (absent c)

pub returns-in_err-row-clause-rows : goal.returns-in_err-row-clause-rows
returns-in_err-row-clause-rows c = absurd (absent c)

done : (c : goal.After-rows-2-1) → Becomes (c.get_mut.follows.lender c.correct.new.self) c.args.names.now (with_move c.args.name.now c.args.x (values c.args.rows.now))
done c =
    let at : place_in c.args.name.now (values c.args.rows.now) ≡ Some c.in_ok-place.place = sym c.place_at.ensures ∙ c.in_ok-place.was in
    let written = c.get_mut.follows.holds c.correct.new.self in
    becomes-with_move c.args.rows.now (c.get_mut.follows.lender c.correct.new.self) c.args.names.now c.requires c.args.name.now c.in_ok-place.place c.args.x c.in_ok-row.row.now at written.4
    (sym c.in_ok-row.ensures.value) (written.0 ∙ ap (λ (w : RowValue). set_value (is_at (place_cmp c.in_ok-place.place)) c.args.rows.now.entries w) c.correct.ensures)

pub returns-clause-rows : goal.returns-clause-rows
returns-clause-rows c = (done c).holds

pub returns-clause-tied : goal.returns-clause-tied
returns-clause-tied c = (done c).tied
