use Rattle.std.proofs.Common.{◌≡◌, ◌∙◌, ◌+◌, ℕ, [], ◌∷◌, length, List, ap, sym, arith, Some}
use Rattle.definitions.specs.Moves.{Parts}
use Rattle.definitions.specs.Rows.{RowValue}
use Rattle.increments.specs.Edits.{RowsValue, row_of, tick_of, with_move}
use Rattle.timeline.specs.Keys.{key_at, with_at}
use Rattle.versions.specs.declared.edit.Edit.{Edit}
use Rattle.versions.specs.Versions.{LogValue, edited, edited_tick, current_rows}
use Rattle.versions.specs.Pasts.{log_with}
use Rattle.versions.proofs.Pasts.{correct-change}
use Rattle.versions.proofs.Kept.{kept-next, IsFound, place-found, found-born, found-name}
use Rattle.versions.proofs.record.correct.Goals as goal

pub keep-requires-clause-birth : goal.keep-requires-clause-birth
keep-requires-clause-birth c =
    let edits = c.args.edits.now.items in let rows = c.args.rows.now in let name = c.args.name.now in let tick = c.args.tick in
    let log : LogValue = log_with rows.extent edits in
    let tick-is : tick_of name rows.rows ≡ Some tick = sym (ap (edited_tick rows.rows) c.requires.parts) ∙ c.requires.accepted.tick_is in
    let found : IsFound (row_of name rows.rows) tick c.in-Some.place.1 = place-found (row_of name rows.rows) c.in-Some.place tick c.in-Some.ensures tick-is in
    let here : row_of name (current_rows edits) ≡ Some found.row = ap (λ (r : RowsValue). row_of name r.rows) (sym c.requires.kept.rows) ∙ found.is in
    omega (arith, found-born log name found.row c.requires.kept.log_is here, found.born)

pub keep-requires-clause-change : goal.keep-requires-clause-change
keep-requires-clause-change c =
    let edits = c.args.edits.now.items in let rows = c.args.rows.now in let name = c.args.name.now in let tick = c.args.tick in
    let log : LogValue = log_with rows.extent edits in
    let tick-is : tick_of name rows.rows ≡ Some tick = sym (ap (edited_tick rows.rows) c.requires.parts) ∙ c.requires.accepted.tick_is in
    let found : IsFound (row_of name rows.rows) tick c.in-Some.place.1 = place-found (row_of name rows.rows) c.in-Some.place tick c.in-Some.ensures tick-is in
    let here : row_of name (current_rows edits) ≡ Some found.row = ap (λ (r : RowsValue). row_of name r.rows) (sym c.requires.kept.rows) ∙ found.is in
    let x = c.args.x.now in
    let key : key_at found.row.tick found.row.birth ≡ key_at tick c.in-Some.place.1 = ap (λ (t : ℕ). key_at t found.row.birth) found.at ∙ ap (key_at tick) found.born in
    let named : found.row.name ≡ name = found-name name found.row rows.rows found.is in
    let row : c.new-row.result ≡ record found.row { x = x } =
    c.new-row.ensures ∙ ap (λ (n : List ℕ). record { name = n; tick = tick; birth = c.in-Some.place.1; x = c.in_ok-copy-2.field-0 }) (c.in_ok-copy.ensures ∙ sym named)
    ∙ ap (λ (p : Parts). record { name = found.row.name; tick = tick; birth = c.in-Some.place.1; x = p }) c.in_ok-copy-2.ensures
    ∙ ap (λ (t : ℕ). record { name = found.row.name; tick = t; birth = c.in-Some.place.1; x = x }) (sym found.at)
    ∙ ap (λ (b : ℕ). record { name = found.row.name; tick = found.row.tick; birth = b; x = x }) (sym found.born) in
    ap (λ (e : Edit). edited (length edits + 1) e (current_rows edits)) c.requires.parts ∙ correct-change log c.requires.kept.log_is c.requires.room name x found.row here
    ∙ ap (λ (k : ℕ). with_at k (record found.row { x = x } ∷ []) (current_rows edits)) key
    ∙ ap (λ (r : RowValue). with_at (key_at tick c.in-Some.place.1) (r ∷ []) (current_rows edits)) (sym row)

pub returns-clause-kept : goal.returns-clause-kept
returns-clause-kept c =
    let edits = c.args.edits.now.items in let rows = c.args.rows.now in
    let moved : Parts → RowsValue = λ x. record { extent = rows.extent; rows = with_move c.args.name.now x rows.rows } in
    let took : Edit → RowsValue = λ e. record { extent = rows.extent; rows = edited (length edits + 1) e rows.rows } in
    kept-next edits c.keep.new.edits.items c.args.line.now c.keep.new.line rows c.correct.new.self c.requires.kept c.in_ok-keep.ensures.past (record { edit = c.args.e.now; tick = c.args.tick }) c.in_ok-keep.ensures.ok
    c.requires.edit c.requires.tick c.requires.accepted (c.correct.ensures.rows ∙ ap moved c.in_ok-x.ensures ∙ ap took (sym c.requires.parts))
