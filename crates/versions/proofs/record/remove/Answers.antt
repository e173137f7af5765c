use Rattle.std.proofs.Common.{◌≡◌, ◌∙◌, ◌+◌, ℕ, [], length, ap, sym, arith, Some}
use Rattle.increments.specs.Edits.{RowsValue, row_of, tick_of}
use Rattle.timeline.specs.Keys.{key_at, with_at}
use Rattle.versions.specs.declared.edit.Edit.{Edit}
use Rattle.versions.specs.Versions.{LogValue, edited, edited_tick, current_rows}
use Rattle.versions.specs.Pasts.{log_with}
use Rattle.versions.proofs.Pasts.{remove-change}
use Rattle.versions.proofs.Kept.{kept-next, IsFound, place-found, found-born}
use Rattle.versions.proofs.record.remove.Goals as goal

pub keep-requires-clause-birth : goal.keep-requires-clause-birth
keep-requires-clause-birth c =
    let edits = c.args.edits.now.items in let rows = c.args.rows.now in let name = c.args.name.now in let tick = c.args.tick in
    let log : LogValue = log_with rows.extent edits in
    let tick-is : tick_of name rows.rows ≡ Some tick = sym (ap (edited_tick rows.rows) c.requires.parts) ∙ c.requires.accepted.tick_is in
    let found : IsFound (row_of name rows.rows) tick c.in-Some.place.1 = place-found (row_of name rows.rows) c.in-Some.place tick c.in-Some.ensures tick-is in
    let here : row_of name (current_rows edits) ≡ Some found.row = ap (λ (r : RowsValue). row_of name r.rows) (sym c.requires.kept.rows) ∙ found.is in
    omega (arith, found-born log name found.row c.requires.kept.log_is here, found.born)

pub keep-requires-clause-old : goal.keep-requires-clause-old
keep-requires-clause-old c _ =
    let edits = c.args.edits.now.items in let rows = c.args.rows.now in let name = c.args.name.now in let tick = c.args.tick in
    let log : LogValue = log_with rows.extent edits in
    let tick-is : tick_of name rows.rows ≡ Some tick = sym (ap (edited_tick rows.rows) c.requires.parts) ∙ c.requires.accepted.tick_is in
    let found : IsFound (row_of name rows.rows) tick c.in-Some.place.1 = place-found (row_of name rows.rows) c.in-Some.place tick c.in-Some.ensures tick-is in
    let here : row_of name (current_rows edits) ≡ Some found.row = ap (λ (r : RowsValue). row_of name r.rows) (sym c.requires.kept.rows) ∙ found.is in
    omega (arith, found-born log name found.row c.requires.kept.log_is here, found.born)

pub keep-requires-clause-change : goal.keep-requires-clause-change
keep-requires-clause-change c =
    let edits = c.args.edits.now.items in let rows = c.args.rows.now in let name = c.args.name.now in let tick = c.args.tick in
    let log : LogValue = log_with rows.extent edits in
    let tick-is : tick_of name rows.rows ≡ Some tick = sym (ap (edited_tick rows.rows) c.requires.parts) ∙ c.requires.accepted.tick_is in
    let found : IsFound (row_of name rows.rows) tick c.in-Some.place.1 = place-found (row_of name rows.rows) c.in-Some.place tick c.in-Some.ensures tick-is in
    let here : row_of name (current_rows edits) ≡ Some found.row = ap (λ (r : RowsValue). row_of name r.rows) (sym c.requires.kept.rows) ∙ found.is in
    let key : key_at found.row.tick found.row.birth ≡ key_at tick c.in-Some.place.1 = ap (λ (t : ℕ). key_at t found.row.birth) found.at ∙ ap (key_at tick) found.born in
    ap (λ (e : Edit). edited (length edits + 1) e (current_rows edits)) c.requires.parts ∙ remove-change log c.requires.kept.log_is c.requires.room name found.row here
    ∙ ap (λ (k : ℕ). with_at k [] (current_rows edits)) key

pub returns-clause-kept : goal.returns-clause-kept
returns-clause-kept c =
    let edits = c.args.edits.now.items in let rows = c.args.rows.now in
    let took : Edit → RowsValue = λ e. record { extent = rows.extent; rows = edited (length edits + 1) e rows.rows } in
    kept-next edits c.keep.new.edits.items c.args.line.now c.keep.new.line rows c.remove.new.self c.requires.kept c.in_ok-keep.ensures.past (record { edit = c.args.e.now; tick = c.args.tick }) c.in_ok-keep.ensures.ok
    c.requires.edit c.requires.tick c.requires.accepted (c.remove.ensures.rows ∙ ap took (sym c.requires.parts))
