use Rattle.std.proofs.Common.{◌≡◌, ◌∙◌, ◌+◌, ◌<◌, ℕ, [], ◌∷◌, length, List, ap, sym, subst, arith, false, inl, inr}
use Rattle.std.specs.Prelude.{All}
use Rattle.std.proofs.lemmas.Bool.{cases_Bool}
use Rattle.definitions.specs.Moves.{Parts}
use Rattle.definitions.specs.Rows.{RowValue, with_row, is_live}
use Rattle.increments.specs.Edits.{RowsValue, without}
use Rattle.timeline.specs.Keys.{key_at, with_at}
use Rattle.versions.specs.declared.edit.Edit.{Edit}
use Rattle.versions.specs.Versions.{LogValue, edited, current_rows}
use Rattle.versions.specs.Pasts.{log_with}
use Rattle.versions.proofs.Births.{younger}
use Rattle.versions.proofs.Removals.{without-with_row}
use Rattle.versions.proofs.Pasts.{append-change}
use Rattle.versions.proofs.Kept.{kept-next, kept-same}
use Rattle.versions.proofs.record.append.Goals as goal

pub append-requires-clause-birth : goal.append-requires-clause-birth
append-requires-clause-birth c =
    let edits = c.args.edits.now.items in
    let log : LogValue = log_with c.args.rows.now.extent edits in
    let count : length edits ≡ c.len.result = omega (arith, c.len.ensures, c.args.edits.now.ok.0) in
    subst (λ (r : RowsValue). All (λ (row : RowValue). row.birth < c.len.result + 1) r.rows) (sym c.requires.kept.rows)
    (subst (λ n. All (λ (row : RowValue). row.birth < n + 1) (current_rows edits)) count (younger log (length edits) c.requires.kept.log_is (omega arith)))

pub keep-requires-clause-change : goal.keep-requires-clause-change
keep-requires-clause-change c =
    let edits = c.args.edits.now.items in let tick = c.args.tick in let name = c.args.name.now in let x = c.args.x.now in
    let log : LogValue = log_with c.args.rows.now.extent edits in
    let count : length edits ≡ c.len.result = omega (arith, c.len.ensures, c.args.edits.now.ok.0) in
    let row : c.new-row.result ≡ record { name = name; tick = tick; birth = c.len.result + 1; x = x } =
    c.new-row.ensures ∙ ap (λ (n : List ℕ). record { name = n; tick = tick; birth = c.len.result + 1; x = c.in_ok-copy-2.field-0 }) c.in_ok-copy.ensures
    ∙ ap (λ (p : Parts). record { name = name; tick = tick; birth = c.len.result + 1; x = p }) c.in_ok-copy-2.ensures in
    ap (λ (e : Edit). edited (length edits + 1) e (current_rows edits)) c.requires.parts ∙ append-change log c.requires.kept.log_is c.requires.room name tick x
    ∙ ap (λ (n : ℕ). with_at (key_at tick (n + 1)) ((record { name = name; tick = tick; birth = n + 1; x = x }) ∷ []) (current_rows edits)) count
    ∙ ap (λ (r : RowValue). with_at (key_at tick (c.len.result + 1)) (r ∷ []) (current_rows edits)) (sym row)

pub returns-in-Ok-keep-clause-kept : goal.returns-in-Ok-keep-clause-kept
returns-in-Ok-keep-clause-kept c =
    let edits = c.args.edits.now.items in let rows = c.args.rows.now in
    let count : length edits ≡ c.len.result = omega (arith, c.len.ensures, c.args.edits.now.ok.0) in
    let born : ℕ → RowsValue = λ n. record { extent = rows.extent; rows = with_row (record { name = c.args.name.now; tick = c.args.tick; birth = n + 1; x = c.args.x.now }) rows.rows } in
    let took : Edit → RowsValue = λ e. record { extent = rows.extent; rows = edited (length edits + 1) e rows.rows } in
    kept-next edits c.keep.new.edits.items c.args.line.now c.keep.new.line rows c.append.new.self c.requires.kept c.in-Ok-keep.ensures.past (record { edit = c.args.e.now; tick = c.args.tick }) c.in-Ok-keep.ensures.ok c.requires.edit
    c.requires.tick c.requires.accepted (c.in-Ok.ensures.ok ∙ ap born (sym count) ∙ ap took (sym c.requires.parts))

pub returns-in-Err-clause-kept : goal.returns-in-Err-clause-kept
returns-in-Err-clause-kept c =
    let edits = c.args.edits.now.items in let rows = c.args.rows.now in
    let row : RowValue = record { name = c.args.name.now; tick = c.args.tick; birth = c.len.result + 1; x = c.args.x.now } in
    let free : is_live c.args.name.now rows.rows ≡ false =
    elim (cases_Bool (is_live c.args.name.now rows.rows)) [ inl live ↦ (let taken = c.in-Ok.ensures.taken.1 live in absurd (cc)) | inr free ↦ free ] in
    let removed : RowsValue → RowsValue = λ r. record { extent = r.extent; rows = without c.args.name.now r.rows } in
    let with_rows : List RowValue → RowsValue = λ rs. record { extent = rows.extent; rows = rs } in
    kept-same edits c.keep.new.edits.items c.args.line.now c.keep.new.line rows c.remove.new.self c.requires.kept c.in-Err.ensures.past c.in-Err.ensures.err
    (c.remove.ensures.rows ∙ ap removed c.in-Ok.ensures.ok ∙ ap with_rows (without-with_row row rows.rows free))
