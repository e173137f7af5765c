use Rattle.std.proofs.Common.{◌≡◌, ◌∙◌, refl, sym, ap, subst}
use Rattle.std.specs.Prelude.{All, Err, Result}
use Rattle.std.specs.BTreeMap.{values}
use Rattle.std.proofs.lemmas.Result.{err_from_is_err_and}
use Rattle.definitions.specs.Moves.{IsMove}
use Rattle.definitions.specs.Rows.{RowValue}
use Rattle.increments.specs.declared.fault.RowFault.{RowFault}
use Rattle.increments.specs.declared.fault.RowFault.TheVariants.{NameTaken, Memory}
use Rattle.increments.specs.Edits.{RowsValue}
use Rattle.increments.specs.Tables.{place_of}
use Rattle.increments.proofs.Edits.{refused, not_refused, All-with_row}
use Rattle.increments.proofs.rows.Rows.append.Goals as goal

pub returns-then-is_some-clause-taken : goal.returns-then-is_some-clause-taken
returns-then-is_some-clause-taken c =
    rw (← c.text.ensures, ← c.self.view_is)
    (refused place_of c.text.result.now (values c.self.inside.rows) c.place_at.result c.place_at.ensures (Err NameTaken) (sym c.if-is_some.ensures) refl)

pub invariant_of-self-2 : goal.invariant_of-self-2
invariant_of-self-2 c =
    let move : IsMove c.self.inside.shape c.args.x.now = subst (λ (v : RowsValue). IsMove v.extent c.args.x.now) (sym c.self.view_is) c.requires.shape in
    let row : RowValue = record { name = c.args.name.now; tick = c.args.tick; birth = c.args.birth; x = c.args.x.now } in (
      c.insert_copy.ensures.tied,
      subst (All (λ (r : RowValue). IsMove c.self.inside.shape r.x)) (sym c.in_ok-insert_copy.ensures.ok)
          (All-with_row (λ (r : RowValue). IsMove c.self.inside.shape r.x) row (values c.self.inside.rows) move c.self.invariant.1),
    )

pub returns-clause-taken : goal.returns-clause-taken
returns-clause-taken c =
    rw (← c.text.ensures, ← c.self.view_is)
    (not_refused place_of c.text.result.now (values c.self.inside.rows) c.place_at.result c.place_at.ensures (Result.Ok tt) (sym c.if-is_some.ensures) (λ h. absurd (cc)))

memory-apart : (r : Result (Unit {0}) RowFault) → r ≡ Err Memory → r ≡ Err NameTaken → ⊥
memory-apart r is taken = let h : ◌≡◌ {A = Result (Unit {0}) RowFault} (Err Memory) (Err NameTaken) = sym is ∙ taken in cc

pub returns-in_err-insert_copy-clause-taken : goal.returns-in_err-insert_copy-clause-taken
returns-in_err-insert_copy-clause-taken c =
    let p = err_from_is_err_and c.from_residual.result c.from_residual.ensures.1 in
    rw (← c.text.ensures, ← c.self.view_is)
    (not_refused place_of c.text.result.now (values c.self.inside.rows) c.place_at.result c.place_at.ensures c.from_residual.result (sym c.if-is_some.ensures)
    (memory-apart c.from_residual.result (p.1 ∙ ap Err p.2)))
