use Rattle.std.proofs.Common.{sym, subst}
use Rattle.std.specs.Prelude.{All}
use Rattle.std.specs.BTreeMap.{values}
use Rattle.definitions.specs.Moves.{IsMove}
use Rattle.definitions.specs.Rows.{RowValue}
use Rattle.increments.specs.Edits.{RowsValue}
use Rattle.increments.proofs.Edits.{live, uncorrected, All-with_move}
use Rattle.increments.proofs.rows.Rows.correct.Goals as goal

pub invariant_of-self : goal.invariant_of-self
invariant_of-self c =
    let move : IsMove c.self.inside.shape c.args.x = subst (λ (v : RowsValue). IsMove v.extent c.args.x) (sym c.self.view_is) c.requires in (
      c.correct_row.ensures.tied,
      subst (All (λ (row : RowValue). IsMove c.self.inside.shape row.x)) (sym c.correct_row.ensures.rows)
          (All-with_move (λ (row : RowValue). IsMove c.self.inside.shape row.x) c.text.result.now c.args.x (values c.self.inside.rows) (λ r _. move) c.self.invariant.1),
    )

pub returns-clause-live : goal.returns-clause-live
returns-clause-live c =
    rw (← c.text.ensures, ← c.self.view_is) (live (λ (row : RowValue). row.tick) c.text.result.now (values c.self.inside.rows) c.correct_row.result c.correct_row.ensures.tick)

pub returns-clause-none : goal.returns-clause-none
returns-clause-none c =
    rw (← c.self.view_is)
    (uncorrected c.self.inside.shape c.text.result.now (values c.self.inside.rows) (values c.correct_row.new.rows) c.args.x c.correct_row.result c.correct_row.ensures.tick c.correct_row.ensures.rows)
