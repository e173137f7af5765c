use Rattle.std.proofs.Common.{sym, not, subst}
use Rattle.std.specs.Prelude.{All}
use Rattle.std.specs.BTreeMap.{values}
use Rattle.std.proofs.lemmas.List.Elements.{All-filter}
use Rattle.definitions.specs.Moves.{IsMove}
use Rattle.definitions.specs.Rows.{RowValue}
use Rattle.increments.specs.Edits.{is_named}
use Rattle.increments.proofs.Edits.{live, unremoved}
use Rattle.increments.proofs.rows.Rows.remove.Goals as goal

pub invariant_of-self : goal.invariant_of-self
invariant_of-self c = (
  c.remove_row.ensures.tied,
  subst (All (λ (row : RowValue). IsMove c.self.inside.shape row.x)) (sym c.remove_row.ensures.rows)
      (All-filter (λ (row : RowValue). not (is_named c.text.result.now row)) (λ (row : RowValue). IsMove c.self.inside.shape row.x) (values c.self.inside.rows) c.self.invariant.1),
)

pub returns-clause-live : goal.returns-clause-live
returns-clause-live c =
    rw (← c.text.ensures, ← c.self.view_is) (live (λ (row : RowValue). row.tick) c.text.result.now (values c.self.inside.rows) c.remove_row.result c.remove_row.ensures.tick)

pub returns-clause-none : goal.returns-clause-none
returns-clause-none c =
    rw (← c.self.view_is)
    (unremoved c.self.inside.shape c.text.result.now (values c.self.inside.rows) (values c.remove_row.new.rows) c.remove_row.result c.remove_row.ensures.tick c.remove_row.ensures.rows)
