use Rattle.std.proofs.Common.{◌≡◌, sym, subst, List}
use Rattle.std.specs.Prelude.{All}
use Rattle.std.specs.BTreeMap.{values}
use Rattle.std.proofs.lemmas.Result.{IfOk-weaker}
use Rattle.std.proofs.lemmas.List.Elements.{All-filter}
use Rattle.definitions.specs.Moves.{IsMove}
use Rattle.definitions.specs.Rows.{RowValue, lies_in, rows_in}
use Rattle.increments.specs.Edits.{IsBefore, IsInOrder}
use Rattle.increments.proofs.Order.{tied-in_order}
use Rattle.std.proofs.lemmas.List.Kept.{AllPairs-filter}
use Rattle.increments.proofs.rows.Rows.copy_in.Goals as goal

pub returns-clause-moves : goal.returns-clause-moves
returns-clause-moves c =
    rw (← c.self.view_is)
    (IfOk-weaker c.copies_between.result (λ (list : List RowValue). list ≡ rows_in c.args.from c.args.to (values c.self.inside.rows))
    (λ (list : List RowValue). All (λ (row : RowValue). IsMove c.self.inside.shape row.x) list)
    (λ list h.
    subst (All (λ (row : RowValue). IsMove c.self.inside.shape row.x)) (sym h)
    (All-filter (λ (row : RowValue). lies_in c.args.from c.args.to row.tick) (λ (row : RowValue). IsMove c.self.inside.shape row.x) (values c.self.inside.rows) c.self.invariant.1))
    c.copies_between.ensures)

pub returns-clause-order : goal.returns-clause-order
returns-clause-order c =
    IfOk-weaker c.copies_between.result (λ (list : List RowValue). list ≡ rows_in c.args.from c.args.to (values c.self.inside.rows)) IsInOrder
    (λ list h.
    subst IsInOrder (sym h)
    (AllPairs-filter IsBefore (λ (row : RowValue). lies_in c.args.from c.args.to row.tick) (values c.self.inside.rows)
    (tied-in_order c.self.inside.rows c.self.inside.names c.self.invariant.0)))
    c.copies_between.ensures
