use Rattle.increments.proofs.Order.{tied-in_order}
use Rattle.increments.proofs.rows.Rows.shape.Goals as goal

pub returns-clause-order : goal.returns-clause-order
returns-clause-order c = rw (← c.self.view_is) (tied-in_order c.self.inside.rows c.self.inside.names c.self.invariant.0)
