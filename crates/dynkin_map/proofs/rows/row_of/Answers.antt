use Rattle.std.proofs.Common.{◌-◌, ◌∙◌, ℕ, sym, ap, arith, length, take, drop, get_or}
use Rattle.dynkin_map.proofs.RowLaws.{row-at, ends-in_order}
use Rattle.dynkin_map.proofs.rows.row_of.Goals as goal

pub part-requires-clause-order : goal.part-requires-clause-order
part-requires-clause-order c = omega (arith, c.start_of.ensures, (ends-in_order 0 c.args.ends.now (length c.args.terms.now) c.args.at c.requires.ends c.requires.at).0)

pub part-requires-clause-end : goal.part-requires-clause-end
part-requires-clause-end c = (ends-in_order 0 c.args.ends.now (length c.args.terms.now) c.args.at c.requires.ends c.requires.at).1

pub returns : goal.returns
returns c =
    c.part.ensures
    ∙ ap (λ (from : ℕ). take (get_or c.args.ends.now c.args.at 0 - from) (drop from c.args.terms.now)) c.start_of.ensures
    ∙ sym (row-at c.args.terms.now 0 c.args.ends.now c.args.at c.requires.at)
