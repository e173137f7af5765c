use Rattle.std.proofs.Common.{◌∙◌}
use Rattle.solve.proofs.LieRows.{terms-value, not-refused, level-fits}
use Rattle.solve.proofs.lie_rows.tensor_of.Goals as goal

pub unreachable-requires : goal.unreachable-requires
unreachable-requires c =
    not-refused c.args.hall.now c.args.x.now c.in_ok-terms.terms.items c.in-Err.field-0 c.requires.shape.some_depth c.requires.small c.in_ok-terms.ensures c.in-Err.ensures.fault

pub returns-in-Ok-expand-clause-value : goal.returns-in-Ok-expand-clause-value
returns-in-Ok-expand-clause-value c =
    λ word is_word. c.in-Ok-expand.ensures.value word is_word
    ∙ terms-value c.args.hall.now c.args.x.now c.in-Ok.element word c.requires.move_of (c.in-Ok.ensures.terms ∙ c.in_ok-terms.ensures)

pub unreachable-requires-in-Err-Level : goal.unreachable-requires-in-Err-Level
unreachable-requires-in-Err-Level c =
    let past = rw c.in-Err-Level.field-0-is at c.in-Err-Level.ensures.fault in
    past.2 (level-fits c.args.hall.now c.args.x.now c.in-Ok.element c.in-Err-Level.field-0-0 c.requires.shape.within_depth c.requires.small (c.in-Ok.ensures.terms ∙ c.in_ok-terms.ensures) past.1)
