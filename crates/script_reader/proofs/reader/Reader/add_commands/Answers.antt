use Rattle.std.proofs.Common.{◌≡◌, ◌∙◌, ◌∷◌, length, ap, arith}
use Rattle.std.specs.Vec.Iter.{into_iter_items}
use Rattle.script_reader.proofs.Adding.{adds_next}
use Rattle.script_reader.proofs.reader.Reader.add_commands.Goals as goal

pub loop-command-preserved : goal.loop-command-preserved
loop-command-preserved c =
    let at = c.loop-command in
    let steps : into_iter_items at.command-iterator ≡ c.in-Some.command ∷ into_iter_items c.next.new.self = c.in-Some.ensures.steps.0 in
    let fewer = c.in-Some.ensures.steps.1 in
    let longer = ap length steps in
    record {
      adding = adds_next _ _ _ _ _ _ _ _ _ _ _ (rw steps at at.invariant.adding) c.in_ok-add_command.ensures.added.0 c.in_ok-add_command.ensures.added.1
          (ap (λ watches. watches.items) c.in_ok-add_command.ensures.watches);
      counts = c.in_ok-add_command.ensures.counts ∙ at.invariant.counts;
      watches = c.in_ok-add_command.ensures.watches ∙ at.invariant.watches;
      count = omega (arith, at.invariant.count);
    }
