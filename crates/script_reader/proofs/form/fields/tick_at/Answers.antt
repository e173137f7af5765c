use Rattle.std.proofs.Common.{ap, ◌∙◌}
use Rattle.spellings.specs.Numbers.{tick_up_to}
use Rattle.script_reader.proofs.Fields.{tick_is}
use Rattle.script_reader.proofs.form.fields.tick_at.Goals as goal

pub returns : goal.returns
returns c = tick_is c.args.most _ _ (c.tick.ensures ∙ ap (tick_up_to c.args.most) c.word_at.ensures)
