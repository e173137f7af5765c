use Rattle.std.proofs.Common.{ap, ◌∙◌}
use Rattle.spellings.specs.Numbers.{plain_up_to}
use Rattle.script_reader.proofs.Fields.{number_is}
use Rattle.script_reader.proofs.form.fields.number_at.Goals as goal

pub returns : goal.returns
returns c = number_is _ _ (c.plain_number.ensures ∙ ap (plain_up_to 4294967295) c.word_at.ensures)
