use Rattle.std.proofs.Common.{ap, ◌∙◌}
use Rattle.spellings.specs.Numbers.{plain_up_to}
use Rattle.script_reader.proofs.Fields.{version_is}
use Rattle.script_reader.proofs.form.fields.version_at.Goals as goal

pub returns : goal.returns
returns c = version_is _ _ (c.plain_number.ensures ∙ ap (plain_up_to 18446744073709551615) c.word_at.ensures)
