use Rattle.std.proofs.lemmas.List.{drop-map, take_rest}
use Rattle.script_reader.proofs.form.fields.ticks_from.Goals as goal

pub returns : goal.returns
returns c = rw (drop-map, ← take_rest c.args.words.now c.args.place) c.ticks_in.ensures
