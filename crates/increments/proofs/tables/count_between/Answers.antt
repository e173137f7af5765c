use Rattle.std.proofs.Common.{◌≡◌, ◌∙◌, sym, ap, length, rules}
use Rattle.std.proofs.lemmas.Map.Entries.{length-values_of}
use Rattle.increments.proofs.Ranges.{rows_between}
use Rattle.increments.proofs.tables.count_between.Goals as goal

pub returns : goal.returns
returns c =
    let counted : c.count.result ≡ length c.range.result = search rules in
    counted ∙ sym (length-values_of c.range.result)
    ∙ ap length (rows_between c.args.rows.now c.args.names.now c.args.from c.args.to c.range.result c.requires.tied (c.range.ensures.between tt))
