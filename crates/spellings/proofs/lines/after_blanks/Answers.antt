use Rattle.std.proofs.Common.{ap, drop, sym, ◌∙◌}
use Rattle.std.proofs.lemmas.List.{take_rest}
use Rattle.spellings.proofs.LineLaws.{after_blanks_is}
use Rattle.spellings.proofs.lines.after_blanks.Goals as goal

pub returns : goal.returns
returns c =
    take_rest c.args.line.now c.count_blanks.result ∙ ap (λ n. drop n c.args.line.now) c.count_blanks.ensures.value ∙ sym (after_blanks_is c.args.line.now)
