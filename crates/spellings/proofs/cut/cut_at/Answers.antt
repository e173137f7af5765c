use Rattle.std.proofs.Common.{◌==◌, take, ap, arith}
use Rattle.std.proofs.lemmas.Grind.{common_steps}
use Rattle.spellings.proofs.Places.{found_first}
use Rattle.spellings.proofs.cut.cut_at.Goals as goal

pub returns : goal.returns
returns c =
    let first = found_first (λ d. d == c.args.byte) c.args.bytes.now c.in_ok-place.place c.in_ok-place.ensures.value in
    (first.0, ap (λ place. take place c.args.bytes.now) first.1, grind (arith, common_steps, first.1))
