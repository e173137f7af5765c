use Rattle.std.proofs.Common.{◌≡◌, ◌∙◌, ap, arith, get_or, ℤ, pos, to_z-of_z, FitsSigned, w64, unsigned_abs, rules}
use Rattle.words.proofs.Greatest.{greatest-take_more}
use Rattle.words.proofs.parts.greatest_entry.Goals as goal

pub loop-entry-preserved : goal.loop-entry-preserved
loop-entry-preserved c =
    let entry : ℤ = get_or c.args.entries.now c.loop-entry.entry-index (pos 0) in
    let narrow : FitsSigned w64 entry = search rules in
    let absolute : c.unsigned_abs.result ≡ unsigned_abs entry = c.unsigned_abs.ensures.value ∙ ap unsigned_abs (to_z-of_z narrow) in
    record {
      value = omega (arith, c.max-weight.ensures, absolute, greatest-take_more c.args.entries.now c.loop-entry.entry-index c.loop-entry-test.true, c.loop-entry.invariant.value);
      bound = omega (arith, c.max-weight.ensures, c.unsigned_abs.ensures.bound, c.loop-entry.invariant.bound);
    }
