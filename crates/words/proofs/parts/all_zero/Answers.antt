use Rattle.std.proofs.Common.{◌≡◌, ◌∙◌, ap, sym, arith, get_or, ℤ, pos, to_z, of_z, to_z-of_z, FitsSigned, w64, unsigned_abs, rules}
use Rattle.std.proofs.lemmas.Int.{ints}
use Rattle.words.proofs.MoveSizes.{total-take_more, entry-le-total}
use Rattle.words.proofs.parts.all_zero.Goals as goal

pub returns-then-entry-ne0 : goal.returns-then-entry-ne0
returns-then-entry-ne0 c =
    let entry : ℤ = get_or c.args.entries.now c.loop-entry.entry-index (pos 0) in (
      (λ no. cc),
      (λ none.
          let zero' : entry ≡ pos 0 = omega (arith, ints, entry-le-total c.args.entries.now c.loop-entry.entry-index, none) in
          absurd (c.if-entry-ne0.true (ap (of_z w64) zero'))),
    )

pub loop-entry-preserved : goal.loop-entry-preserved
loop-entry-preserved c =
    let entry : ℤ = get_or c.args.entries.now c.loop-entry.entry-index (pos 0) in
    let narrow : FitsSigned w64 entry = search rules in
    let zero' : entry ≡ pos 0 = sym (to_z-of_z narrow) ∙ ap (to_z w64) c.if-entry-ne0.false in
    omega (arith, total-take_more c.args.entries.now c.loop-entry.entry-index c.loop-entry-test.true, c.loop-entry.invariant, ap unsigned_abs zero')
