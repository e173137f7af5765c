use Rattle.std.proofs.Common.{◌≡◌, ◌∙◌, ◌+◌, ◌^◌, ◌%◌, ℕ, ℤ, ap, pos, rules, SFits}
use Rattle.std.specs.Prelude.{unsigned_abs}
use Rattle.std.specs.Int.{w128, int_rem_euclid}
use Rattle.std.proofs.lemmas.Int.{to_z-of_z}
use Rattle.answers.proofs.ModularSums.{remainder-is, mod-added}
use Rattle.answers.proofs.summary.with_value.Goals as goal

pub returns : goal.returns
returns c =
    let fits : SFits w128 c.rem_euclid.result = search rules in
    let rest : c.rem_euclid.result ≡ int_rem_euclid c.args.value (pos (2 ^ 64)) = c.rem_euclid.ensures.value ∙ ap (λ (z : ℤ). int_rem_euclid z (pos (2 ^ 64))) (to_z-of_z w128 c.args.value c.ranges.value) in
    ap (λ (z : ℤ). (c.args.sum + unsigned_abs z) % 2 ^ 64) (to_z-of_z w128 c.rem_euclid.result fits ∙ rest)
    ∙ ap (λ (n : ℕ). (c.args.sum + n) % 2 ^ 64) (remainder-is c.args.value)
    ∙ mod-added c.args.sum c.args.value
