use Rattle.std.proofs.Common.{◌/◌, ◌<◌, ◌^◌, ◌∙◌, ◌-ℤ◌, ap, arith, ℤ, pos, to_z, of_z, to_z-of_z}
use Rattle.std.proofs.lemmas.Int.{ints, to_z_pos, fits_signed_from_abs}
use Rattle.std.proofs.Math.Nat.{div-le_self}
use mir.Syntax.{w128}
use Rattle.exp_log.proofs.Factors.{factor-odd, factor-even}
use Rattle.exp_log.proofs.horner.log_factor.Goals as goal

pub returns-then-m-eq1-clause-value : goal.returns-then-m-eq1-clause-value
returns-then-m-eq1-clause-value c =
    to_z_pos w128 (c.lcm_to.result / c.args.m) (omega (arith, div-le_self c.lcm_to.result c.args.m, c.lcm_to.type_inv))
    ∙ factor-odd c.args.m c.args.k c.lcm_to.result c.requires.some (omega (arith, c.if-m-eq1.true)) c.lcm_to.ensures

pub returns-else-m-eq1-clause-value : goal.returns-else-m-eq1-clause-value
returns-else-m-eq1-clause-value c =
    let small : c.lcm_to.result / c.args.m < 2 ^ 127 = omega (arith, div-le_self c.lcm_to.result c.args.m, c.lcm_to.type_inv) in
    ap (λ (z : ℤ). to_z w128 (of_z w128 (pos 0 -ℤ z))) (to_z_pos w128 (c.lcm_to.result / c.args.m) small)
    ∙ to_z-of_z (fits_signed_from_abs w128 (pos 0 -ℤ pos (c.lcm_to.result / c.args.m)) (omega (arith, ints, small)))
    ∙ factor-even c.args.m c.args.k c.lcm_to.result c.requires.some c.if-m-eq1.false c.lcm_to.ensures
