use Rattle.std.proofs.Common.{arith}
use Rattle.functionals.proofs.Shares.{fitting-bound}
use Rattle.functionals.proofs.value.value_within.Goals as goal

pub unreachable-requires : goal.unreachable-requires
unreachable-requires c =
    omega (arith, c.in-Err.ensures.overflow.1, fitting-bound c.args.f.now.extent c.args.s.now.weight c.args.f.now.terms c.terms-terms.ensures.functional c.requires.small c.requires.fits)
