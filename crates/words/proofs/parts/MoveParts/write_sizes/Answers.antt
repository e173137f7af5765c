use Rattle.std.proofs.Common.{arith}
use Rattle.words.proofs.MoveSizes.{sizes-are}
use Rattle.words.proofs.parts.MoveParts.write_sizes.Goals as goal

pub returns-clause-value : goal.returns-clause-value
returns-clause-value c =
    sizes-are c.loop-k.sizes c.args.self.now (omega (arith, c.loop-k.auto.sizes, c.requires))
    (λ i h. c.loop-k.invariant.front i (omega (arith, h, c.shape.ensures.deep, c.depth-depth.ensures.value, c.loop-k-test.false)))
