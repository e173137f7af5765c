use Rattle.std.proofs.Common.{◌≡◌, ◌≤◌, ap, arith}
use Rattle.definitions.specs.Words.{Extent}
use Rattle.words.proofs.Bounds.{power-fits}
use Rattle.words.proofs.shape.Shape.count.Goals as goal

pub pow-requires : goal.pow-requires
pow-requires c =
    let depth : c.self.inside.depth ≡ c.args.self.now.depth = ap (λ (e : Extent). e.depth) c.self.view_is in
    let short : c.args.k ≤ 9 = omega (arith, depth, c.requires, c.self.invariant.within_depth) in
    omega (arith, power-fits c.self.inside.width c.args.k c.self.invariant.within_width short)
