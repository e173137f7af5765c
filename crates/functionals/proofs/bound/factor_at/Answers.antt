use Rattle.std.proofs.Common.{◌≡◌, ◌≤◌, ◌*◌, ◌^◌, ◌∙◌, ap, arith, ℕ}
use Rattle.definitions.specs.Words.{Extent}
use Rattle.functionals.proofs.Shares.{share-small, factor-small}
use Rattle.functionals.proofs.Values.{part_of}
use Rattle.functionals.proofs.bound.factor_at.Goals as goal
use Rattle.functionals.proofs.bound.factor_at.Goals.{After-mass}

share : (c : After-mass) → c.part_of.result * c.mass.result ≤ 40320 * 2 ^ 47
share c =
    let depth : c.depth-depth.result ≡ c.args.f.now.extent.depth = c.depth-depth.ensures.value ∙ ap (λ (e : Extent). e.depth) c.shape.ensures.value in
    let small : part_of c.args.f.now.extent.depth c.args.k * c.mass.result ≤ 40320 * 2 ^ 47 =
    share-small c.args.f.now.extent.depth c.args.k c.mass.result c.args.f.now.terms c.shape.ensures.shape.within_depth c.requires.within c.requires.small c.mass.ensures.value in
    omega (arith, small, ap (λ (m : ℕ). m * c.mass.result) (c.part_of.ensures.value ∙ ap (λ (n : ℕ). part_of n c.args.k) depth))

pub overflow_mul-most : goal.overflow_mul-most
overflow_mul-most c = omega (arith, share c)

pub overflow_mul-depth : goal.overflow_mul-depth
overflow_mul-depth c = omega (arith, factor-small c.depth-depth.result (c.part_of.result * c.mass.result) (omega (arith, c.depth-depth.ensures.shape.within_depth)) (share c))
