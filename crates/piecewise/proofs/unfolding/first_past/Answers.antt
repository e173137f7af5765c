use Rattle.std.proofs.Common.{◌≤◌, ◌*◌, ◌+◌, ◌^◌, ap, ap₂, arith, ℕ}
use Rattle.definitions.specs.Words.{Extent}
use Rattle.definitions.specs.Signature.{limit}
use Rattle.definitions.specs.Logarithm.{log_bound}
use Rattle.scaled_tensor.specs.Tensors.{coefficient}
use Rattle.piecewise.specs.Faults.{IsLogLevel}
use Rattle.piecewise.proofs.Rooms.{fits-power, fits-log_at}
use Rattle.piecewise.proofs.LevelSteps.{each-none}
use Rattle.piecewise.proofs.unfolding.first_past.Goals as goal

pub loop-before-init : goal.loop-before-init
loop-before-init c = each-none (IsLogLevel c.args.log.now.extent (coefficient c.args.log.now) c.args.weight)

pub pow-requires : goal.pow-requires
pow-requires c =
    let k : ℕ = c.loop-before.before + 1 in
    let within : k ≤ c.args.log.now.extent.depth = omega (arith, c.loop-before-test.true, c.depth-before-end.ensures.value, ap (λ (e : Extent). e.depth) c.shape.ensures.value) in
    omega (arith, fits-power c.args.weight c.args.log.now.extent.depth k c.requires (omega arith) within c.shape.ensures.shape.within_depth)

pub overflow_mul-pow : goal.overflow_mul-pow
overflow_mul-pow c =
    let k : ℕ = c.loop-before.before + 1 in
    let within : k ≤ c.args.log.now.extent.depth = omega (arith, c.loop-before-test.true, c.depth-before-end.ensures.value, ap (λ (e : Extent). e.depth) c.shape.ensures.value) in
    let room : 2 * (c.args.weight ^ k * log_bound k) ≤ limit = fits-log_at c.args.weight c.args.log.now.extent.depth k c.requires (omega arith) within in
    omega (arith, room, ap₂ ◌*◌ c.pow.ensures c.log_bound.ensures)
