use Rattle.std.proofs.Common.{◌≡◌, ◌≤◌, ◌∙◌, arith, rules, pos, replicate}
use Rattle.definitions.specs.Signature.{limit}
use Rattle.functionals.specs.Functionals.{norm, shuffled}
use Rattle.functionals.proofs.ProductNorms.{norm-shuffled}
use Rattle.functionals.proofs.Rooms.{room-zeros, zeros-at}
use Rattle.functionals.proofs.product.table_of.Goals as goal

pub add_terms-requires-clause-room : goal.add_terms-requires-clause-room
add_terms-requires-clause-room c =
    let zeros : c.deref_mut.result.now ≡ replicate c.total.result (pos 0) = c.deref_mut.ensures.value ∙ c.in_ok-sums.ensures.items_if_clones_equal (search rules) in
    let fits : norm (shuffled c.args.f.now c.args.g.now) ≤ limit = omega (arith, norm-shuffled c.args.f.now c.args.g.now (omega (arith, c.total.ensures.shape.within_depth, c.requires.short)), c.requires.room) in
    room-zeros c.args.shape c.deref_mut.result.now (norm (shuffled c.args.f.now c.args.g.now)) (zeros-at c.deref_mut.result.now c.total.result zeros) fits
