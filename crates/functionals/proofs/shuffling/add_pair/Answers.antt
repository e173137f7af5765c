use Rattle.std.proofs.Common.{◌≡◌, ◌+◌, ◌∙◌, ap, ap₂, List, ℕ, [], length, arith, ◌*ℤ◌, unsigned_abs, to_z, of_z, to_z-of_z, FitsSigned}
use mir.Syntax.{w128}
use Rattle.scaled_tensor.proofs.TensorLaws.{in_range_kept}
use Rattle.functionals.specs.Functionals.{norm, shuffled_pair}
use Rattle.functionals.specs.Tables.{IsPrefix}
use Rattle.functionals.proofs.Rooms.{room-limit, pair-coefficient, prefix-none, pair-room, pair-added}
use Rattle.functionals.proofs.shuffling.add_pair.Goals as goal

pub product_of-c-requires : goal.product_of-c-requires
product_of-c-requires c =
    omega (
      arith,
      ap unsigned_abs (ap₂ ◌*ℤ◌ (in_range_kept c.args.t.now.coefficient c.requires.first.fits) (in_range_kept c.args.r.now.coefficient c.requires.second.fits)),
      pair-coefficient c.args.t.now c.args.r.now,
      room-limit c.args.shape c.args.sums.now (norm (shuffled_pair c.args.t.now c.args.r.now)) c.requires.room,
    )

pub add_shuffles-requires-clause-prefix : goal.add_shuffles-requires-clause-prefix
add_shuffles-requires-clause-prefix c =
    let lengths : length c.list-u.result.now + length c.list-v.result.now ≡ length c.args.t.now.word + length c.args.r.now.word =
    ap₂ (λ (x y : List ℕ). length x + length y) c.list-u.ensures c.list-v.ensures in
    ([], prefix-none c.args.shape c.before-start.result (length c.list-u.result.now + length c.list-v.result.now) c.before-start.ensures.shape (omega (arith, lengths, c.requires.short)) c.before-start.ensures.value)

pub add_shuffles-requires-clause-room : goal.add_shuffles-requires-clause-room
add_shuffles-requires-clause-room c =
    let kept : FitsSigned w128 c.product_of-c.result = record { sfits = c.product_of-c.type_inv } in
    let product : to_z w128 (of_z w128 c.product_of-c.result) ≡ c.args.t.now.coefficient *ℤ c.args.r.now.coefficient =
    to_z-of_z kept ∙ c.product_of-c.ensures ∙ ap₂ ◌*ℤ◌ (in_range_kept c.args.t.now.coefficient c.requires.first.fits) (in_range_kept c.args.r.now.coefficient c.requires.second.fits) in
    pair-room c.args.shape c.args.sums.now c.args.t.now c.args.r.now c.list-u.result.now c.list-v.result.now _ c.list-u.ensures c.list-v.ensures product c.requires.room

pub returns : goal.returns
returns c =
    let kept : FitsSigned w128 c.product_of-c.result = record { sfits = c.product_of-c.type_inv } in
    let product : to_z w128 (of_z w128 c.product_of-c.result) ≡ c.args.t.now.coefficient *ℤ c.args.r.now.coefficient =
    to_z-of_z kept ∙ c.product_of-c.ensures ∙ ap₂ ◌*ℤ◌ (in_range_kept c.args.t.now.coefficient c.requires.first.fits) (in_range_kept c.args.r.now.coefficient c.requires.second.fits) in
    let lengths : length c.list-u.result.now + length c.list-v.result.now ≡ length c.args.t.now.word + length c.args.r.now.word =
    ap₂ (λ (x y : List ℕ). length x + length y) c.list-u.ensures c.list-v.ensures in
    let is : IsPrefix c.args.shape c.before-start.result 0 (length c.list-u.result.now + length c.list-v.result.now) [] =
    prefix-none c.args.shape c.before-start.result (length c.list-u.result.now + length c.list-v.result.now) c.before-start.ensures.shape (omega (arith, lengths, c.requires.short)) c.before-start.ensures.value in
    pair-added c.args.shape c.args.sums.now c.add_shuffles.new.sums c.args.t.now c.args.r.now c.list-u.result.now c.list-v.result.now _ c.list-u.ensures c.list-v.ensures product (c.add_shuffles.ensures [] is)
