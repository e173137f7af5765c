use Rattle.std.proofs.Common.{◌≡◌, ◌<◌, ◌++◌, ◌∙◌, ap, ap₂, arith, ℕ, List, pos, ◌+ℤ◌, unsigned_abs, length, slice_index_or, to_z, of_z, to_z-of_z, FitsSigned}
use mir.Syntax.{w128}
use Rattle.definitions.specs.Words.{IsWord}
use Rattle.definitions.proofs.Integers.{abs-add}
use Rattle.scaled_tensor.proofs.TensorLaws.{in_range_kept}
use Rattle.scaled_tensor.specs.Tensors.{place}
use Rattle.functionals.proofs.Added.{set-added}
use Rattle.functionals.proofs.Rooms.{word-behind}
use Rattle.functionals.proofs.shuffling.add_word.Goals as goal

pub sum_with-requires : goal.sum_with-requires
sum_with-requires c =
    let kept : FitsSigned w128 c.number_of-number.result = record { sfits = c.number_of-number.type_inv } in
    let p = c.requires.prefix.0 in
    let is : IsWord c.args.shape (p ++ c.args.rest.now) = word-behind c.args.shape c.args.start c.args.index p c.args.rest.now c.requires.prefix.1 c.requires.letters in
    omega (
      arith,
      abs-add (to_z w128 (of_z w128 c.number_of-number.result)) (to_z w128 (of_z w128 c.args.c)),
      ap unsigned_abs (to_z-of_z kept ∙ c.number_of-number.ensures ∙ ap (λ (n : ℕ). slice_index_or c.args.sums.now n (pos 0)) (c.place_behind-at.ensures.value p c.requires.prefix.1)),
      ap unsigned_abs (to_z-of_z c.ranges.c),
      c.requires.room.at (p ++ c.args.rest.now) is,
    )

pub returns : goal.returns
returns c = λ p is.
    let kept : FitsSigned w128 c.number_of-number.result = record { sfits = c.number_of-number.type_inv } in
    let word : List ℕ = p ++ c.args.rest.now in
    let here : c.place_behind-at.result < length c.args.sums.now = omega (arith, c.place_behind-at.ensures.bound, c.requires.len) in
    let sum : to_z w128 (of_z w128 c.sum_with.result) ≡ slice_index_or c.args.sums.now (place c.args.shape word) (pos 0) +ℤ c.args.c =
    in_range_kept c.sum_with.result c.sum_with.ensures.bound
    ∙ c.sum_with.ensures.value
    ∙ ap₂ ◌+ℤ◌ (to_z-of_z kept ∙ c.number_of-number.ensures ∙ ap (λ (n : ℕ). slice_index_or c.args.sums.now n (pos 0)) (c.place_behind-at.ensures.value p is)) (to_z-of_z c.ranges.c) in
    set-added c.args.shape c.args.sums.now c.place_behind-at.result (to_z w128 (of_z w128 c.sum_with.result)) c.args.c word (word-behind c.args.shape c.args.start c.args.index p c.args.rest.now is c.requires.letters) (c.place_behind-at.ensures.value p is) here sum
