use Rattle.std.proofs.Common.{◌-◌, ◌^◌, arith, subst, sym}
use Rattle.definitions.specs.Words.{Extent, IsWord}
use Rattle.definitions.specs.Signature.{limit}
use Rattle.tensor_product.proofs.JoinLaws.{join-still, join-first, join-room-within, weightless}
use Rattle.tensor_product.proofs.multiply.join_bounded.Goals as goal

pub returns-then-weight-eq0 : goal.returns-then-weight-eq0
returns-then-weight-eq0 c =
    join-still c.args.b.now c.args.a.now
    (λ word is_word. weightless c.args.b.now c.args.weight c.requires.weight c.requires.starts c.if-weight-eq0.true word (subst (λ (e : Extent). IsWord e word) (sym c.requires.same) is_word))

pub returns-then-bound-eq0 : goal.returns-then-bound-eq0
returns-then-bound-eq0 c =
    join-first c.args.a.now c.args.b.now c.assign.new.self c.requires.same
    (λ word is_word. weightless c.args.a.now c.args.bound c.requires.bounded c.requires.begins c.if-bound-eq0.true word is_word) c.assign.ensures

pub join_in_scratch-requires-clause-room : goal.join_in_scratch-requires-clause-room
join_in_scratch-requires-clause-room c = λ word is_word.
    join-room-within limit c.args.a.now c.args.b.now c.args.bound c.args.weight c.args.a.now.extent.depth c.requires.shape.within_depth (omega arith) (omega arith) c.requires.bounded c.requires.weight c.requires.same c.requires.fits word is_word is_word.short

pub join_in_scratch-requires-clause-short : goal.join_in_scratch-requires-clause-short
join_in_scratch-requires-clause-short c =
    join-room-within (2 ^ 63 - 1) c.args.a.now c.args.b.now c.args.bound c.args.weight c.narrow_depth-narrow.result c.requires.shape.within_depth (omega arith) (omega arith) c.requires.bounded c.requires.weight c.requires.same c.narrow_depth-narrow.ensures.fits
