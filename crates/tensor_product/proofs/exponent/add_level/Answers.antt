use Rattle.std.proofs.Common.{◌≡◌, ◌^◌, ◌∙◌, ℕ, List, ap, sym, subst, arith, rules, length}
use Rattle.definitions.specs.Words.{Extent, IsWord, number}
use Rattle.tensor_product.proofs.ExtendLaws.{IsBelow}
use Rattle.tensor_product.specs.Exponentiation.{exp_factor}
use Rattle.tensor_product.proofs.AddedLaws.{added-none, room-kept, below-step, below-all}
use Rattle.tensor_product.proofs.exponent.add_level.Goals as goal

pub loop-index-init : goal.loop-index-init
loop-index-init c = record {
  length = search rules;
  progress = added-none (IsBelow c.args.sum.now.extent.width c.args.k 0) (exp_factor c.args.m) c.args.power.now c.args.sum.now (λ word at. omega (arith, at.1));
}

pub add_word-requires-clause-room : goal.add_word-requires-clause-room
add_word-requires-clause-room c =
    let next : List ℕ = c.write_word.new.letters in
    let extent : c.shape-shape.result ≡ c.args.sum.now.extent = c.shape-shape.ensures.value ∙ c.requires.same in
    let is_next : IsWord c.args.sum.now.extent next = subst (λ (e : Extent). IsWord e next) extent c.write_word.ensures.word in
    let len : length next ≡ c.args.k = omega arith in
    let num : number c.args.sum.now.extent.width next ≡ c.loop-index.index = ap (λ (e : Extent). number e.width next) (sym extent) ∙ c.write_word.ensures.value in
    room-kept (IsBelow c.args.sum.now.extent.width c.args.k c.loop-index.index) (exp_factor c.args.m) c.args.power.now c.args.sum.now c.loop-index.sum next c.loop-index.invariant.progress is_next
    (λ at. omega (arith, at.1, num)) (c.requires.room next is_next len)

pub loop-index-preserved : goal.loop-index-preserved
loop-index-preserved c =
    let next : List ℕ = c.write_word.new.letters in
    let extent : c.shape-shape.result ≡ c.args.sum.now.extent = c.shape-shape.ensures.value ∙ c.requires.same in
    let is_next : IsWord c.args.sum.now.extent next = subst (λ (e : Extent). IsWord e next) extent c.write_word.ensures.word in
    let len : length next ≡ c.args.k = omega arith in
    let num : number c.args.sum.now.extent.width next ≡ c.loop-index.index = ap (λ (e : Extent). number e.width next) (sym extent) ∙ c.write_word.ensures.value in
    record {
      length = len;
      progress = below-step c.args.k c.loop-index.index (exp_factor c.args.m) c.args.power.now c.args.sum.now c.loop-index.sum c.add_word.new.sum next c.loop-index.invariant.progress c.add_word.ensures is_next len num;
    }

pub returns : goal.returns
returns c =
    below-all c.args.k c.loop-index.index (exp_factor c.args.m) c.args.power.now c.args.sum.now c.loop-index.sum c.loop-index.invariant.progress
    (omega (arith, c.level.ensures.len, c.loop-index-test.false, ap (λ (e : Extent). e.width ^ c.args.k) c.requires.same))
