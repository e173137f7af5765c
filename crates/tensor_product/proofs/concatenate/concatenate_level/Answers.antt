use Rattle.std.proofs.Common.{◌≡◌, ◌+◌, ◌∙◌, ℕ, List, ap, ap₂, sym, subst, arith, length}
use Rattle.definitions.specs.Words.{Extent, IsWord, shorter, number}
use Rattle.definitions.specs.Exponentials.{plain_product}
use Rattle.scaled_tensor.specs.Tensors.{coefficient}
use Rattle.tensor_product.proofs.ConcatenationLaws.{written-step}
use Rattle.tensor_product.proofs.concatenate.concatenate_level.Goals as goal

pub loop-index-preserved : goal.loop-index-preserved
loop-index-preserved c =
    let next : List ℕ = c.write_word.new.letters in
    let is_next : IsWord c.args.a.now.extent next = subst (λ (e : Extent). IsWord e next) c.shape-shape.ensures.value c.write_word.ensures.word in
    let len : length next ≡ c.args.k = omega arith in
    let num : number c.args.a.now.extent.width next ≡ c.loop-index.index = ap (λ (e : Extent). number e.width next) (sym c.shape-shape.ensures.value) ∙ c.write_word.ensures.value in
    record {
      length = len;
      progress = written-step (shorter c.args.a.now.extent.width c.args.k + c.loop-index.index) _ c.args.a.now.extent (plain_product (coefficient c.args.a.now) (coefficient c.args.b.now)) c.loop-index.product c.concatenate_word.new.product next
          c.loop-index.invariant.progress is_next (ap₂ (λ (k n : ℕ). shorter c.args.a.now.extent.width k + n) len num) (omega arith)
          c.concatenate_word.ensures.extent c.concatenate_word.ensures.written c.concatenate_word.ensures.others;
    }
