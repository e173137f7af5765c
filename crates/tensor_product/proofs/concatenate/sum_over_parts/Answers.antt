use Rattle.std.proofs.Common.{◌≡◌, ◌≤◌, ◌+◌, ◌∙◌, ℕ, List, sym, subst, rules, arith, ℤ, pos, unsigned_abs, to_z, of_z, to_z-of_z, FitsSigned, get_or}
use mir.Syntax.{w128}
use Rattle.definitions.specs.Words.{IsWord}
use Rattle.definitions.specs.Signature.{limit}
use Rattle.scaled_tensor.specs.Tensors.{coefficient}
use Rattle.tensor_product.specs.Concatenation.{plain_value}
use Rattle.tensor_product.proofs.MultiplyLaws.{word-drop, rest}
use Rattle.tensor_product.proofs.ConcatenationLaws.{plain_value-is, plain_sum-none, plain_sum-step}
use Rattle.tensor_product.proofs.concatenate.sum_over_parts.Goals as goal

pub loop-cut-init : goal.loop-cut-init
loop-cut-init c = sym (plain_sum-none (λ i. get_or c.args.prefixes.now i (pos 0)) (coefficient c.args.b.now) c.args.word.now)

pub get-suffix-requires : goal.get-suffix-requires
get-suffix-requires c =
    subst (λ (u : List ℕ). IsWord c.args.b.now.extent u) (sym (rest c.loop-cut.cut c.args.word.now)) (word-drop c.args.b.now.extent c.loop-cut.cut c.args.word.now c.requires.word)

pub product_of-requires : goal.product_of-requires
product_of-requires c =
    let p : ℕ → ℤ = λ i. get_or c.args.prefixes.now i (pos 0) in
    let prefix : FitsSigned w128 (p c.loop-cut.cut) = search rules in
    let suffix : FitsSigned w128 c.get-suffix.result = search rules in
    subst (λ (z : ℤ). unsigned_abs z ≤ limit)
    (sym (plain_value-is p (coefficient c.args.b.now) c.args.word.now c.loop-cut.cut _ _ (to_z-of_z prefix) (to_z-of_z suffix ∙ c.get-suffix.ensures.value)))
    (c.requires.room.joined c.loop-cut.cut (omega arith))

pub sum_of-sum-requires : goal.sum_of-sum-requires
sum_of-sum-requires c =
    let p : ℕ → ℤ = λ i. get_or c.args.prefixes.now i (pos 0) in
    let prefix : FitsSigned w128 (p c.loop-cut.cut) = search rules in
    let suffix : FitsSigned w128 c.get-suffix.result = search rules in
    let fits : FitsSigned w128 c.product_of.result = search rules in
    let term : to_z w128 (of_z w128 c.product_of.result) ≡ plain_value p (coefficient c.args.b.now) c.args.word.now c.loop-cut.cut =
    to_z-of_z fits ∙ c.product_of.ensures
    ∙ plain_value-is p (coefficient c.args.b.now) c.args.word.now c.loop-cut.cut _ _ (to_z-of_z prefix) (to_z-of_z suffix ∙ c.get-suffix.ensures.value) in
    subst (λ (z : ℤ). unsigned_abs z ≤ limit)
    (sym (plain_sum-step p (coefficient c.args.b.now) c.args.word.now c.loop-cut.cut _ _ c.loop-cut.invariant term))
    (c.requires.room.summed (c.loop-cut.cut + 1) (omega arith))

pub loop-cut-preserved : goal.loop-cut-preserved
loop-cut-preserved c =
    let p : ℕ → ℤ = λ i. get_or c.args.prefixes.now i (pos 0) in
    let prefix : FitsSigned w128 (p c.loop-cut.cut) = search rules in
    let suffix : FitsSigned w128 c.get-suffix.result = search rules in
    let fits : FitsSigned w128 c.product_of.result = search rules in
    let summed : FitsSigned w128 c.sum_of-sum.result = search rules in
    let term : to_z w128 (of_z w128 c.product_of.result) ≡ plain_value p (coefficient c.args.b.now) c.args.word.now c.loop-cut.cut =
    to_z-of_z fits ∙ c.product_of.ensures
    ∙ plain_value-is p (coefficient c.args.b.now) c.args.word.now c.loop-cut.cut _ _ (to_z-of_z prefix) (to_z-of_z suffix ∙ c.get-suffix.ensures.value) in
    to_z-of_z summed ∙ c.sum_of-sum.ensures ∙ plain_sum-step p (coefficient c.args.b.now) c.args.word.now c.loop-cut.cut _ _ c.loop-cut.invariant term
