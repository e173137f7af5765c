use Rattle.std.proofs.Common.{◌≡◌, ◌+◌, ◌∙◌, ap, arith, List, ℤ, length, subst}
use Rattle.std.specs.Vec.{with_items}
use Rattle.std.proofs.lemmas.List.{with_items_is}
use Rattle.definitions.specs.Words.{shorter}
use Rattle.scaled_tensor.specs.Tensors.{TensorValue, IsTensor}
use Rattle.scaled_tensor.proofs.CutLaws.{level-ends, level-cleared, level-kept}
use Rattle.scaled_tensor.proofs.tensor.Tensor.clear.Goals as goal

pub clear-requires : goal.clear-requires
clear-requires c =
    let t : TensorValue = c.args.self.now in
    let same : c.deref_mut.result.now ≡ t.coefficients = c.deref_mut.ensures.value ∙ ap (λ (u : TensorValue). u.coefficients) c.self.view_is in
    let to : c.before-next.result ≡ shorter t.extent.width (c.args.k + 1) = c.before-next.ensures.value ∙ ap (λ (u : TensorValue). shorter u.extent.width (c.args.k + 1)) c.self.view_is in
    let ok : IsTensor t = subst IsTensor c.self.view_is c.self.invariant in
    omega (arith, level-ends t c.args.k c.before-next.result ok c.requires to, ap (λ (xs : List ℤ). length xs) same)

pub returns-clause-cleared : goal.returns-clause-cleared
returns-clause-cleared c =
    let t : TensorValue = c.args.self.now in
    let from : c.before-from.result ≡ shorter t.extent.width c.args.k = c.before-from.ensures.value ∙ ap (λ (u : TensorValue). shorter u.extent.width c.args.k) c.self.view_is in
    let to : c.before-next.result ≡ shorter t.extent.width (c.args.k + 1) = c.before-next.ensures.value ∙ ap (λ (u : TensorValue). shorter u.extent.width (c.args.k + 1)) c.self.view_is in
    let extent = ap (λ (u : TensorValue). u.extent) c.self.view_is in
    let items : (with_items c.self.inside.coefficients c.clear.new.out).items ≡ c.clear.new.out = with_items_is c.self.inside.coefficients c.clear.new.out (omega (arith, c.clear.auto.out, c.deref_mut.ensures.len)) in
    λ word is_word len. rw (extent, items) (level-cleared t c.args.k c.before-from.result c.before-next.result c.clear.new.out from to c.clear.ensures.cleared word is_word len)

pub returns-clause-others : goal.returns-clause-others
returns-clause-others c =
    let t : TensorValue = c.args.self.now in
    let same : c.deref_mut.result.now ≡ t.coefficients = c.deref_mut.ensures.value ∙ ap (λ (u : TensorValue). u.coefficients) c.self.view_is in
    let from : c.before-from.result ≡ shorter t.extent.width c.args.k = c.before-from.ensures.value ∙ ap (λ (u : TensorValue). shorter u.extent.width c.args.k) c.self.view_is in
    let to : c.before-next.result ≡ shorter t.extent.width (c.args.k + 1) = c.before-next.ensures.value ∙ ap (λ (u : TensorValue). shorter u.extent.width (c.args.k + 1)) c.self.view_is in
    let extent = ap (λ (u : TensorValue). u.extent) c.self.view_is in
    let items : (with_items c.self.inside.coefficients c.clear.new.out).items ≡ c.clear.new.out = with_items_is c.self.inside.coefficients c.clear.new.out (omega (arith, c.clear.auto.out, c.deref_mut.ensures.len)) in
    λ word is_word differ. rw (extent, items) (level-kept t c.args.k c.before-from.result c.before-next.result c.clear.new.out from to (rw (← same) c.clear.ensures.others) word is_word differ)
