use Rattle.std.proofs.Common.{◌≡◌, ◌∙◌, ap, arith, List, ℕ, ℤ, length, subst}
use Rattle.std.specs.Vec.{with_items}
use Rattle.std.proofs.lemmas.List.{with_items_is}
use Rattle.definitions.specs.Words.{shorter}
use Rattle.scaled_tensor.specs.Tensors.{TensorValue, IsTensor}
use Rattle.scaled_tensor.proofs.CutLaws.{IsCut, cut-within, cut-multiplied-within, cut-added-within, cut-old-within, cut-written, cut-others}
use Rattle.scaled_tensor.proofs.tensor.Tensor.add_outer.Goals as goal

pub add_outer-requires-clause-within : goal.add_outer-requires-clause-within
add_outer-requires-clause-within g c =
    let t : TensorValue = c.args.self.now in
    let same : c.deref_mut.result.now ≡ t.coefficients = c.deref_mut.ensures.value ∙ ap (λ (u : TensorValue). u.coefficients) c.self.view_is in
    let from : c.before-from.result ≡ shorter t.extent.width c.args.k = c.before-from.ensures.value ∙ ap (λ (u : TensorValue). shorter u.extent.width c.args.k) c.self.view_is in
    let ok : IsTensor t = subst IsTensor c.self.view_is c.self.invariant in
    let cut : IsCut t c.args.k c.args.cut c.before-from.result c.args.left.now c.args.right.now = record { deep = c.requires.k; within = c.requires.cut; from_is = from; left_len = c.requires.left; right_len = c.requires.right } in
    omega (arith, cut-within t c.args.k c.args.cut c.before-from.result c.args.left.now c.args.right.now ok cut, ap (λ (xs : List ℤ). length xs) same)

pub add_outer-requires-clause-multiplied : goal.add_outer-requires-clause-multiplied
add_outer-requires-clause-multiplied g c =
    let t : TensorValue = c.args.self.now in
    let from : c.before-from.result ≡ shorter t.extent.width c.args.k = c.before-from.ensures.value ∙ ap (λ (u : TensorValue). shorter u.extent.width c.args.k) c.self.view_is in
    let cut : IsCut t c.args.k c.args.cut c.before-from.result c.args.left.now c.args.right.now = record { deep = c.requires.k; within = c.requires.cut; from_is = from; left_len = c.requires.left; right_len = c.requires.right } in
    cut-multiplied-within g.A.Arithmetic.most t c.args.k c.args.cut c.before-from.result c.args.left.now c.args.right.now cut c.requires.room

pub add_outer-requires-clause-added : goal.add_outer-requires-clause-added
add_outer-requires-clause-added g c =
    let t : TensorValue = c.args.self.now in
    let same : c.deref_mut.result.now ≡ t.coefficients = c.deref_mut.ensures.value ∙ ap (λ (u : TensorValue). u.coefficients) c.self.view_is in
    let from : c.before-from.result ≡ shorter t.extent.width c.args.k = c.before-from.ensures.value ∙ ap (λ (u : TensorValue). shorter u.extent.width c.args.k) c.self.view_is in
    let cut : IsCut t c.args.k c.args.cut c.before-from.result c.args.left.now c.args.right.now = record { deep = c.requires.k; within = c.requires.cut; from_is = from; left_len = c.requires.left; right_len = c.requires.right } in
    rw same (cut-added-within g.A.Arithmetic.most t c.args.k c.args.cut c.before-from.result c.args.left.now c.args.right.now cut c.requires.room)

pub returns-clause-added : goal.returns-clause-added
returns-clause-added g c =
    let t : TensorValue = c.args.self.now in
    let same : c.deref_mut.result.now ≡ t.coefficients = c.deref_mut.ensures.value ∙ ap (λ (u : TensorValue). u.coefficients) c.self.view_is in
    let from : c.before-from.result ≡ shorter t.extent.width c.args.k = c.before-from.ensures.value ∙ ap (λ (u : TensorValue). shorter u.extent.width c.args.k) c.self.view_is in
    let cut : IsCut t c.args.k c.args.cut c.before-from.result c.args.left.now c.args.right.now = record { deep = c.requires.k; within = c.requires.cut; from_is = from; left_len = c.requires.left; right_len = c.requires.right } in
    let extent : c.self.inside.shape ≡ t.extent = ap (λ (u : TensorValue). u.extent) c.self.view_is in
    let items : (with_items c.self.inside.coefficients c.add_outer.new.out).items ≡ c.add_outer.new.out = with_items_is c.self.inside.coefficients c.add_outer.new.out (omega (arith, c.add_outer.auto.out, c.deref_mut.ensures.len)) in
    let written : (word : List ℕ) → _ = cut-written t c.args.k c.args.cut c.before-from.result c.args.left.now c.args.right.now c.add_outer.new.out cut (rw (← same) c.add_outer.ensures.run) in
    λ word is_word len. rw (extent, items) (written word is_word len)

pub returns-clause-others : goal.returns-clause-others
returns-clause-others g c =
    let t : TensorValue = c.args.self.now in
    let same : c.deref_mut.result.now ≡ t.coefficients = c.deref_mut.ensures.value ∙ ap (λ (u : TensorValue). u.coefficients) c.self.view_is in
    let from : c.before-from.result ≡ shorter t.extent.width c.args.k = c.before-from.ensures.value ∙ ap (λ (u : TensorValue). shorter u.extent.width c.args.k) c.self.view_is in
    let cut : IsCut t c.args.k c.args.cut c.before-from.result c.args.left.now c.args.right.now = record { deep = c.requires.k; within = c.requires.cut; from_is = from; left_len = c.requires.left; right_len = c.requires.right } in
    let extent : c.self.inside.shape ≡ t.extent = ap (λ (u : TensorValue). u.extent) c.self.view_is in
    let items : (with_items c.self.inside.coefficients c.add_outer.new.out).items ≡ c.add_outer.new.out = with_items_is c.self.inside.coefficients c.add_outer.new.out (omega (arith, c.add_outer.auto.out, c.deref_mut.ensures.len)) in
    λ word is_word differ. rw (extent, items) (cut-others t c.args.k c.args.cut c.before-from.result c.args.left.now c.args.right.now c.add_outer.new.out cut (rw (← same) c.add_outer.ensures.others) word is_word differ)

pub add_outer-requires-clause-out : goal.add_outer-requires-clause-out
add_outer-requires-clause-out g c =
    let t : TensorValue = c.args.self.now in
    let same : c.deref_mut.result.now ≡ t.coefficients = c.deref_mut.ensures.value ∙ ap (λ (u : TensorValue). u.coefficients) c.self.view_is in
    let from : c.before-from.result ≡ shorter t.extent.width c.args.k = c.before-from.ensures.value ∙ ap (λ (u : TensorValue). shorter u.extent.width c.args.k) c.self.view_is in
    let cut : IsCut t c.args.k c.args.cut c.before-from.result c.args.left.now c.args.right.now = record { deep = c.requires.k; within = c.requires.cut; from_is = from; left_len = c.requires.left; right_len = c.requires.right } in
    rw same (cut-old-within g.A.Arithmetic.most t c.args.k c.args.cut c.before-from.result c.args.left.now c.args.right.now cut c.requires.room)
