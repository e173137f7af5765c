use Rattle.std.proofs.Common.{◌+◌, ◌∙◌, ap, ap₂, ℕ, List, ℤ, pos, get_or, subst, sym, take}
use Rattle.definitions.specs.Words.{IsWord, shorter, number}
use Rattle.scaled_tensor.specs.Tensors.{TensorValue, coefficient}
use Rattle.scaled_tensor.proofs.PrefixLaws.{prefixes-within, prefix-coefficient}
use Rattle.scaled_tensor.proofs.tensor.Tensor.read_prefixes.Goals as goal

pub read_along-requires-clause-enough : goal.read_along-requires-clause-enough
read_along-requires-clause-enough c =
    let t : TensorValue = record { extent = c.self.inside.shape; coefficients = c.self.inside.coefficients.items } in
    let is_word : IsWord t.extent c.args.word.now = subst (λ (v : TensorValue). IsWord v.extent c.args.word.now) (sym c.self.view_is) c.requires.word in
    prefixes-within t c.args.word.now c.width.result c.deref.result.now c.self.invariant is_word c.width.ensures.value c.deref.ensures.value

pub returns : goal.returns
returns c = record {
  values = λ i h.
      let t : TensorValue = record { extent = c.self.inside.shape; coefficients = c.self.inside.coefficients.items } in
      c.read_along.ensures i h
      ∙ ap₂ (λ (xs : List ℤ) (w : ℕ). get_or xs (shorter w i + number w (take i c.args.word.now)) (pos 0)) c.deref.ensures.value c.width.ensures.value
      ∙ prefix-coefficient t c.args.word.now i h
      ∙ ap (λ (v : TensorValue). coefficient v (take i c.args.word.now)) c.self.view_is;
}
