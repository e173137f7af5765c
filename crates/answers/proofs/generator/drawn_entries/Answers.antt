use Rattle.std.proofs.Common.{◌∙◌, ◌∷◌, [], ap₂, arith, ℤ}
use Rattle.std.proofs.lemmas.Int.{ints}
use Rattle.answers.proofs.generator.drawn_entries.Goals as goal

pub returns : goal.returns
returns c = c.in_ok-vec.ensures.items ∙ ap₂ (λ (a : ℤ) (b : ℤ). a ∷ b ∷ []) (omega (arith, ints)) (omega (arith, ints))
