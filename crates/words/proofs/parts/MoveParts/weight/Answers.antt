use Rattle.std.proofs.Common.{rules, ◌≤◌, ◌∙◌, ℕ, List, ap, ap₂, arith, length}
use Rattle.definitions.specs.Moves.{weight_from, move_weight}
use Rattle.words.proofs.MoveSizes.{length-sizes_of}
use Rattle.words.proofs.WeightBounds.{weight-bound}
use Rattle.words.proofs.parts.MoveParts.weight.Goals as goal

pub returns-clause-value : goal.returns-clause-value
unfolding move_weight
returns-clause-value c =
    c.weight_of.ensures
    ∙ ap₂ (λ (n : ℕ) (ps : List ℕ). weight_from n 1 ps) (ap length c.write_sizes.ensures.value ∙ length-sizes_of c.args.self.now) c.write_sizes.ensures.value

pub returns-clause-bound : goal.returns-clause-bound
returns-clause-bound c =
    let few : length c.write_sizes.new.sizes ≤ 8 = search rules in
    omega (arith, c.weight_of.ensures, weight-bound c.write_sizes.new.sizes few c.write_sizes.ensures.first c.write_sizes.ensures.small)
