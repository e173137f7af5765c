use Rattle.std.proofs.Common.{◌≤◌, ℤ, unsigned_abs}
use Rattle.piecewise.proofs.LevelWords.{level-each}
use Rattle.piecewise.proofs.levels.are_within.Goals as goal

pub returns : goal.returns
returns c =
    let words = level-each (λ (z : ℤ). unsigned_abs z ≤ c.args.bound) c.args.tensor.now c.level.result.now c.args.k c.requires c.level.ensures.len c.level.ensures.value in
    (λ yes. words.0 (c.all_within.ensures.0 yes), λ each. c.all_within.ensures.1 (words.1 each))
