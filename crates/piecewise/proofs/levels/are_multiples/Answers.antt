use Rattle.std.proofs.Common.{◌≡◌, ℤ, pos}
use Rattle.std.specs.Prelude.{int_rem}
use Rattle.piecewise.proofs.LevelWords.{level-each}
use Rattle.piecewise.proofs.levels.are_multiples.Goals as goal

pub returns : goal.returns
returns c =
    let words = level-each (λ (z : ℤ). int_rem z (pos c.args.divisor) ≡ pos 0) c.args.tensor.now c.level.result.now c.args.k c.requires.k c.level.ensures.len c.level.ensures.value in
    (λ yes. words.0 (c.all_multiples.ensures.0 yes), λ each. c.all_multiples.ensures.1 (words.1 each))
