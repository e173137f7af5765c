use Rattle.definitions.specs.Signature.{limit}
use Rattle.scaled_tensor.proofs.LogTensorLaws.{level-words}
use Rattle.scaled_tensor.proofs.log_tensor.level_within.Goals as goal

pub returns-clause-within : goal.returns-clause-within
returns-clause-within c =
    let words = level-words c.args.tensor.now c.level.result.now c.args.k c.args.bound c.requires c.level.ensures.len c.level.ensures.value in
    (λ yes. words.0 (c.all_within.ensures.0 yes), λ bounded. c.all_within.ensures.1 (words.1 bounded))

pub returns-clause-range : goal.returns-clause-range
returns-clause-range c =
    (level-words c.args.tensor.now c.level.result.now c.args.k limit c.requires c.level.ensures.len c.level.ensures.value).0 c.level.ensures.bound
