use Rattle.tensor_product.proofs.LevelLaws.{few-prefixes}
use Rattle.exp_log.proofs.horner.write_log.Goals as goal

pub write_levels-requires-else-level-le32-clause-scaled : goal.write_levels-requires-else-level-le32-clause-scaled
write_levels-requires-else-level-le32-clause-scaled c = few-prefixes c.args.sum.now.extent c.requires.shape
