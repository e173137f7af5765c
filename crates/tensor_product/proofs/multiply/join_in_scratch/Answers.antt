use Rattle.tensor_product.proofs.LevelLaws.{few-prefixes}
use Rattle.tensor_product.proofs.multiply.join_in_scratch.Goals as goal

pub join_levels-requires-else-level-le32-clause-scaled : goal.join_levels-requires-else-level-le32-clause-scaled
join_levels-requires-else-level-le32-clause-scaled c = few-prefixes c.args.a.now.extent c.requires.shape
