use Rattle.tensor_product.proofs.LevelLaws.{few-prefixes}
use Rattle.tensor_product.proofs.extend.extend_in_scratch.Goals as goal

pub extend_levels-requires-else-level-le32-clause-sums : goal.extend_levels-requires-else-level-le32-clause-sums
extend_levels-requires-else-level-le32-clause-sums c = few-prefixes c.args.tensor.now.extent c.requires.shape
