use Rattle.rough_main.proofs.ProductLaws.{list-expands}
use Rattle.rough_main.proofs.elements.reply_to_list.Goals as goal

pub returns-clause-expands : goal.returns-clause-expands
returns-clause-expands c = list-expands c.args.list.shape c.args.list.moves.items c.depth-depth.ensures.shape.within_depth
