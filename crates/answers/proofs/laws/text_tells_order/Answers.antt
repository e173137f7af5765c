use Rattle.answers.proofs.OrderTold.{text-tells}
use Rattle.answers.proofs.laws.text_tells_order.Goals as goal

pub returns : goal.returns
returns c = text-tells
