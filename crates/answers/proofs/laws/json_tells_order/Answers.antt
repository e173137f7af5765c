use Rattle.answers.proofs.OrderTold.{json-tells}
use Rattle.answers.proofs.laws.json_tells_order.Goals as goal

pub returns : goal.returns
returns c = json-tells
