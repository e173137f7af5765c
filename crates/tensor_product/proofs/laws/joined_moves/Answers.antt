use Rattle.definitions.proofs.SignatureLaws.{signature-append}
use Rattle.tensor_product.proofs.laws.joined_moves.Goals as goal

pub returns : goal.returns
returns c = signature-append
