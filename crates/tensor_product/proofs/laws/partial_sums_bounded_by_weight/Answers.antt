use Rattle.definitions.proofs.SignatureLaws.{joined-bound}
use Rattle.lie_steps.proofs.StepLaws.{moves-StepsBounded}
use Rattle.tensor_product.proofs.laws.partial_sums_bounded_by_weight.Goals as goal

pub returns : goal.returns
returns c =
    λ extent a b word n left right is h.
    joined-bound extent.depth a b (moves-StepsBounded extent a left) (moves-StepsBounded extent b right) word n is.short h
