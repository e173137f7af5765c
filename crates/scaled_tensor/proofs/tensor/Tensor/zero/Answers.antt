use Rattle.std.proofs.Common.{rules}
use Rattle.scaled_tensor.proofs.TensorLaws.{zero-coefficient}
use Rattle.scaled_tensor.proofs.tensor.Tensor.zero.Goals as goal

pub returns-clause-value : goal.returns-clause-value
returns-clause-value c = λ word is_word.
    zero-coefficient (record { extent = c.args.shape; coefficients = c.in_ok-vec.field-0.items }) c.total.result word c.total.ensures.value (c.in_ok-vec.ensures.items_if_clones_equal (search rules)) is_word
