use Rattle.std.proofs.Common.{◌≡◌, ◌∙◌, ap, sym, subst, ℕ, List}
use Rattle.definitions.specs.Words.{IsWord}
use Rattle.definitions.specs.Logarithm.{logarithm}
use Rattle.scaled_tensor.specs.Tensors.{TensorValue, coefficient}
use Rattle.scaled_tensor.specs.LogTensors.{LogTensorValue}
use Rattle.exp_log.specs.Logs.{IsLogOf}
use Rattle.exp_log.proofs.SeriesLaws.{series-IsLogTensor, series-stands}
use Rattle.exp_log.proofs.logarithm.log.Goals as goal

-- the tensor of a logarithm
abbrev IsLogarithm : TensorValue → TensorValue → Type 0
IsLogarithm log t = (word : List ℕ) → IsWord t.extent word → coefficient log word ≡ logarithm (coefficient t) word

pub unreachable-requires : goal.unreachable-requires
unreachable-requires c =
    c.in-None.ensures
    (series-IsLogTensor c.args.s.now c.in_ok-tensor.tensor c.weight-weight.result c.weight-weight.ensures.sig c.weight-weight.ensures.value
    (c.in_ok-tensor.ensures.extent ∙ ap (λ (t : TensorValue). t.extent) c.tensor-2.ensures.value)
    (subst (IsLogarithm c.in_ok-tensor.tensor) c.tensor-2.ensures.value c.in_ok-tensor.ensures.values))

pub returns-clause-stands : goal.returns-clause-stands
returns-clause-stands c = λ moves stands.
    subst (λ (p : LogTensorValue). IsLogOf p moves) (sym c.in-Some.ensures.1)
    (series-stands c.args.s.now (record { tensor = c.in_ok-tensor.tensor; weight = c.weight-weight.result }) moves c.weight-weight.ensures.value
    (c.in_ok-tensor.ensures.extent ∙ ap (λ (t : TensorValue). t.extent) c.tensor-2.ensures.value)
    (subst (IsLogarithm c.in_ok-tensor.tensor) c.tensor-2.ensures.value c.in_ok-tensor.ensures.values) stands)
