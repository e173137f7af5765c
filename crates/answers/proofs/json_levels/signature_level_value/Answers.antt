use Rattle.std.proofs.Common.{◌≡◌, ◌∙◌, ℕ, ℤ, List, ap₂, pos, slice_index_or}
use Rattle.std.specs.Prelude.{map}
use Rattle.std.proofs.lemmas.Result.{IfOk-weaker}
use Rattle.definitions.specs.Words.{words_of, number}
use Rattle.scaled_tensor.specs.Tensors.{coefficient}
use Rattle.serde_json.specs.View.{view}
use Rattle.answers.specs.Json.{level_json}
use Rattle.answers.proofs.LevelTexts.{for_words, words-same}
use Rattle.answers.proofs.JsonLevels.{numerator_json}
use Rattle.answers.proofs.json_levels.signature_level_value.Goals as goal

pub returns : goal.returns
returns c =
    let kept : List ℕ → ℤ = λ word. slice_index_or c.level.result.now (number c.args.tensor.now.extent.width word) (pos 0) in
    let told : map view c.in_ok-terms.terms.items ≡ for_words numerator_json (coefficient c.args.tensor.now) (words_of c.args.tensor.now.extent.width c.args.k) =
    (rw c.requires.words at c.in_ok-terms.ensures)
    ∙ words-same numerator_json c.args.tensor.now.extent kept (coefficient c.args.tensor.now) c.args.k c.requires.depth c.level.ensures.value in
    IfOk-weaker c.level_value.result _ _ (λ level is. is ∙ ap₂ level_json c.sig_den.ensures told) c.level_value.ensures
