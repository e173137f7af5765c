use Rattle.std.proofs.Common.{◌≡◌, pos, take, slice_index_or}
use Rattle.std.specs.Prelude.{map}
use Rattle.definitions.specs.Words.{words_of, number}
use Rattle.serde_json.specs.View.{view}
use Rattle.answers.proofs.LevelTexts.{for_words}
use Rattle.answers.proofs.JsonLevels.{numerator_json}
use Rattle.answers.proofs.json_levels.word_terms.Given as goal

abbrev pub invariant-loop-index : goal.invariant-loop-index
invariant-loop-index l = map view l.terms.items ≡ for_words numerator_json (λ word. slice_index_or l.coefficients (number l.words.width word) (pos 0)) (take l.index (words_of l.words.width l.k))
