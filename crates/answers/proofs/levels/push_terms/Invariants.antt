use Rattle.std.proofs.Common.{◌≡◌, ◌++◌, pos, take, slice_index_or, string_bytes}
use Rattle.definitions.specs.Words.{words_of, number}
use Rattle.answers.proofs.LevelTexts.{for_words, numerator_text}
use Rattle.answers.proofs.levels.push_terms.Given as goal

abbrev pub invariant-loop-index : goal.invariant-loop-index
invariant-loop-index l = string_bytes l.text ≡ string_bytes l.initial.text ++ for_words numerator_text (λ word. slice_index_or l.coefficients (number l.words.width word) (pos 0)) (take l.index (words_of l.words.width l.k))
