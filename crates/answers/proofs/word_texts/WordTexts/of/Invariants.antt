use Rattle.std.proofs.Common.{◌≡◌}
use Rattle.std.specs.Prelude.{map}
use Rattle.definitions.specs.AllWords.{words_below}
use Rattle.answers.specs.Text.{word_text}
use Rattle.answers.proofs.word_texts.WordTexts.of.Given as goal

abbrev pub invariant-loop-k : goal.invariant-loop-k
invariant-loop-k l = l.texts ≡ map word_text (words_below l.shape.width l.k)
