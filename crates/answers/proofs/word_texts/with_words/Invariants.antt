use Rattle.std.proofs.Common.{◌≡◌, ◌++◌, length, take}
use Rattle.std.specs.Prelude.{map}
use Rattle.definitions.specs.Words.{words_of}
use Rattle.answers.specs.Text.{word_text}
use Rattle.answers.proofs.word_texts.with_words.Given as goal

abbrev pub invariant-loop-number : goal.invariant-loop-number
invariant-loop-number l = record {
  len : length l.word ≡ l.k;
  texts : l.texts ≡ l.initial.texts ++ map word_text (take l.number (words_of l.shape.width l.k));
}
