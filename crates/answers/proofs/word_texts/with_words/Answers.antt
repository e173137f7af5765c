use Rattle.std.proofs.Common.{◌++◌, ◌∙◌, List, ℕ, ap, arith}
use Rattle.std.specs.Prelude.{map}
use Rattle.std.proofs.lemmas.List.{take_all}
use Rattle.definitions.specs.Words.{words_of}
use Rattle.definitions.proofs.WordLists.{IsNumbered, length-words_of}
use Rattle.answers.specs.Text.{word_text}
use Rattle.answers.proofs.NameLists.{words-more}
use Rattle.answers.proofs.word_texts.with_words.Goals as goal

pub loop-number-preserved : goal.loop-number-preserved
loop-number-preserved c =
    let numbered : IsNumbered c.args.shape.width c.args.k c.loop-number.number c.write_word.new.letters =
    record { letters = c.write_word.ensures.word.letters; len = omega (arith, c.loop-number.invariant.len); number_is = c.write_word.ensures.value } in
    record {
      len = omega (arith, c.loop-number.invariant.len);
      texts = words-more c.args.shape.width c.args.k c.loop-number.number c.write_word.new.letters c.args.texts c.loop-number.texts c.in_ok-texts.texts (omega arith) numbered c.loop-number.invariant.texts
          (rw (c.deref.ensures, c.in_ok-text.ensures) at c.in_ok-texts.ensures);
    }

pub returns : goal.returns
returns c =
    c.loop-number.invariant.texts
    ∙ ap (λ (words : List (List ℕ)). c.args.texts ++ map word_text words) (take_all c.loop-number.number (words_of c.args.shape.width c.args.k) (omega (arith, length-words_of c.args.shape.width c.args.k)))
