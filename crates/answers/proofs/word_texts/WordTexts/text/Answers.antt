use Rattle.std.proofs.Common.{◌≡◌, ◌∙◌, suc, ap, arith}
use Rattle.std.specs.Prelude.{map}
use Rattle.definitions.specs.Words.{Extent, shorter}
use Rattle.definitions.specs.AllWords.{words_below}
use Rattle.answers.specs.Text.{word_text}
use Rattle.answers.proofs.NameLists.{word-within, word-there}
use Rattle.answers.proofs.word_texts.WordTexts.text.Goals as goal

pub get-requires : goal.get-requires
get-requires c =
    let extent : Extent = c.args.self.now in
    let texts : c.self.inside.texts ≡ map word_text (words_below extent.width (suc extent.depth)) = c.self.invariant ∙ ap (λ (e : Extent). map word_text (words_below e.width (suc e.depth))) c.self.view_is in
    let before : c.before-2.result ≡ shorter extent.width c.args.k = c.before-2.ensures.value ∙ ap (λ (e : Extent). shorter e.width c.args.k) c.self.view_is in
    rw (before, texts) (word-within extent.width c.args.k (suc extent.depth) c.args.number (omega (arith, c.requires.depth)) c.requires.number)

pub returns : goal.returns
returns c =
    let extent : Extent = c.args.self.now in
    let texts : c.self.inside.texts ≡ map word_text (words_below extent.width (suc extent.depth)) = c.self.invariant ∙ ap (λ (e : Extent). map word_text (words_below e.width (suc e.depth))) c.self.view_is in
    let before : c.before-2.result ≡ shorter extent.width c.args.k = c.before-2.ensures.value ∙ ap (λ (e : Extent). shorter e.width c.args.k) c.self.view_is in
    c.get.ensures ∙ (rw (before, texts) (word-there extent.width c.args.k (suc extent.depth) c.args.number (omega (arith, c.requires.depth)) c.requires.number))
