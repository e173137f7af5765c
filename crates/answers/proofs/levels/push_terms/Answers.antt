use Rattle.std.proofs.Common.{◌≡◌, ◌++◌, ◌∙◌, ◌^◌, ◌<◌, ℕ, List, ap, pos, arith, string_bytes, rules, to_z, of_z, SFits, slice_index_or}
use Rattle.std.specs.Int.{w128}
use Rattle.std.proofs.lemmas.List.{take_all}
use Rattle.std.proofs.lemmas.Int.{to_z-of_z}
use Rattle.definitions.specs.Words.{words_of, number}
use Rattle.definitions.proofs.WordLists.{length-words_of}
use Rattle.answers.proofs.LevelTexts.{for_words, numerator_text, words-more}
use Rattle.answers.proofs.levels.push_terms.Goals as goal

pub loop-index-preserved : goal.loop-index-preserved
loop-index-preserved c =
    let within : c.loop-index.index < c.args.words.now.width ^ c.args.k = omega arith in
    let fits : SFits w128 (slice_index_or c.args.coefficients.now c.loop-index.index (pos 0)) = search rules in
    let same : to_z w128 (of_z w128 (slice_index_or c.args.coefficients.now c.loop-index.index (pos 0))) ≡ slice_index_or c.args.coefficients.now c.loop-index.index (pos 0) = to_z-of_z w128 _ fits in
    words-more numerator_text c.args.words.now.width c.args.k c.loop-index.index (λ n. slice_index_or c.args.coefficients.now n (pos 0)) (string_bytes c.args.text.now) (string_bytes c.loop-index.text) (string_bytes c.push_numbered.new.text) within c.loop-index.invariant
    (rw same at c.in_ok-push_numbered.ensures)

pub returns : goal.returns
returns c =
    c.loop-index.invariant
    ∙ ap (λ (ws : List (List ℕ)). string_bytes c.args.text.now ++ for_words numerator_text (λ word. slice_index_or c.args.coefficients.now (number c.args.words.now.width word) (pos 0)) ws)
    (take_all c.loop-index.index (words_of c.args.words.now.width c.args.k) (omega (arith, length-words_of c.args.words.now.width c.args.k)))
