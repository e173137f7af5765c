use Rattle.std.proofs.Common.{◌≡◌, ◌∙◌, ◌^◌, ◌<◌, ℕ, List, [], ap, pos, arith, rules, to_z, of_z, SFits, slice_index_or}
use Rattle.std.specs.Prelude.{map}
use Rattle.std.specs.Int.{w128}
use Rattle.std.proofs.lemmas.List.{take_all}
use Rattle.std.proofs.lemmas.Int.{to_z-of_z}
use Rattle.definitions.specs.Words.{words_of, number}
use Rattle.definitions.proofs.WordLists.{length-words_of}
use Rattle.serde_json.specs.View.{view}
use Rattle.answers.proofs.LevelTexts.{for_words, words-more}
use Rattle.answers.proofs.JsonLevels.{numerator_json}
use Rattle.answers.proofs.json_levels.word_terms.Goals as goal

pub loop-index-preserved : goal.loop-index-preserved
loop-index-preserved c =
    let within : c.loop-index.index < c.args.words.now.width ^ c.args.k = omega arith in
    let fits : SFits w128 (slice_index_or c.args.coefficients.now c.loop-index.index (pos 0)) = search rules in
    let same : to_z w128 (of_z w128 (slice_index_or c.args.coefficients.now c.loop-index.index (pos 0))) ≡ slice_index_or c.args.coefficients.now c.loop-index.index (pos 0) = to_z-of_z w128 _ fits in
    words-more numerator_json c.args.words.now.width c.args.k c.loop-index.index (λ n. slice_index_or c.args.coefficients.now n (pos 0)) [] (map view c.loop-index.terms.items) (map view c.add_numbered.new.terms.items) within c.loop-index.invariant
    (rw same at c.in_ok-add_numbered.ensures)

pub returns : goal.returns
returns c =
    c.loop-index.invariant
    ∙ ap (λ (ws : List (List ℕ)). for_words numerator_json (λ word. slice_index_or c.args.coefficients.now (number c.args.words.now.width word) (pos 0)) ws)
    (take_all c.loop-index.index (words_of c.args.words.now.width c.args.k) (omega (arith, length-words_of c.args.words.now.width c.args.k)))
