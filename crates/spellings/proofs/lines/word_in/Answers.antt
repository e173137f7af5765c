use Rattle.std.proofs.Common.{◌≡◌, ℕ, List, ◌-◌, ◌<◌, length, take, drop, arith, ap, sym, ◌∙◌}
use Rattle.std.proofs.lemmas.Bool.Decides.{nat_tests}
use Rattle.std.proofs.lemmas.List.{take_rest}
use Rattle.spellings.specs.Lines.{words_in}
use Rattle.spellings.proofs.LineLaws.{word_place, no_words, after_blanks-short}
use Rattle.spellings.proofs.lines.word_in.Goals as goal

pub returns-then-is_empty-clause-word : goal.returns-then-is_empty-clause-word
returns-then-is_empty-clause-word c =
    let none : length c.after_blanks-rest.result.now ≡ 0 = grind (arith, nat_tests) in
    let tail : List ℕ = take (length c.args.line.now - c.args.from) (drop c.args.from c.args.line.now) in
    ap words_in (sym (take_rest c.args.line.now c.args.from)) ∙ no_words tail c.after_blanks-rest.result.now c.after_blanks-rest.ensures none

pub overflow_sub-start : goal.overflow_sub-start
overflow_sub-start c = after_blanks-short c.args.line.now c.args.from _ c.after_blanks-rest.result.now (take_rest c.args.line.now c.args.from) c.after_blanks-rest.ensures

pub returns-clause-word : goal.returns-clause-word
returns-clause-word c =
    let some : 0 < length c.after_blanks-rest.result.now = grind (arith, nat_tests) in
    (word_place c.args.line.now c.args.from _ c.after_blanks-rest.result.now c.count_word.result c.requires (take_rest c.args.line.now c.args.from) c.after_blanks-rest.ensures some c.count_word.ensures.value c.count_word.ensures.within).word

pub returns-clause-places : goal.returns-clause-places
returns-clause-places c =
    let some : 0 < length c.after_blanks-rest.result.now = grind (arith, nat_tests) in
    let p = word_place c.args.line.now c.args.from _ c.after_blanks-rest.result.now c.count_word.result c.requires (take_rest c.args.line.now c.args.from) c.after_blanks-rest.ensures some c.count_word.ensures.value c.count_word.ensures.within in
    (p.after, p.some, p.within)
