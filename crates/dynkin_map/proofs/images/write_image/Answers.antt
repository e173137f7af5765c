use Rattle.std.proofs.Common.{◌≡◌, ◌≤◌, ◌∙◌, ℤ, List, pos, suc, ap₂, arith, length, ◌+ℤ◌}
use Rattle.std.proofs.lemmas.Int.{ints}
use Rattle.std.specs.Prelude.{slice_index_or}
use Rattle.lie_bracket.specs.declared.term.Term.{Term}
use Rattle.lie_bracket.specs.Brackets.{coefficient, over_terms}
use Rattle.dynkin_map.proofs.LongerWords.{brackets_of, letter-inside, letter-Numbers, image-added}
use Rattle.dynkin_map.proofs.images.write_image.Goals as goal

pub add_scaled-requires-clause-numbers : goal.add_scaled-requires-clause-numbers
add_scaled-requires-clause-numbers c = letter-Numbers c.args.table.now (length c.args.sum.now) c.args.a c.requires.letter c.requires.len

pub add_brackets-requires-clause-left : goal.add_brackets-requires-clause-left
add_brackets-requires-clause-left c = letter-inside c.args.table.now c.args.a c.requires.letter

pub returns-else-k-eq0-clause-value : goal.returns-else-k-eq0-clause-value
returns-else-k-eq0-clause-value c = λ word letters len row h within.
    let some : 1 ≤ length word = omega (arith, c.if-k-eq0.false, len) in
    let zero : slice_index_or c.args.sum.now h (pos 0) ≡ pos 0 = c.requires.zeros h (omega (arith, within, c.add_brackets.auto.sum)) in
    c.add_brackets.ensures.value h within
    ∙ ap₂ (λ (z : ℤ) (ts : List Term). z +ℤ coefficient (suc h) (over_terms ts (brackets_of c.args.table.now c.args.a))) zero row
    ∙ (λ (z : ℤ). let e : pos 0 +ℤ z ≡ z = omega (arith, ints) in e) (coefficient (suc h) (over_terms _ (brackets_of c.args.table.now c.args.a)))
    ∙ image-added c.args.table.now c.args.a (suc h) word c.requires.shape.some_depth letters some
