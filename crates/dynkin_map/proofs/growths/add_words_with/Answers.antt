use Rattle.std.proofs.Common.{◌≤◌, ◌∙◌, ℤ, List, pos, suc, ap, sym, subst, arith, length, ◌+ℤ◌}
use Rattle.std.specs.Prelude.{slice_index_or, All}
use Rattle.definitions.specs.Hall.{InHall}
use Rattle.lie_bracket.specs.declared.term.Term.{Term}
use Rattle.lie_bracket.specs.Brackets.{coefficient, over_terms}
use Rattle.lie_bracket.proofs.NonzeroLaws.{nonzero-Numbers}
use Rattle.dynkin_map.specs.Table.{majorant_sum}
use Rattle.dynkin_map.proofs.CoordinateSteps.{members_of}
use Rattle.dynkin_map.proofs.LongerWords.{letter-inside, letter-Numbers, numbers-inside}
use Rattle.dynkin_map.proofs.GrowthSums.{majorants_of, next-sum}
use Rattle.dynkin_map.proofs.growths.add_words_with.Goals as goal

pub add_scaled-requires-clause-numbers : goal.add_scaled-requires-clause-numbers
add_scaled-requires-clause-numbers c = letter-Numbers c.args.table.now (length c.args.sum.now) c.args.a c.requires.letter c.requires.len

pub add_majorants-requires-clause-left : goal.add_majorants-requires-clause-left
add_majorants-requires-clause-left c = letter-inside c.args.table.now c.args.a c.requires.letter

pub add_majorants-requires-clause-right : goal.add_majorants-requires-clause-right
add_majorants-requires-clause-right c =
    let hall = members_of c.args.table.now in
    subst (λ (ts : List Term). All (λ t. InHall hall t.number) ts) (sym (c.requires.words (omega (arith, c.if-k-eq0.false))))
    (numbers-inside hall _ (nonzero-Numbers (length hall) (majorant_sum c.args.table.now c.args.k)))

pub returns-else-k-eq0-clause-value : goal.returns-else-k-eq0-clause-value
returns-else-k-eq0-clause-value c = λ h within.
    let some : 1 ≤ c.args.k = omega (arith, c.if-k-eq0.false) in
    c.add_majorants.ensures.value h within
    ∙ ap (λ (ts : List Term). slice_index_or c.args.sum.now h (pos 0) +ℤ coefficient (suc h) (over_terms ts (majorants_of c.args.table.now c.args.a))) (c.requires.words some)
    ∙ ap (λ (z : ℤ). slice_index_or c.args.sum.now h (pos 0) +ℤ z) (next-sum c.args.table.now c.args.k c.args.a (suc h) c.requires.shape.some_depth some)
