use Rattle.std.proofs.Common.{◌≡◌, ◌∙◌, ◌+◌, ap, ℤ, pos, List, map, take, to_z, of_z, SFits, slice_index_or, rules}
use Rattle.std.specs.Int.{w128}
use Rattle.std.proofs.lemmas.List.{take_more, map_push}
use Rattle.std.proofs.lemmas.Int.{to_z-of_z}
use Rattle.lie_bracket.specs.declared.term.Term.{Term}
use Rattle.answers.proofs.ModularSums.{mod-sum-push}
use Rattle.answers.proofs.summary.with_terms.Goals as goal

pub loop-term-preserved : goal.loop-term-preserved
loop-term-preserved c =
    let factor : Term → ℤ = λ t. t.factor in
    let none : Term = record { factor = pos 0; number = 0 } in
    let term : Term = slice_index_or c.args.terms.now c.loop-term.term-index none in
    let fits : SFits w128 (slice_index_or c.args.terms.now c.loop-term.term-index none).factor = search rules in
    let same : to_z w128 (of_z w128 (slice_index_or c.args.terms.now c.loop-term.term-index none).factor) ≡ (slice_index_or c.args.terms.now c.loop-term.term-index none).factor = to_z-of_z w128 _ fits in
    mod-sum-push c.args.sum c.loop-term.sum c.with_value-sum.result (map factor (take c.loop-term.term-index c.args.terms.now)) (factor term) (map factor (take (c.loop-term.term-index + 1) c.args.terms.now))
    (ap (λ (ts : List Term). map factor ts) (take_more c.args.terms.now c.loop-term.term-index none c.loop-term-test.true) ∙ map_push factor (take c.loop-term.term-index c.args.terms.now) term)
    c.loop-term.invariant (rw same at c.with_value-sum.ensures)
