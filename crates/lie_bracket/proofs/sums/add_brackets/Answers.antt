use Rattle.std.proofs.Common.{◌≡◌, ◌≤◌, ◌^◌, ◌∙◌, ap, sym, subst, arith, rules, suc, ℕ, List, pos, length, take, unsigned_abs, ◌+ℤ◌, ◌*ℤ◌, FitsSigned, to_z-of_z}
use Rattle.std.specs.Prelude.{slice_index_or}
use mir.Syntax.{w128}
use Rattle.std.proofs.lemmas.List.{take_all}
use Rattle.std.proofs.Math.Nat.{le_trans}
use Rattle.definitions.specs.Signature.{limit}
use Rattle.lie_bracket.specs.declared.term.Term.{Term}
use Rattle.lie_bracket.specs.Brackets.{coefficient, over_terms}
use Rattle.lie_bracket.specs.Elements.{term_at}
use Rattle.lie_bracket.specs.Entries.{looked_up, AreSmall}
use Rattle.lie_bracket.proofs.SumSteps.{abs-part, sizes-looked_up, over-room, over-more}
use Rattle.lie_bracket.proofs.sums.add_brackets.Goals as goal

pub product_of-requires : goal.product_of-requires
product_of-requires c =
    let fk : FitsSigned w128 c.args.k = c.ranges.k in
    let ff : FitsSigned w128 ((term_at c.args.terms.now c.loop-t.t-index).factor) = search rules in
    simp to_z-of_z (le_trans (abs-part c.args.k c.args.terms.now c.loop-t.t-index c.loop-t-test.true) c.requires.range)

pub add_bracket-requires-clause-small : goal.add_bracket-requires-clause-small
add_bracket-requires-clause-small c = subst (λ (n : ℕ). AreSmall n c.args.entries.now) (sym c.loop-t.auto.sum) c.requires.small

pub add_bracket-requires-clause-range : goal.add_bracket-requires-clause-range
add_bracket-requires-clause-range c =
    let fk : FitsSigned w128 c.args.k = c.ranges.k in
    let ff : FitsSigned w128 ((term_at c.args.terms.now c.loop-t.t-index).factor) = search rules in
    let fp : FitsSigned w128 c.product_of.result = search rules in
    let part : c.product_of.result ≡ c.args.k *ℤ (term_at c.args.terms.now c.loop-t.t-index).factor = simp to_z-of_z at c.product_of.ensures in
    let within : unsigned_abs c.product_of.result ≤ limit = omega (arith, ap unsigned_abs part, abs-part c.args.k c.args.terms.now c.loop-t.t-index c.loop-t-test.true, c.requires.range) in
    simp to_z-of_z within

pub add_bracket-requires-clause-room : goal.add_bracket-requires-clause-room
add_bracket-requires-clause-room c =
    let fk : FitsSigned w128 c.args.k = c.ranges.k in
    let ff : FitsSigned w128 ((term_at c.args.terms.now c.loop-t.t-index).factor) = search rules in
    let fp : FitsSigned w128 c.product_of.result = search rules in
    let part : c.product_of.result ≡ c.args.k *ℤ (term_at c.args.terms.now c.loop-t.t-index).factor = simp to_z-of_z at c.product_of.ensures in
    simp to_z-of_z
    (over-room (2 ^ 40) c.args.sum.now c.loop-t.sum c.args.k c.product_of.result (λ n. looked_up c.args.sign c.args.entries.now n c.args.b) c.args.terms.now c.loop-t.t-index
    (λ n. sizes-looked_up (length c.args.sum.now) c.args.sign c.args.entries.now c.requires.small n c.args.b) c.loop-t-test.true c.loop-t.auto.sum c.requires.room (simp to_z-of_z at c.loop-t.invariant) part)

pub loop-t-preserved : goal.loop-t-preserved
loop-t-preserved c =
    let fk : FitsSigned w128 c.args.k = c.ranges.k in
    let ff : FitsSigned w128 ((term_at c.args.terms.now c.loop-t.t-index).factor) = search rules in
    let fp : FitsSigned w128 c.product_of.result = search rules in
    let part : c.product_of.result ≡ c.args.k *ℤ (term_at c.args.terms.now c.loop-t.t-index).factor = simp to_z-of_z at c.product_of.ensures in
    simp to_z-of_z
    (over-more c.args.sum.now c.loop-t.sum c.add_bracket.new.sum c.args.k c.product_of.result (λ n. looked_up c.args.sign c.args.entries.now n c.args.b) c.args.terms.now c.loop-t.t-index
    c.loop-t-test.true c.add_bracket.auto.sum (simp to_z-of_z at c.loop-t.invariant) part (simp to_z-of_z at c.add_bracket.ensures))

pub returns : goal.returns
returns c = λ i within.
    let fk : FitsSigned w128 c.args.k = c.ranges.k in
    let all : take c.loop-t.t-index c.args.terms.now ≡ c.args.terms.now = take_all c.loop-t.t-index c.args.terms.now (omega (arith, c.loop-t-test.false)) in
    let sum : slice_index_or c.loop-t.sum i (pos 0) ≡ slice_index_or c.args.sum.now i (pos 0) +ℤ (c.args.k *ℤ coefficient (suc i) (over_terms (take c.loop-t.t-index c.args.terms.now) (λ n. looked_up c.args.sign c.args.entries.now n c.args.b))) =
    simp to_z-of_z at (c.loop-t.invariant i within) in
    sum ∙ ap (λ (ts : List Term). slice_index_or c.args.sum.now i (pos 0) +ℤ (c.args.k *ℤ coefficient (suc i) (over_terms ts (λ n. looked_up c.args.sign c.args.entries.now n c.args.b)))) all
