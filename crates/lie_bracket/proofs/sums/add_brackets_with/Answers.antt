use Rattle.std.proofs.Common.{◌≡◌, ◌≤◌, ◌+◌, ◌*◌, ◌^◌, ◌∙◌, ap, sym, subst, arith, rules, ℕ, ℤ, List, pos, suc, length, take, unsigned_abs, ◌+ℤ◌, ◌*ℤ◌, FitsSigned, to_z-of_z}
use Rattle.std.specs.Prelude.{slice_index_or}
use Rattle.std.proofs.lemmas.List.{take_all}
use mir.Syntax.{w128}
use Rattle.definitions.specs.Signature.{limit}
use Rattle.definitions.proofs.Integers.{one-mul_ℤ}
use Rattle.lie_bracket.specs.declared.term.Term.{Term}
use Rattle.lie_bracket.specs.Brackets.{coefficient, over_terms}
use Rattle.lie_bracket.specs.Elements.{term_at}
use Rattle.lie_bracket.specs.Entries.{AreSmall, looked_up}
use Rattle.lie_bracket.proofs.SumSteps.{sizes-next, sizes-part, sizes-looked_up, over-room, over-more, over-bound}
use Rattle.lie_bracket.proofs.sums.add_brackets_with.Goals as goal

pub add_bracket-requires-clause-small : goal.add_bracket-requires-clause-small
add_bracket-requires-clause-small c = subst (λ (n : ℕ). AreSmall n c.args.entries.now) (sym c.loop-t.auto.sum) c.requires.small

pub add_bracket-requires-clause-range : goal.add_bracket-requires-clause-range
add_bracket-requires-clause-range c =
    let ts : List Term = c.args.terms.now in
    let factor : ℤ = (term_at ts c.loop-t.t-index).factor in
    let ff : FitsSigned w128 factor = search rules in
    let within : unsigned_abs factor ≤ limit = omega (arith, sizes-next ts c.loop-t.t-index c.loop-t-test.true, sizes-part ts (c.loop-t.t-index + 1), c.requires.range) in
    simp to_z-of_z within

pub add_bracket-requires-clause-room : goal.add_bracket-requires-clause-room
add_bracket-requires-clause-room c = λ i within.
    let factor : ℤ = (term_at c.args.terms.now c.loop-t.t-index).factor in
    let ff : FitsSigned w128 factor = search rules in
    let room : unsigned_abs (slice_index_or c.loop-t.sum i (pos 0)) + unsigned_abs factor * 2 ^ 40 ≤ limit =
    over-room (2 ^ 40) c.args.sum.now c.loop-t.sum (pos 1) factor (looked_up c.args.sign c.args.entries.now c.args.a) c.args.terms.now c.loop-t.t-index
    (λ n. sizes-looked_up (length c.args.sum.now) c.args.sign c.args.entries.now c.requires.small c.args.a n)
    c.loop-t-test.true c.loop-t.auto.sum (λ h l. omega (arith, c.requires.room h l)) c.loop-t.invariant (sym (one-mul_ℤ factor)) i within in
    simp to_z-of_z room

pub loop-t-preserved : goal.loop-t-preserved
loop-t-preserved c =
    let factor : ℤ = (term_at c.args.terms.now c.loop-t.t-index).factor in
    let ff : FitsSigned w128 factor = search rules in
    over-more c.args.sum.now c.loop-t.sum c.add_bracket.new.sum (pos 1) factor (looked_up c.args.sign c.args.entries.now c.args.a) c.args.terms.now c.loop-t.t-index c.loop-t-test.true
    c.add_bracket.auto.sum c.loop-t.invariant (sym (one-mul_ℤ factor)) (simp to_z-of_z at c.add_bracket.ensures)

pub returns-clause-value : goal.returns-clause-value
returns-clause-value c = λ h within.
    let f : ℕ → List Term = looked_up c.args.sign c.args.entries.now c.args.a in
    let old : ℤ = slice_index_or c.args.sum.now h (pos 0) in
    let all : take c.loop-t.t-index c.args.terms.now ≡ c.args.terms.now = take_all c.loop-t.t-index c.args.terms.now (omega (arith, c.loop-t-test.false)) in
    c.loop-t.invariant h within
    ∙ ap (λ (ts : List Term). old +ℤ (pos 1 *ℤ coefficient (suc h) (over_terms ts f))) all
    ∙ ap (λ (z : ℤ). old +ℤ z) (one-mul_ℤ (coefficient (suc h) (over_terms c.args.terms.now f)))

pub returns-clause-bound : goal.returns-clause-bound
returns-clause-bound c =
    over-bound (2 ^ 40) c.args.sum.now c.loop-t.sum (looked_up c.args.sign c.args.entries.now c.args.a) c.args.terms.now c.loop-t.t-index
    (λ n. sizes-looked_up (length c.args.sum.now) c.args.sign c.args.entries.now c.requires.small c.args.a n) c.loop-t.invariant
