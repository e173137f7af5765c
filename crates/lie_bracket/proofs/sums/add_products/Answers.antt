use Rattle.std.proofs.Common.{◌≤◌, ◌+◌, ◌*◌, ◌^◌, sym, subst, arith, rules, ℕ, ℤ, pos, length, unsigned_abs, FitsSigned, to_z-of_z}
use Rattle.std.specs.Prelude.{slice_index_or}
use mir.Syntax.{w128}
use Rattle.definitions.specs.Signature.{limit}
use Rattle.definitions.proofs.Integers.{one-mul_ℤ}
use Rattle.lie_bracket.specs.Brackets.{over_terms}
use Rattle.lie_bracket.specs.Elements.{term_at}
use Rattle.lie_bracket.specs.Entries.{AreSmall, sizes, looked_up}
use Rattle.lie_bracket.proofs.SumSteps.{sizes-over, sizes-looked_up, over-room, over-more, zero-room, over-within, factor-range}
use Rattle.lie_bracket.proofs.sums.add_products.Goals as goal

pub add_brackets-requires-clause-small : goal.add_brackets-requires-clause-small
add_brackets-requires-clause-small c = subst (λ (n : ℕ). AreSmall n c.args.entries.now) (sym c.loop-t.auto.sum) c.requires.small

pub add_brackets-requires-clause-room : goal.add_brackets-requires-clause-room
add_brackets-requires-clause-room c = λ i within.
    let factor : ℤ = (term_at c.args.right.now c.loop-t.t-index).factor in
    let ff : FitsSigned w128 factor = search rules in
    let room : unsigned_abs (slice_index_or c.loop-t.sum i (pos 0)) + unsigned_abs factor * (sizes c.args.left.now * 2 ^ 40) ≤ limit =
    over-room (sizes c.args.left.now * 2 ^ 40) c.args.sum.now c.loop-t.sum (pos 1) factor (λ b. over_terms c.args.left.now (λ a. looked_up c.args.sign c.args.entries.now a b)) c.args.right.now c.loop-t.t-index
    (λ b. sizes-over (2 ^ 40) (λ a. looked_up c.args.sign c.args.entries.now a b) c.args.left.now (λ a. sizes-looked_up (length c.args.sum.now) c.args.sign c.args.entries.now c.requires.small a b))
    c.loop-t-test.true c.loop-t.auto.sum (zero-room c.args.sum.now c.args.left.now c.args.right.now c.requires.zeros c.requires.room) c.loop-t.invariant (sym (one-mul_ℤ factor)) i within in
    let same : unsigned_abs (slice_index_or c.loop-t.sum i (pos 0)) + unsigned_abs factor * sizes c.args.left.now * 2 ^ 40 ≤ limit = omega (arith, room) in
    simp to_z-of_z same

pub add_brackets-requires-clause-range : goal.add_brackets-requires-clause-range
add_brackets-requires-clause-range c =
    let ff : FitsSigned w128 ((term_at c.args.right.now c.loop-t.t-index).factor) = search rules in
    simp to_z-of_z (factor-range c.args.left.now c.args.right.now c.loop-t.t-index c.loop-t-test.true c.requires.room)

pub loop-t-preserved : goal.loop-t-preserved
loop-t-preserved c =
    let factor : ℤ = (term_at c.args.right.now c.loop-t.t-index).factor in
    let ff : FitsSigned w128 factor = search rules in
    over-more c.args.sum.now c.loop-t.sum c.add_brackets.new.sum (pos 1) factor (λ b. over_terms c.args.left.now (λ a. looked_up c.args.sign c.args.entries.now a b)) c.args.right.now c.loop-t.t-index c.loop-t-test.true
    c.add_brackets.auto.sum c.loop-t.invariant (sym (one-mul_ℤ factor)) (simp to_z-of_z at c.add_brackets.ensures)

pub returns-clause-range : goal.returns-clause-range
returns-clause-range c =
    over-within (sizes c.args.left.now * 2 ^ 40) c.args.sum.now c.loop-t.sum (λ b. over_terms c.args.left.now (λ a. looked_up c.args.sign c.args.entries.now a b)) c.args.right.now c.loop-t.t-index
    (λ b. sizes-over (2 ^ 40) (λ a. looked_up c.args.sign c.args.entries.now a b) c.args.left.now (λ a. sizes-looked_up (length c.args.sum.now) c.args.sign c.args.entries.now c.requires.small a b))
    c.loop-t.auto.sum (zero-room c.args.sum.now c.args.left.now c.args.right.now c.requires.zeros c.requires.room) c.loop-t.invariant
