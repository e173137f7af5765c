use Rattle.std.proofs.Common.{◌≡◌, ◌<◌, ◌∙◌, sym, subst, arith, rules, ℕ, ℤ, pos, suc, length, length-set, ◌+ℤ◌, ◌*ℤ◌, FitsSigned, to_z-of_z}
use Rattle.std.specs.Prelude.{slice_index_or}
use mir.Syntax.{w128}
use Rattle.definitions.specs.Hall.{hall_list, degree}
use Rattle.lie_bracket.specs.Brackets.{coefficient, over_terms}
use Rattle.lie_bracket.specs.Entries.{AreSmall, looked_up}
use Rattle.lie_bracket.proofs.TableSteps.{pair-IsHall, IsSplit, first-side, second-room, both-sides, found-value, split-factors, no-letter}
use Rattle.lie_bracket.proofs.build.write_factors.Goals as goal

pub add_brackets-requires-clause-small : goal.add_brackets-requires-clause-small
add_brackets-requires-clause-small c = subst (λ (n : ℕ). AreSmall n c.args.entries.now) (sym c.requires.len) c.requires.small

pub add_brackets-requires-in-Some-parents-clause-small : goal.add_brackets-requires-in-Some-parents-clause-small
add_brackets-requires-in-Some-parents-clause-small c = subst (λ (n : ℕ). AreSmall n c.args.entries.now) (sym (c.add_brackets.auto.sum ∙ c.requires.len)) c.requires.small

pub add_brackets-requires-in-Some-parents-clause-room : goal.add_brackets-requires-in-Some-parents-clause-room
add_brackets-requires-in-Some-parents-clause-room c = λ i within.
    let fo : FitsSigned w128 c.of.result = search rules in
    let first : ℤ = slice_index_or c.add_brackets.new.sum i (pos 0) in
    let before : i < length c.args.sum.now = omega (arith, c.add_brackets.auto.sum) in
    let half : IsSplit c.args.sign c.args.entries.now c.args.a c.in-Some-parents.l c.in-Some-parents.r i first =
    first-side (length (hall_list c.args.hall.now.width c.args.hall.now.depth)) c.args.sign c.args.entries.now c.requires.small c.args.a c.in-Some-parents.l c.in-Some-parents.r i (slice_index_or c.args.sum.now i (pos 0)) first
    c.terms_of.result.now (c.requires.zeros i before) c.terms_of.ensures (c.add_brackets.ensures i (omega arith)) in
    simp to_z-of_z
    (second-room (length (hall_list c.args.hall.now.width c.args.hall.now.depth)) c.args.sign c.args.entries.now c.requires.small c.args.a c.in-Some-parents.l c.in-Some-parents.r i first c.of.result c.terms_of-in-Some-parents.result.now half c.of.ensures
    c.terms_of-in-Some-parents.ensures)

pub returns-in-Some-parents-clause-value : goal.returns-in-Some-parents-clause-value
returns-in-Some-parents-clause-value c = λ i within.
    let fo : FitsSigned w128 c.of.result = search rules in
    let first : ℤ = slice_index_or c.add_brackets.new.sum i (pos 0) in
    let before : i < length c.args.sum.now = omega (arith, c.add_brackets.auto.sum, c.add_brackets-in-Some-parents.auto.sum) in
    let half : IsSplit c.args.sign c.args.entries.now c.args.a c.in-Some-parents.l c.in-Some-parents.r i first =
    first-side (length (hall_list c.args.hall.now.width c.args.hall.now.depth)) c.args.sign c.args.entries.now c.requires.small c.args.a c.in-Some-parents.l c.in-Some-parents.r i (slice_index_or c.args.sum.now i (pos 0)) first
    c.terms_of.result.now (c.requires.zeros i before) c.terms_of.ensures (c.add_brackets.ensures i (omega arith)) in
    let added : slice_index_or c.add_brackets-in-Some-parents.new.sum i (pos 0) ≡ first +ℤ (c.of.result *ℤ coefficient (suc i) (over_terms c.terms_of-in-Some-parents.result.now (λ n. looked_up c.args.sign c.args.entries.now n c.in-Some-parents.l))) =
    simp to_z-of_z at (c.add_brackets-in-Some-parents.ensures i within) in
    (both-sides (length (hall_list c.args.hall.now.width c.args.hall.now.depth)) c.args.sign c.args.entries.now c.requires.small c.args.a c.in-Some-parents.l c.in-Some-parents.r i first (slice_index_or c.add_brackets-in-Some-parents.new.sum i (pos 0)) c.of.result
    c.terms_of-in-Some-parents.result.now half c.of.ensures c.terms_of-in-Some-parents.ensures added).0
    ∙ split-factors c.args.sign c.args.hall.now.depth (hall_list c.args.hall.now.width c.args.hall.now.depth) (pair-IsHall c.args.hall.now.width c.args.hall.now.depth c.args.a c.args.b c.requires.pair) c.args.entries.now c.args.a c.args.b (degree (hall_list c.args.hall.now.width c.args.hall.now.depth) c.args.b) c.in-Some-parents.l c.in-Some-parents.r (suc i) c.requires.done c.requires.pair
    c.in_default.ensures c.in-Some-parents.ensures (omega arith) (omega (arith, before, c.requires.len))

pub returns-in-Some-parents-clause-range : goal.returns-in-Some-parents-clause-range
returns-in-Some-parents-clause-range c = λ i within.
    let fo : FitsSigned w128 c.of.result = search rules in
    let first : ℤ = slice_index_or c.add_brackets.new.sum i (pos 0) in
    let before : i < length c.args.sum.now = omega (arith, c.add_brackets.auto.sum, c.add_brackets-in-Some-parents.auto.sum) in
    let half : IsSplit c.args.sign c.args.entries.now c.args.a c.in-Some-parents.l c.in-Some-parents.r i first =
    first-side (length (hall_list c.args.hall.now.width c.args.hall.now.depth)) c.args.sign c.args.entries.now c.requires.small c.args.a c.in-Some-parents.l c.in-Some-parents.r i (slice_index_or c.args.sum.now i (pos 0)) first
    c.terms_of.result.now (c.requires.zeros i before) c.terms_of.ensures (c.add_brackets.ensures i (omega arith)) in
    let added : slice_index_or c.add_brackets-in-Some-parents.new.sum i (pos 0) ≡ first +ℤ (c.of.result *ℤ coefficient (suc i) (over_terms c.terms_of-in-Some-parents.result.now (λ n. looked_up c.args.sign c.args.entries.now n c.in-Some-parents.l))) =
    simp to_z-of_z at (c.add_brackets-in-Some-parents.ensures i within) in
    (both-sides (length (hall_list c.args.hall.now.width c.args.hall.now.depth)) c.args.sign c.args.entries.now c.requires.small c.args.a c.in-Some-parents.l c.in-Some-parents.r i first (slice_index_or c.add_brackets-in-Some-parents.new.sum i (pos 0)) c.of.result
    c.terms_of-in-Some-parents.result.now half c.of.ensures c.terms_of-in-Some-parents.ensures added).1

pub returns-in-Some-clause-value : goal.returns-in-Some-clause-value
returns-in-Some-clause-value c = λ i within.
    found-value c.args.sign c.args.hall.now.depth (hall_list c.args.hall.now.width c.args.hall.now.depth) (pair-IsHall c.args.hall.now.width c.args.hall.now.depth c.args.a c.args.b c.requires.pair) c.args.a c.args.b c.in-Some.n i c.args.sum.now c.requires.pair c.in-Some.ensures.0 c.in-Some.ensures.1 c.requires.len c.requires.zeros (omega (arith, length-set {A = ℤ}))

pub returns-in_default-parents-clause-value : goal.returns-in_default-parents-clause-value
returns-in_default-parents-clause-value c = λ i within.
    absurd (no-letter c.args.hall.now.depth (hall_list c.args.hall.now.width c.args.hall.now.depth) (pair-IsHall c.args.hall.now.width c.args.hall.now.depth c.args.a c.args.b c.requires.pair) c.args.a c.args.b c.requires.pair c.in_default.ensures c.in_default-parents.ensures)
