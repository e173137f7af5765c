use Rattle.std.proofs.Common.{◌≡◌, ◌≤◌, ◌+◌, ◌*◌, ◌∙◌, ℕ, ℤ, List, [], suc, pos, sym, ap, subst, arith, rules, add-one, length, unsigned_abs, ◌+ℤ◌, ◌*ℤ◌, FitsSigned, to_z-of_z}
use Rattle.std.specs.Prelude.{slice_index_or}
use mir.Syntax.{w128}
use Rattle.definitions.specs.Signature.{limit}
use Rattle.definitions.specs.Sums.{sum_below}
use Rattle.lie_bracket.specs.declared.term.Term.{Term}
use Rattle.lie_bracket.specs.Brackets.{coefficient}
use Rattle.lie_bracket.specs.Entries.{size_at}
use Rattle.lie_bracket.proofs.SumSteps.{abs-coefficient_at}
use Rattle.dynkin_map.proofs.RowSums.{added-none, added-room, added-next}
use Rattle.dynkin_map.proofs.sums.add_rows.Goals as goal

pub loop-i-init : goal.loop-i-init
loop-i-init c = λ h within.
    added-none (slice_index_or c.args.sum.now h (pos 0)) (λ i. slice_index_or c.args.factors.now i (pos 0) *ℤ coefficient (suc h) (slice_index_or c.args.rows.now (c.args.from + i) []))

pub add_scaled-requires-clause-room : goal.add_scaled-requires-clause-room
add_scaled-requires-clause-room c = λ h within.
    let i : ℕ = c.loop-i.i in
    let factor : ℕ → ℤ = λ j. slice_index_or c.args.factors.now j (pos 0) in
    let row : ℕ → List Term = λ j. slice_index_or c.args.rows.now (c.args.from + j) [] in
    let fits : FitsSigned w128 (factor i) = search rules in
    let room : unsigned_abs (slice_index_or c.loop-i.sum h (pos 0)) + unsigned_abs (factor i) * size_at (suc h) c.row.result.now ≤ limit =
    subst (λ (r : List Term). unsigned_abs (slice_index_or c.loop-i.sum h (pos 0)) + unsigned_abs (factor i) * size_at (suc h) r ≤ limit) (sym c.row.ensures)
    (added-room (length c.args.factors.now) i (slice_index_or c.args.sum.now h (pos 0)) (slice_index_or c.loop-i.sum h (pos 0)) factor (λ j. coefficient (suc h) (row j)) (λ j. size_at (suc h) (row j))
    c.loop-i-test.true (λ j l. abs-coefficient_at (suc h) (row j)) (c.requires.room h (omega (arith, within, c.loop-i.auto.sum))) (c.loop-i.invariant h within)) in
    simp to_z-of_z room

pub loop-i-preserved : goal.loop-i-preserved
loop-i-preserved c = λ h within.
    let i : ℕ = c.loop-i.i in
    let factor : ℕ → ℤ = λ j. slice_index_or c.args.factors.now j (pos 0) in
    let row : ℕ → List Term = λ j. slice_index_or c.args.rows.now (c.args.from + j) [] in
    let fits : FitsSigned w128 (factor i) = search rules in
    let step : slice_index_or c.add_scaled.new.sum h (pos 0) ≡ slice_index_or c.loop-i.sum h (pos 0) +ℤ (factor i *ℤ coefficient (suc h) c.row.result.now) = simp to_z-of_z at (c.add_scaled.ensures.value h within) in
    subst (λ (n : ℕ). slice_index_or c.add_scaled.new.sum h (pos 0) ≡ slice_index_or c.args.sum.now h (pos 0) +ℤ sum_below n (λ j. factor j *ℤ coefficient (suc h) (row j))) (sym (add-one i))
    (added-next i (slice_index_or c.args.sum.now h (pos 0)) (slice_index_or c.loop-i.sum h (pos 0)) (slice_index_or c.add_scaled.new.sum h (pos 0)) factor (λ j. coefficient (suc h) (row j))
    (c.loop-i.invariant h (omega (arith, within, c.add_scaled.auto.sum)))
    (step ∙ ap (λ (r : List Term). slice_index_or c.loop-i.sum h (pos 0) +ℤ (factor i *ℤ coefficient (suc h) r)) c.row.ensures))
