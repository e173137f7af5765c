use Rattle.std.proofs.Common.{◌≡◌, ◌≤◌, ◌<◌, ◌-◌, ◌*◌, ◌∙◌, ap, arith, rules, suc, ℕ, ℤ, pos, length, unsigned_abs, ◌+ℤ◌, ◌*ℤ◌, FitsSigned, to_z-of_z}
use Rattle.std.specs.Prelude.{slice_index_or}
use mir.Syntax.{w128}
use Rattle.std.proofs.lemmas.List.Elements.{All-get_or}
use Rattle.std.proofs.Math.Nat.{le_trans}
use Rattle.definitions.specs.Signature.{limit}
use Rattle.lie_bracket.specs.Brackets.{term}
use Rattle.lie_bracket.specs.Elements.{term_at}
use Rattle.lie_bracket.specs.Entries.{size_at}
use Rattle.lie_bracket.proofs.SumSteps.{SumSoFar, abs-part_at, abs-next, sum-next}
use Rattle.lie_bracket.proofs.sums.add_scaled.Goals as goal

pub product_of-requires : goal.product_of-requires
product_of-requires c =
    let i : ℕ = c.loop-t.t-index in
    let bounds : (1 ≤ (term_at c.args.terms.now i).number) × ((term_at c.args.terms.now i).number ≤ length c.args.sum.now) =
    All-get_or (λ t. (1 ≤ t.number) × (t.number ≤ length c.args.sum.now)) c.args.terms.now i (term (pos 0) 0) c.loop-t-test.true c.requires.numbers in
    let at : ℕ = (term_at c.args.terms.now i).number - 1 in
    let within : at < length c.loop-t.sum = omega (arith, c.loop-t.auto.sum, bounds.0, bounds.1) in
    let fk : FitsSigned w128 c.args.k = c.ranges.k in
    let ff : FitsSigned w128 ((term_at c.args.terms.now i).factor) = search rules in
    simp to_z-of_z (le_trans (abs-part_at c.args.k c.args.terms.now i (suc at) c.loop-t-test.true (omega (arith, bounds.0))) (let le : unsigned_abs c.args.k * size_at (suc at) c.args.terms.now ≤ limit = omega (arith, c.requires.room at (omega arith)) in le))

pub sum_of-requires : goal.sum_of-requires
sum_of-requires c =
    let i : ℕ = c.loop-t.t-index in
    let bounds : (1 ≤ (term_at c.args.terms.now i).number) × ((term_at c.args.terms.now i).number ≤ length c.args.sum.now) =
    All-get_or (λ t. (1 ≤ t.number) × (t.number ≤ length c.args.sum.now)) c.args.terms.now i (term (pos 0) 0) c.loop-t-test.true c.requires.numbers in
    let at : ℕ = (term_at c.args.terms.now i).number - 1 in
    let within : at < length c.loop-t.sum = omega (arith, c.loop-t.auto.sum, bounds.0, bounds.1) in
    let fk : FitsSigned w128 c.args.k = c.ranges.k in
    let ff : FitsSigned w128 ((term_at c.args.terms.now i).factor) = search rules in
    let so_far : SumSoFar c.args.sum.now c.loop-t.sum c.args.k c.args.terms.now i = simp to_z-of_z at c.loop-t.invariant in
    let fs : FitsSigned w128 (slice_index_or c.loop-t.sum at (pos 0)) = search rules in
    let fp : FitsSigned w128 c.product_of.result = search rules in
    let part : c.product_of.result ≡ c.args.k *ℤ (term_at c.args.terms.now i).factor = simp to_z-of_z at c.product_of.ensures in
    let most : unsigned_abs (slice_index_or c.loop-t.sum at (pos 0) +ℤ c.product_of.result) ≤ limit =
    omega (arith, ap (λ (z : ℤ). unsigned_abs (slice_index_or c.loop-t.sum at (pos 0) +ℤ z)) part, abs-next c.args.sum.now c.loop-t.sum c.args.k c.args.terms.now i at c.loop-t-test.true (omega (arith, bounds.0)) within c.loop-t.auto.sum c.requires.room so_far) in
    simp to_z-of_z most

pub loop-t-preserved : goal.loop-t-preserved
loop-t-preserved c =
    let i : ℕ = c.loop-t.t-index in
    let bounds : (1 ≤ (term_at c.args.terms.now i).number) × ((term_at c.args.terms.now i).number ≤ length c.args.sum.now) =
    All-get_or (λ t. (1 ≤ t.number) × (t.number ≤ length c.args.sum.now)) c.args.terms.now i (term (pos 0) 0) c.loop-t-test.true c.requires.numbers in
    let at : ℕ = (term_at c.args.terms.now i).number - 1 in
    let within : at < length c.loop-t.sum = omega (arith, c.loop-t.auto.sum, bounds.0, bounds.1) in
    let fk : FitsSigned w128 c.args.k = c.ranges.k in
    let ff : FitsSigned w128 ((term_at c.args.terms.now i).factor) = search rules in
    let so_far : SumSoFar c.args.sum.now c.loop-t.sum c.args.k c.args.terms.now i = simp to_z-of_z at c.loop-t.invariant in
    let fs : FitsSigned w128 (slice_index_or c.loop-t.sum at (pos 0)) = search rules in
    let fp : FitsSigned w128 c.product_of.result = search rules in
    let fr : FitsSigned w128 c.sum_of.result = search rules in
    let part : c.product_of.result ≡ c.args.k *ℤ (term_at c.args.terms.now i).factor = simp to_z-of_z at c.product_of.ensures in
    let whole : c.sum_of.result ≡ slice_index_or c.loop-t.sum at (pos 0) +ℤ c.product_of.result = simp to_z-of_z at c.sum_of.ensures in
    simp to_z-of_z
    (sum-next c.args.sum.now c.loop-t.sum c.args.k c.sum_of.result c.args.terms.now i at c.loop-t-test.true (omega arith) within (whole ∙ ap (λ (z : ℤ). slice_index_or c.loop-t.sum at (pos 0) +ℤ z) part) so_far)
