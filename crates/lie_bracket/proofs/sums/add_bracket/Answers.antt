use Rattle.std.proofs.Common.{◌≡◌, ◌≤◌, ◌+◌, ◌*◌, ◌^◌, ◌∙◌, ap, ap₂, sym, subst, arith, rules, suc, ℤ, List, pos, length, unsigned_abs, ◌+ℤ◌, ◌*ℤ◌, FitsSigned, to_z-of_z}
use Rattle.std.specs.Prelude.{slice_index_or}
use mir.Syntax.{w128}
use Rattle.std.proofs.Math.Nat.{mul-le-mul_left}
use Rattle.definitions.specs.Signature.{limit}
use Rattle.lie_bracket.specs.declared.term.Term.{Term}
use Rattle.lie_bracket.specs.Brackets.{coefficient}
use Rattle.lie_bracket.specs.Entries.{stored, looked_up, signed, sizes, size_at, Numbers}
use Rattle.lie_bracket.proofs.SumSteps.{size_at-le, abs-signed, signed-factor}
use Rattle.lie_bracket.proofs.EntryLaws.{looked_up-above, greater-above}
use Rattle.lie_bracket.proofs.sums.add_bracket.Goals as goal

pub add_scaled-requires-clause-numbers : goal.add_scaled-requires-clause-numbers
add_scaled-requires-clause-numbers c = subst (Numbers (length c.args.sum.now)) (sym c.terms_of.ensures) (c.requires.small c.args.a c.args.b).0

pub add_scaled-requires-clause-room : goal.add_scaled-requires-clause-room
add_scaled-requires-clause-room c = λ i within.
    let fk : FitsSigned w128 c.args.k = c.ranges.k in
    let most : unsigned_abs c.args.k * sizes c.terms_of.result.now ≤ unsigned_abs c.args.k * 2 ^ 40 = mul-le-mul_left (unsigned_abs c.args.k) (subst (λ (ts : List Term). sizes ts ≤ 2 ^ 40) (sym c.terms_of.ensures) (c.requires.small c.args.a c.args.b).1) in
    let room : unsigned_abs (slice_index_or c.args.sum.now i (pos 0)) + unsigned_abs c.args.k * size_at (suc i) c.terms_of.result.now ≤ limit = omega (arith, most, mul-le-mul_left (unsigned_abs c.args.k) (size_at-le (suc i) c.terms_of.result.now), c.requires.room i within) in
    simp to_z-of_z room

pub add_scaled-requires-in-Greater-clause-numbers : goal.add_scaled-requires-in-Greater-clause-numbers
add_scaled-requires-in-Greater-clause-numbers c = subst (Numbers (length c.args.sum.now)) (sym c.terms_of-in-Greater.ensures) (c.requires.small c.args.b c.args.a).0

pub add_scaled-requires-in-Greater-clause-room : goal.add_scaled-requires-in-Greater-clause-room
add_scaled-requires-in-Greater-clause-room c = λ i within.
    let fk : FitsSigned w128 c.args.k = c.ranges.k in
    let fo : FitsSigned w128 c.of.result = search rules in
    let turned : c.of.result ≡ signed c.args.sign c.args.k = simp to_z-of_z at c.of.ensures in
    let same : unsigned_abs c.of.result ≡ unsigned_abs c.args.k = ap unsigned_abs turned ∙ abs-signed c.args.sign c.args.k in
    let most : unsigned_abs c.of.result * sizes c.terms_of-in-Greater.result.now ≤ unsigned_abs c.of.result * 2 ^ 40 =
    mul-le-mul_left (unsigned_abs c.of.result) (subst (λ (ts : List Term). sizes ts ≤ 2 ^ 40) (sym c.terms_of-in-Greater.ensures) (c.requires.small c.args.b c.args.a).1) in
    let room : unsigned_abs (slice_index_or c.args.sum.now i (pos 0)) + unsigned_abs c.of.result * size_at (suc i) c.terms_of-in-Greater.result.now ≤ limit = omega (arith, most, same, mul-le-mul_left (unsigned_abs c.of.result) (size_at-le (suc i) c.terms_of-in-Greater.result.now), c.requires.room i within) in
    simp to_z-of_z room

pub returns-in-Greater : goal.returns-in-Greater
returns-in-Greater c = λ i within.
    let fk : FitsSigned w128 c.args.k = c.ranges.k in
    let fo : FitsSigned w128 c.of.result = search rules in
    let turned : c.of.result ≡ signed c.args.sign c.args.k = simp to_z-of_z at c.of.ensures in
    let added : slice_index_or c.add_scaled-in-Greater.new.sum i (pos 0) ≡ slice_index_or c.args.sum.now i (pos 0) +ℤ (c.of.result *ℤ coefficient (suc i) c.terms_of-in-Greater.result.now) = simp to_z-of_z at (c.add_scaled-in-Greater.ensures.value i within) in
    let factors : c.of.result *ℤ coefficient (suc i) c.terms_of-in-Greater.result.now ≡ c.args.k *ℤ coefficient (suc i) (looked_up c.args.sign c.args.entries.now c.args.a c.args.b) =
    ap₂ (λ (k : ℤ) (ts : List Term). k *ℤ coefficient (suc i) ts) turned c.terms_of-in-Greater.ensures
    ∙ signed-factor c.args.sign c.args.k (suc i) (stored c.args.entries.now c.args.b c.args.a)
    ∙ ap (λ (ts : List Term). c.args.k *ℤ coefficient (suc i) ts) (sym (looked_up-above c.args.sign c.args.entries.now c.args.a c.args.b (greater-above c.args.a c.args.b c.in-Greater.ensures))) in
    added ∙ ap (λ (z : ℤ). slice_index_or c.args.sum.now i (pos 0) +ℤ z) factors
