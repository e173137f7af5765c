use Rattle.std.proofs.Common.{◌≡◌, ◌∙◌, ◌+◌, ◌∷◌, [], ◌++◌, ◌≤◌, ◌<◌, ◌^◌, ℕ, ℤ, List, refl, ap, ap₂, sym, subst, arith, length}
use Rattle.definitions.specs.Words.{Extent}
use Rattle.definitions.specs.Moves.{IsPlain, plain, greatest, move_weight}
use Rattle.definitions.specs.Signature.{limit}
use Rattle.definitions.proofs.MoveWeights.{weight-of_plain}
use Rattle.tensor_product.specs.Sigs.{StandsFor}
use Rattle.solve.proofs.Halves.{lighter-fits}
use Rattle.solve.proofs.LieRows.{plain-stands}
use Rattle.solve.proofs.solution.add_row.Goals as goal

pub returns-in-Ok-clause-stands : goal.returns-in-Ok-clause-stands
returns-in-Ok-clause-stands g c = λ moves stands.
    let some : 1 ≤ length c.args.x.now = omega (arith, c.requires.moved.deep, c.shape-shape.ensures.shape.some_depth) in
    let is : IsPlain c.args.x.now = c.if-plain.ensures.0 refl in
    plain-stands c.extend_row.new.s moves c.args.sig.now.tensor.extent.depth c.args.x.now some is
    (subst (λ (e : List ℤ). StandsFor c.extend_row.new.s (moves ++ plain c.args.sig.now.tensor.extent.depth e ∷ [])) c.part.ensures (c.in-Ok.ensures.stands moves stands))

pub unreachable-requires : goal.unreachable-requires
unreachable-requires g c =
    let is : IsPlain c.args.x.now = c.if-plain.ensures.0 refl in
    let entries : greatest c.part.result.now ≡ move_weight c.args.x.now = ap greatest c.part.ensures ∙ sym (weight-of_plain c.args.x.now is) in
    let depth : c.args.sig.now.tensor.extent.depth ≡ c.args.hall.now.depth = ap (λ (e : Extent). e.depth) c.requires.shape in
    let weight : c.in-Err.field-0.0 ≡ c.args.sig.now.weight + move_weight c.args.x.now = c.in-Err.ensures.overflow.0 ∙ ap (λ (n : ℕ). c.args.sig.now.weight + n) entries in
    let same : c.in-Err.field-0.0 ^ c.args.sig.now.tensor.extent.depth ≡ (c.args.sig.now.weight + move_weight c.args.x.now) ^ c.args.hall.now.depth = ap₂ (λ (v n : ℕ). v ^ n) weight depth in
    let past : limit < c.in-Err.field-0.0 ^ c.args.sig.now.tensor.extent.depth = c.in-Err.ensures.overflow.1 in
    omega (arith, past, same, c.requires.fits)

pub unreachable-requires-in-Err-Overflow : goal.unreachable-requires-in-Err-Overflow
unreachable-requires-in-Err-Overflow g c =
    let refused = rw c.in-Err-Overflow.field-0-is at c.in-Err-Overflow.ensures.refused in
    let past : limit < move_weight c.args.x.now ^ c.args.hall.now.depth = refused.1 in
    let fits : move_weight c.args.x.now ^ c.args.hall.now.depth ≤ limit =
    lighter-fits (move_weight c.args.x.now) (c.args.sig.now.weight + move_weight c.args.x.now) c.args.hall.now.depth (omega arith) c.requires.fits in
    omega (arith, past, fits)
