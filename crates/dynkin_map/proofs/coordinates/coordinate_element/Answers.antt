use Rattle.std.proofs.Common.{◌≡◌, ◌-◌, ◌∙◌, ap, subst, arith, ℤ, List, pos, length}
use Rattle.std.specs.Prelude.{slice_index_or, IfOk}
use Rattle.std.proofs.lemmas.List.{take_at}
use Rattle.scaled_tensor.specs.Tensors.{TensorValue, coefficient}
use Rattle.lie_bracket.specs.declared.term.Term.{Term}
use Rattle.lie_bracket.specs.Tables.{nonzero}
use Rattle.dynkin_map.specs.Coordinates.{coordinates}
use Rattle.dynkin_map.proofs.CoordinateSteps.{coordinates-listed}
use Rattle.dynkin_map.proofs.coordinates.coordinate_element.Goals as goal

pub returns : goal.returns
returns c =
    let t : TensorValue = c.args.p.now.tensor in
    let all : length c.write_coordinates.new.sums ≡ c.args.members = omega (arith, c.write_coordinates.auto.sums, ap length c.deref_mut.ensures.value, c.in_ok-sums.ensures.len) in
    let same : c.deref.result.now ≡ c.write_coordinates.new.sums = c.deref.ensures.value ∙ take_at c.write_coordinates.new.sums _ c.in_ok-sums.sums.len (omega (arith, c.write_coordinates.auto.sums, ap length c.deref_mut.ensures.value, c.in_ok-sums.ensures.len)) in
    let list : nonzero (length c.deref.result.now) (λ h. slice_index_or c.deref.result.now (h - 1) (pos 0)) ≡ coordinates t.extent (coefficient t) =
    ap (λ (xs : List ℤ). nonzero (length xs) (λ h. slice_index_or xs (h - 1) (pos 0))) same
    ∙ coordinates-listed t.extent (coefficient t) c.write_coordinates.new.sums (all ∙ c.requires.members) c.write_coordinates.ensures.value in
    subst (λ (ts : List Term). IfOk c.from_sums.result (λ z. z ≡ ts)) list c.from_sums.ensures
