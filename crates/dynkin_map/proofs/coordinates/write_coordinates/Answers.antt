use Rattle.std.proofs.Common.{◌≡◌, ◌+◌, ◌∙◌, ℕ, [], suc, pos, sym, ap, subst, arith, add-one, length, unsigned_abs}
use Rattle.std.specs.Prelude.{slice_index_or}
use Rattle.definitions.specs.Words.{Extent, IsShape, shorter}
use Rattle.definitions.specs.Hall.{InHall}
use Rattle.scaled_tensor.specs.Tensors.{TensorValue}
use Rattle.scaled_tensor.specs.Tensors.{coefficient as at_word}
use Rattle.scaled_tensor.specs.LogTensors.{LogTensorValue, IsLogTensor}
use Rattle.lie_bracket.specs.Brackets.{coefficient}
use Rattle.lie_bracket.specs.Entries.{size_at}
use Rattle.lie_bracket.proofs.SumSteps.{abs-coefficient_at}
use Rattle.dynkin_map.proofs.RowSums.{added-range}
use Rattle.dynkin_map.proofs.CoordinateSteps.{members_of, so_far, IsLevel, AreRows, rows-inside, rows-few, rows-Numbers, rows-room, rows-next, all-degrees, none-so_far}
use Rattle.dynkin_map.proofs.coordinates.write_coordinates.Goals as goal

pub loop-k-init : goal.loop-k-init
loop-k-init c = record {
  values = λ h within. c.requires.zeros h within ∙ sym (none-so_far c.args.p.now.tensor.extent (at_word c.args.p.now.tensor) (suc h));
  range = λ h within. omega (arith, ap unsigned_abs (c.requires.zeros h within));
}

pub add_rows-requires-clause-inside : goal.add_rows-requires-clause-inside
add_rows-requires-clause-inside c =
    let p : LogTensorValue = c.args.p.now in
    let t : TensorValue = p.tensor in
    let k : ℕ = c.loop-k.k in
    let same : c.tensor-tensor.result.now ≡ t = c.tensor-tensor.ensures.value in
    let extent : c.shape-shape.result ≡ t.extent = c.shape-shape.ensures.value ∙ ap (λ (s : TensorValue). s.extent) same in
    let shape : IsShape t.extent = subst (λ (s : TensorValue). IsShape s.extent) same c.shape-shape.ensures.shape in
    let level : IsLevel t k c.level.result.now =
    subst (λ (s : TensorValue). IsLevel s k c.level.result.now) same
    (record { within = omega (arith, c.loop-k-test.true, c.depth-k-end.ensures.value, ap (λ (e : Extent). e.depth) c.shape-shape.ensures.value); len = c.level.ensures.len; values = c.level.ensures.value }) in
    let are : AreRows t k c.args.rows.now c.before-in-loop-k.result =
    record { all = c.requires.rows; from_is = c.before-in-loop-k.ensures.value ∙ ap (λ (e : Extent). shorter e.width k) extent } in
    rows-inside t k c.level.result.now c.args.rows.now c.before-in-loop-k.result level are

pub add_rows-requires-clause-few : goal.add_rows-requires-clause-few
add_rows-requires-clause-few c =
    let p : LogTensorValue = c.args.p.now in
    let t : TensorValue = p.tensor in
    let k : ℕ = c.loop-k.k in
    let same : c.tensor-tensor.result.now ≡ t = c.tensor-tensor.ensures.value in
    let extent : c.shape-shape.result ≡ t.extent = c.shape-shape.ensures.value ∙ ap (λ (s : TensorValue). s.extent) same in
    let shape : IsShape t.extent = subst (λ (s : TensorValue). IsShape s.extent) same c.shape-shape.ensures.shape in
    let level : IsLevel t k c.level.result.now =
    subst (λ (s : TensorValue). IsLevel s k c.level.result.now) same
    (record { within = omega (arith, c.loop-k-test.true, c.depth-k-end.ensures.value, ap (λ (e : Extent). e.depth) c.shape-shape.ensures.value); len = c.level.ensures.len; values = c.level.ensures.value }) in
    let are : AreRows t k c.args.rows.now c.before-in-loop-k.result =
    record { all = c.requires.rows; from_is = c.before-in-loop-k.ensures.value ∙ ap (λ (e : Extent). shorter e.width k) extent } in
    rows-few t k c.args.rows.now c.before-in-loop-k.result shape are

pub add_rows-requires-clause-numbers : goal.add_rows-requires-clause-numbers
add_rows-requires-clause-numbers c =
    let p : LogTensorValue = c.args.p.now in
    let t : TensorValue = p.tensor in
    let k : ℕ = c.loop-k.k in
    let same : c.tensor-tensor.result.now ≡ t = c.tensor-tensor.ensures.value in
    let extent : c.shape-shape.result ≡ t.extent = c.shape-shape.ensures.value ∙ ap (λ (s : TensorValue). s.extent) same in
    let shape : IsShape t.extent = subst (λ (s : TensorValue). IsShape s.extent) same c.shape-shape.ensures.shape in
    let level : IsLevel t k c.level.result.now =
    subst (λ (s : TensorValue). IsLevel s k c.level.result.now) same
    (record { within = omega (arith, c.loop-k-test.true, c.depth-k-end.ensures.value, ap (λ (e : Extent). e.depth) c.shape-shape.ensures.value); len = c.level.ensures.len; values = c.level.ensures.value }) in
    let are : AreRows t k c.args.rows.now c.before-in-loop-k.result =
    record { all = c.requires.rows; from_is = c.before-in-loop-k.ensures.value ∙ ap (λ (e : Extent). shorter e.width k) extent } in
    rows-Numbers t k (length c.loop-k.sums) c.level.result.now c.args.rows.now c.before-in-loop-k.result level are (c.loop-k.auto.sums ∙ c.requires.len)

pub add_rows-requires-clause-room : goal.add_rows-requires-clause-room
add_rows-requires-clause-room c = λ h within.
    let p : LogTensorValue = c.args.p.now in
    let t : TensorValue = p.tensor in
    let k : ℕ = c.loop-k.k in
    let same : c.tensor-tensor.result.now ≡ t = c.tensor-tensor.ensures.value in
    let extent : c.shape-shape.result ≡ t.extent = c.shape-shape.ensures.value ∙ ap (λ (s : TensorValue). s.extent) same in
    let shape : IsShape t.extent = subst (λ (s : TensorValue). IsShape s.extent) same c.shape-shape.ensures.shape in
    let level : IsLevel t k c.level.result.now =
    subst (λ (s : TensorValue). IsLevel s k c.level.result.now) same
    (record { within = omega (arith, c.loop-k-test.true, c.depth-k-end.ensures.value, ap (λ (e : Extent). e.depth) c.shape-shape.ensures.value); len = c.level.ensures.len; values = c.level.ensures.value }) in
    let are : AreRows t k c.args.rows.now c.before-in-loop-k.result =
    record { all = c.requires.rows; from_is = c.before-in-loop-k.ensures.value ∙ ap (λ (e : Extent). shorter e.width k) extent } in
    let inside : InHall (members_of t.extent) (suc h) = record { least = omega arith; most = omega (arith, within, c.loop-k.auto.sums, c.requires.len) } in
    let log : IsLogTensor p = c.tensor-tensor.ensures.log in
    rows-room p k (suc h) c.level.result.now c.args.rows.now c.before-in-loop-k.result (slice_index_or c.loop-k.sums h (pos 0)) shape log c.requires.fits level are inside (c.loop-k.invariant.values h within) (c.loop-k.invariant.range h within)

pub loop-k-preserved : goal.loop-k-preserved
loop-k-preserved c =
    let p : LogTensorValue = c.args.p.now in
    let t : TensorValue = p.tensor in
    let k : ℕ = c.loop-k.k in
    let same : c.tensor-tensor.result.now ≡ t = c.tensor-tensor.ensures.value in
    let extent : c.shape-shape.result ≡ t.extent = c.shape-shape.ensures.value ∙ ap (λ (s : TensorValue). s.extent) same in
    let shape : IsShape t.extent = subst (λ (s : TensorValue). IsShape s.extent) same c.shape-shape.ensures.shape in
    let level : IsLevel t k c.level.result.now =
    subst (λ (s : TensorValue). IsLevel s k c.level.result.now) same
    (record { within = omega (arith, c.loop-k-test.true, c.depth-k-end.ensures.value, ap (λ (e : Extent). e.depth) c.shape-shape.ensures.value); len = c.level.ensures.len; values = c.level.ensures.value }) in
    let are : AreRows t k c.args.rows.now c.before-in-loop-k.result =
    record { all = c.requires.rows; from_is = c.before-in-loop-k.ensures.value ∙ ap (λ (e : Extent). shorter e.width k) extent } in
    let log : IsLogTensor p = c.tensor-tensor.ensures.log in
    record {
      values = λ h within.
          let inside : InHall (members_of t.extent) (suc h) = record { least = omega arith; most = omega (arith, within, c.add_rows.auto.sum, c.loop-k.auto.sums, c.requires.len) } in
          subst (λ (n : ℕ). slice_index_or c.add_rows.new.sum h (pos 0) ≡ so_far t.extent (at_word t) n (suc h)) (sym (add-one k))
          (rows-next t k (suc h) c.level.result.now c.args.rows.now c.before-in-loop-k.result (slice_index_or c.loop-k.sums h (pos 0)) (slice_index_or c.add_rows.new.sum h (pos 0)) shape level are inside
          (c.loop-k.invariant.values h (omega (arith, within, c.add_rows.auto.sum))) (c.add_rows.ensures.value h within));
      range = λ h within.
          let inside : InHall (members_of t.extent) (suc h) = record { least = omega arith; most = omega (arith, within, c.add_rows.auto.sum, c.loop-k.auto.sums, c.requires.len) } in
          added-range (length c.level.result.now) (slice_index_or c.loop-k.sums h (pos 0)) (slice_index_or c.add_rows.new.sum h (pos 0)) (λ i. slice_index_or c.level.result.now i (pos 0))
          (λ i. coefficient (suc h) (slice_index_or c.args.rows.now (c.before-in-loop-k.result + i) [])) (λ i. size_at (suc h) (slice_index_or c.args.rows.now (c.before-in-loop-k.result + i) []))
          (λ i l. abs-coefficient_at (suc h) (slice_index_or c.args.rows.now (c.before-in-loop-k.result + i) []))
          (rows-room p k (suc h) c.level.result.now c.args.rows.now c.before-in-loop-k.result (slice_index_or c.loop-k.sums h (pos 0)) shape log c.requires.fits level are inside
          (c.loop-k.invariant.values h (omega (arith, within, c.add_rows.auto.sum))) (c.loop-k.invariant.range h (omega (arith, within, c.add_rows.auto.sum))))
          (c.add_rows.ensures.value h within);
    }

pub returns-clause-value : goal.returns-clause-value
returns-clause-value c = λ h within.
    let p : LogTensorValue = c.args.p.now in
    let t : TensorValue = p.tensor in
    let k : ℕ = c.loop-k.k in
    let same : c.tensor-tensor.result.now ≡ t = c.tensor-tensor.ensures.value in
    let extent : c.shape-shape.result ≡ t.extent = c.shape-shape.ensures.value ∙ ap (λ (s : TensorValue). s.extent) same in
    let shape : IsShape t.extent = subst (λ (s : TensorValue). IsShape s.extent) same c.shape-shape.ensures.shape in
    let inside : InHall (members_of t.extent) (suc h) = record { least = omega arith; most = omega (arith, within, c.loop-k.auto.sums, c.requires.len) } in
    let done : k ≡ t.extent.depth + 1 = omega (arith, c.loop-k-test.false, c.loop-k.auto.k-end, c.depth-k-end.ensures.value, ap (λ (e : Extent). e.depth) extent) in
    c.loop-k.invariant.values h within
    ∙ ap (λ (n : ℕ). so_far t.extent (at_word t) n (suc h)) done
    ∙ all-degrees t.extent (at_word t) (suc h) shape.some_depth inside
