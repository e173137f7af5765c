use Rattle.std.proofs.Common.{◌≡◌, ◌∙◌, ◌∷◌, [], ℕ, List, ap, subst, IfErr}
use Rattle.std.proofs.lemmas.Result.{IfOk-weaker}
use Rattle.definitions.specs.Words.{Extent}
use Rattle.definitions.specs.Moves.{weight_from, move_weight}
use Rattle.scaled_tensor.specs.Tensors.{TensorValue}
use Rattle.tensor_product.specs.Exponentiation.{IsExponentialOf}
use Rattle.tensor_product.specs.Faults.{IsRefusedBy}
use Rattle.tensor_product.specs.Sigs.{StandsFor}
use Rattle.solve.proofs.LieRows.{move-weight_is, move-stands}
use Rattle.solve.proofs.lie_rows.row_sig.Goals as goal

pub returns-clause-refused : goal.returns-clause-refused
returns-clause-refused g c =
    let z : TensorValue = c.in_ok-tensor.tensor in
    let sizes : List ℕ = c.sized_tensor.new.sizes in
    let depth : z.extent.depth ≡ c.args.hall.now.depth = ap (λ (e : Extent). e.depth) c.in_ok-tensor.ensures.extent in
    let weight : weight_from z.extent.depth 1 sizes ≡ move_weight c.args.x.now =
    ap (λ (n : ℕ). weight_from n 1 sizes) depth ∙ move-weight_is c.args.hall.now c.args.x.now sizes c.requires c.sized_tensor.ensures.sizes in
    subst (λ (w : ℕ). IfErr c.exp_move.result (λ fault. IsRefusedBy w c.args.hall.now.depth fault)) weight
    (subst (λ (n : ℕ). IfErr c.exp_move.result (λ fault. IsRefusedBy (weight_from z.extent.depth 1 sizes) n fault)) depth c.exp_move.ensures.refused)

pub returns-clause-stands : goal.returns-clause-stands
returns-clause-stands g c =
    IfOk-weaker c.exp_move.result (IsExponentialOf c.in_ok-tensor.tensor c.sized_tensor.new.sizes) (λ s. StandsFor s (c.args.x.now ∷ []))
    (λ s made. move-stands c.args.hall.now c.args.x.now c.in_ok-tensor.tensor c.sized_tensor.new.sizes s c.requires c.in_ok-tensor.ensures.extent c.in_ok-tensor.ensures.value c.sized_tensor.ensures.sizes made)
    c.exp_move.ensures.value
