use Rattle.std.proofs.Common.{◌≡◌, ◌∙◌, ℕ, List}
use Rattle.std.specs.Prelude.{flat_map}
use Rattle.std.proofs.lemmas.Result.{IfOk-weaker, IfErr-weaker}
use Rattle.definitions.specs.Words.{Extent, IsWord}
use Rattle.definitions.specs.Moves.{Parts}
use Rattle.definitions.specs.Signature.{signature}
use Rattle.scaled_tensor.specs.Tensors.{TensorValue, coefficient}
use Rattle.piecewise.specs.Series.{product_of}
use Rattle.piecewise.specs.Placed.{IsPlaced}
use Rattle.piecewise.specs.Wholes.{AreCoordinatesOfEach, IsWholeFault, IsWantOfRoomInWhole}
use Rattle.piecewise.specs.declared.fault.WholeFault.{WholeFault}
use Rattle.piecewise.proofs.Errors.{error-kept}
use Rattle.piecewise.proofs.Parts.{placed-whole}
use Rattle.piecewise.proofs.Products.{product-is, only-room-in_whole}
use Rattle.piecewise.proofs.product.whole.Goals as goal

pub returns-in-Ok-clause-fault : goal.returns-in-Ok-clause-fault
returns-in-Ok-clause-fault c =
    IfErr-weaker c.multiply_parts.result (IsPlaced c.args.hall.now c.args.parts.now) (IsWholeFault c.args.hall.now c.args.parts.now)
    (λ fault h. placed-whole c.args.hall.now c.args.parts.now fault h) c.multiply_parts.ensures.fault

pub returns-in-Ok-clause-signature : goal.returns-in-Ok-clause-signature
returns-in-Ok-clause-signature c =
    let extent : Extent = c.args.hall.now in
    IfOk-weaker c.multiply_parts.result (λ (t : TensorValue). (word : List ℕ) → IsWord extent word → coefficient t word ≡ product_of extent c.args.parts.now word)
    (λ (t : TensorValue). (lists : List (List Parts)) → AreCoordinatesOfEach extent lists c.args.parts.now → (word : List ℕ) → IsWord extent word → coefficient t word ≡ signature (flat_map (λ moves. moves) lists) word)
    (λ t values lists are word is_word. values word is_word ∙ product-is extent c.shape.ensures.shape lists c.args.parts.now are word is_word)
    c.multiply_parts.ensures.values

pub returns-in-Ok-clause-room : goal.returns-in-Ok-clause-room
returns-in-Ok-clause-room c =
    let extent : Extent = c.args.hall.now in
    IfErr-weaker c.multiply_parts.result (IsPlaced extent c.args.parts.now)
    (λ (fault : WholeFault). (lists : List (List Parts)) → AreCoordinatesOfEach extent lists c.args.parts.now → IsWantOfRoomInWhole fault)
    (λ fault h lists are. only-room-in_whole extent c.shape.ensures.shape lists c.args.parts.now fault are (placed-whole extent c.args.parts.now fault h))
    c.multiply_parts.ensures.fault

pub returns-in_err-try_parts-in-Err-clause-fault : goal.returns-in_err-try_parts-in-Err-clause-fault
returns-in_err-try_parts-in-Err-clause-fault c =
    error-kept c.from_residual.result c.in_err-try_parts-in-Err.field-0.0 (IsWholeFault c.args.hall.now c.args.parts.now) c.from_residual.ensures.1
    (placed-whole c.args.hall.now c.args.parts.now c.in_err-try_parts-in-Err.field-0.0 c.in_err-try_parts-in-Err.ensures.fault)

pub returns-in_err-try_parts-in-Err-clause-room : goal.returns-in_err-try_parts-in-Err-clause-room
returns-in_err-try_parts-in-Err-clause-room c =
    error-kept c.from_residual.result c.in_err-try_parts-in-Err.field-0.0
    (λ (fault : WholeFault). (lists : List (List Parts)) → AreCoordinatesOfEach c.args.hall.now lists c.args.parts.now → IsWantOfRoomInWhole fault) c.from_residual.ensures.1
    (λ lists are.
    only-room-in_whole c.args.hall.now c.shape.ensures.shape lists c.args.parts.now c.in_err-try_parts-in-Err.field-0.0 are
    (placed-whole c.args.hall.now c.args.parts.now c.in_err-try_parts-in-Err.field-0.0 c.in_err-try_parts-in-Err.ensures.fault))
