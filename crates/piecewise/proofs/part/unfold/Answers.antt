use Rattle.std.proofs.Common.{◌≡◌, ◌≤◌, ◌+◌, ◌∙◌, sym, subst, ℕ, List, length, Ok, Err}
use Rattle.std.specs.Prelude.{IfOk, OnOk, Result}
use Rattle.std.proofs.lemmas.Result.{IfOk-weaker, IfErr-weaker, on_ok_weaker}
use Rattle.definitions.specs.Words.{Extent, IsWord}
use Rattle.definitions.specs.Moves.{Parts}
use Rattle.definitions.specs.Signature.{signature}
use Rattle.definitions.specs.Logarithm.{logarithm}
use Rattle.scaled_tensor.specs.Tensors.{TensorValue, coefficient}
use Rattle.piecewise.specs.Series.{AreCoordinates, log_of, series_of}
use Rattle.piecewise.specs.Faults.{EachBelow, Unfolds, UnfoldFits, IsLevelFault, IsUnfoldFault, IsWantOfRoom}
use Rattle.piecewise.specs.Levels.{IsKnown}
use Rattle.piecewise.specs.declared.fault.UnfoldFault.{UnfoldFault}
use Rattle.piecewise.proofs.Errors.{error-kept}
use Rattle.piecewise.proofs.Logarithms.{series-from, logarithm-from}
use Rattle.piecewise.proofs.Refusals.{level-refused, can-unfold, log-bounds}
use Rattle.piecewise.proofs.Signatures.{series-is, only-room}
use Rattle.piecewise.proofs.part.unfold.Goals as goal

-- what holds of an answer, beside what holds of each
both : {T E : Type 0} → (r : Result T E) (P : T → Type 0) (Q : Type 0) → IfOk r P → OnOk r Q → IfOk r (λ t. P t × Q)
both (Ok t) P Q p q = (p, q)
both (Err e) P Q p q = tt

pub unfold_levels-requires-clause-fits : goal.unfold_levels-requires-clause-fits
unfold_levels-requires-clause-fits c = subst (λ (x : Extent). UnfoldFits c.args.weight x.depth) (sym c.in_ok-log.ensures.extent) c.in_ok-log.ensures.log.splits.expands.fits

pub unfold_levels-requires-clause-within : goal.unfold_levels-requires-clause-within
unfold_levels-requires-clause-within c = log-bounds c.args.hall.now c.args.z.now c.args.weight c.in_ok-log.log c.in_ok-log.ensures.extent c.in_ok-log.ensures.values c.in_ok-log.ensures.log

pub returns-clause-values : goal.returns-clause-values
returns-clause-values c =
    let log : TensorValue = c.in_ok-log.log in
    IfOk-weaker c.unfold_levels.result (IsKnown log.extent (coefficient log) c.args.weight log.extent.depth)
    (λ (t : TensorValue). (word : List ℕ) → IsWord c.args.hall.now word → coefficient t word ≡ series_of c.args.hall.now c.args.z.now word)
    (λ t known. series-from c.args.hall.now c.args.z.now c.args.weight log t c.in_ok-log.ensures.extent c.in_ok-log.ensures.values known)
    c.unfold_levels.ensures.known

pub returns-clause-logarithm : goal.returns-clause-logarithm
returns-clause-logarithm c =
    let extent : Extent = c.args.hall.now in
    let log : TensorValue = c.in_ok-log.log in
    let P : TensorValue → Type 0 = IsKnown log.extent (coefficient log) c.args.weight log.extent.depth in
    let Q : Type 0 = EachBelow (Unfolds log.extent (coefficient log) c.args.weight) (log.extent.depth + 1) in
    IfOk-weaker c.unfold_levels.result (λ (t : TensorValue). P t × Q)
    (λ (t : TensorValue). (word : List ℕ) → IsWord extent word → 1 ≤ length word → logarithm (coefficient t) word ≡ log_of extent c.args.z.now word)
    (λ t h.
    logarithm-from extent c.args.z.now c.args.weight t
    (can-unfold extent c.args.z.now c.args.weight log c.in_ok-log.ensures.log c.in_ok-log.ensures.extent c.in_ok-log.ensures.values h.1)
    (series-from extent c.args.z.now c.args.weight log t c.in_ok-log.ensures.extent c.in_ok-log.ensures.values h.0))
    (both c.unfold_levels.result P Q c.unfold_levels.ensures.known c.unfold_levels.ensures.levels)

pub returns-clause-unfolds : goal.returns-clause-unfolds
returns-clause-unfolds c =
    on_ok_weaker c.unfold_levels.result
    (λ levels. can-unfold c.args.hall.now c.args.z.now c.args.weight c.in_ok-log.log c.in_ok-log.ensures.log c.in_ok-log.ensures.extent c.in_ok-log.ensures.values levels)
    c.unfold_levels.ensures.levels

pub returns-clause-fault : goal.returns-clause-fault
returns-clause-fault c =
    let log : TensorValue = c.in_ok-log.log in
    IfErr-weaker c.unfold_levels.result (IsLevelFault log.extent (coefficient log) c.args.weight) (IsUnfoldFault c.args.hall.now c.args.z.now c.args.weight)
    (λ fault h.
    level-refused c.args.hall.now c.args.z.now c.args.weight (coefficient log) fault c.in_ok-log.ensures.log c.in_ok-log.ensures.values
    (subst (λ (x : Extent). IsLevelFault x (coefficient log) c.args.weight fault) c.in_ok-log.ensures.extent h))
    c.unfold_levels.ensures.fault

pub returns-clause-signature : goal.returns-clause-signature
returns-clause-signature c =
    let extent : Extent = c.args.hall.now in
    let log : TensorValue = c.in_ok-log.log in
    IfOk-weaker c.unfold_levels.result (IsKnown log.extent (coefficient log) c.args.weight log.extent.depth)
    (λ (t : TensorValue). (moves : List Parts) → AreCoordinates extent moves c.args.z.now c.args.weight → (word : List ℕ) → IsWord extent word → coefficient t word ≡ signature moves word)
    (λ t known moves are word is_word.
    series-from extent c.args.z.now c.args.weight log t c.in_ok-log.ensures.extent c.in_ok-log.ensures.values known word is_word
    ∙ series-is extent c.log_tensor.ensures.shape moves c.args.z.now c.args.weight are word is_word)
    c.unfold_levels.ensures.known

pub returns-clause-room : goal.returns-clause-room
returns-clause-room c =
    let extent : Extent = c.args.hall.now in
    let log : TensorValue = c.in_ok-log.log in
    IfErr-weaker c.unfold_levels.result (IsLevelFault log.extent (coefficient log) c.args.weight)
    (λ (fault : UnfoldFault). (moves : List Parts) → AreCoordinates extent moves c.args.z.now c.args.weight → IsWantOfRoom fault)
    (λ fault h moves are.
    only-room extent c.log_tensor.ensures.shape moves c.args.z.now c.args.weight are fault
    (level-refused extent c.args.z.now c.args.weight (coefficient log) fault c.in_ok-log.ensures.log c.in_ok-log.ensures.values
    (subst (λ (x : Extent). IsLevelFault x (coefficient log) c.args.weight fault) c.in_ok-log.ensures.extent h)))
    c.unfold_levels.ensures.fault

pub returns-in_err-log-clause-fault : goal.returns-in_err-log-clause-fault
returns-in_err-log-clause-fault c =
    error-kept c.from_residual.result c.in_err-log.field-0.0 (IsUnfoldFault c.args.hall.now c.args.z.now c.args.weight) c.from_residual.ensures.1 c.in_err-log.ensures.fault

pub returns-in_err-log-clause-room : goal.returns-in_err-log-clause-room
returns-in_err-log-clause-room c =
    error-kept c.from_residual.result c.in_err-log.field-0.0
    (λ (fault : UnfoldFault). (moves : List Parts) → AreCoordinates c.args.hall.now moves c.args.z.now c.args.weight → IsWantOfRoom fault) c.from_residual.ensures.1
    (λ moves are. only-room c.args.hall.now c.in_err-log.ensures.shape moves c.args.z.now c.args.weight are c.in_err-log.field-0.0 c.in_err-log.ensures.fault)
