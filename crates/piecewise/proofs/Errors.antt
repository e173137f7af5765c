-- What a question mark passes on.
use Rattle.std.proofs.Common.{◌≡◌, sym, subst, Ok, Err}
use Rattle.std.specs.Prelude.{Result, IfErr}
use Rattle.std.specs.Result.{IsErrAnd}

-- an error that is passed on as it is
pub error-kept : {T E : Type 0} → (r : Result T E) (x : E) (P : E → Type 0) → IsErrAnd r (λ y. y ≡ x) → P x → IfErr r P
error-kept (Ok t) x P same h = absurd same
error-kept (Err y) x P same h = subst P (sym same) h
