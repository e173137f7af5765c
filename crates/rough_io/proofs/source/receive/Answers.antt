use Rattle.std.proofs.Common.{ℕ, ◌+◌, ◌≤◌, List, ◌++◌, Option, length, length-append, length-take, Result, Ok, Err, OnErr, arith}
use Rattle.std.specs.Io.KnownBytes.{Consumes}
use Rattle.std.proofs.KnownBytes.{Consumes-trans}
use Rattle.rough_io.specs.Transfers.{TakesAtMost}
use Rattle.rough_io.proofs.source.receive.Goals as goal

-- first these bytes were taken, and then at most n
TakesAtMost-after : (most n : ℕ) (a b c : Option (List ℕ)) (bytes : List ℕ) → Consumes a b bytes → TakesAtMost n b c → length bytes + n ≤ most
    → TakesAtMost most a c
TakesAtMost-after most n a b c bytes first then within =
    (bytes ++ then.0, simp length-append (omega (arith, then.1)), Consumes-trans a b c bytes then.0 first then.2)

-- what holds in any case holds of an error
on_err : {T E : Type 0} (r : Result T E) (P : Type 0) → P → OnErr r P
on_err (Ok x) P p = tt
on_err (Err e) P p = p

pub returns-in_err-receive_piece-clause-taken : goal.returns-in_err-receive_piece-clause-taken
returns-in_err-receive_piece-clause-taken g c =
    on_err _ _ (TakesAtMost-after _ _ _ _ _ _ c.loop-buffer.invariant.1 c.in_err-receive_piece.ensures.taken
    (simp length-take (omega (arith, c.loop-buffer.bytes.ok.0))))
