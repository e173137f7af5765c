-- The greatest absolute entry of a longer list.
use Rattle.std.proofs.Common.{◌≡◌, ◌<◌, ◌+◌, ◌∙◌, ℕ, ap, max, arith, List, [], ◌∷◌, ◌++◌, take, get_or, length, ℤ, pos, unsigned_abs}
use Rattle.std.proofs.lemmas.List.{take_more}
use Rattle.definitions.specs.Moves.{greatest}

greatest-push : (entries : List ℤ) (x : ℤ) → greatest (entries ++ x ∷ []) ≡ max (greatest entries) (unsigned_abs x)
greatest-push [] x = omega arith
greatest-push (y ∷ entries) x = omega (arith, greatest-push entries x)

-- one entry more
pub greatest-take_more : (entries : List ℤ) (i : ℕ) → i < length entries → greatest (take (i + 1) entries) ≡ max (greatest (take i entries)) (unsigned_abs (get_or entries i (pos 0)))
greatest-take_more entries i here =
    ap greatest (take_more entries i (pos 0) here) ∙ greatest-push (take i entries) (get_or entries i (pos 0))
