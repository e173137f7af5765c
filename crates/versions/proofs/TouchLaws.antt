-- Whether an edit touches an interval.
use Rattle.std.proofs.Common.{◌≡◌, ◌∙◌, ℕ, ◌+◌, ◌<◌, ap, Bool, false, List, length, get_or}
use Rattle.std.specs.Prelude.{map}
use Rattle.std.proofs.Math.Nat.{add-sub_cancel}
use Rattle.std.proofs.lemmas.List.{get_or-map}
use Rattle.definitions.specs.Rows.{lies_in}
use Rattle.versions.specs.declared.log.Accepted.{Accepted}
use Rattle.versions.specs.Versions.{touched}

-- the edit that makes version i + 1
pub touched-next : (a b : ℕ) (edits : List Accepted) (i : ℕ) (d : Accepted) → i < length edits → touched a b edits (i + 1) ≡ lies_in a b (get_or edits i d).tick
touched-next a b edits i d within =
    let test : Accepted → Bool = λ e. lies_in a b e.tick in
    ap (λ n. get_or (map test edits) n false) (add-sub_cancel i 1) ∙ get_or-map test edits i d false within
