-- The rows after edits, one after the other.
use Rattle.std.proofs.Common.{◌≡◌, ◌∙◌, ℕ, zero, suc, ◌+◌, ◌<◌, ◌≤◌, ◌^◌, sym, ap, subst, arith, add-zero, add-one, List, [], ◌∷◌, ◌++◌, length, take, get_or}
use Rattle.std.proofs.Math.Seq.{take-length}
use Rattle.std.proofs.lemmas.List.{take-append-le}
use Rattle.std.proofs.lemmas.List.Elements.{All-push, All-take}
use Rattle.definitions.specs.Rows.{RowValue}
use Rattle.versions.specs.declared.log.Accepted.{Accepted}
use Rattle.versions.specs.Versions.{IsEdit, edited, replayed, rows_at, current_rows, IsAccepted, AreAccepted, LogValue, IsLog}

replayed-append : (v : ℕ) (xs ys : List Accepted) (rows : List RowValue) → replayed v (xs ++ ys) rows ≡ replayed (v + length xs) ys (replayed v xs rows)
replayed-append v [] ys rows = ap (λ n. replayed n ys rows) (sym (add-zero v))
replayed-append v (x ∷ xs) ys rows =
    let count : suc v + length xs ≡ v + length (x ∷ xs) = omega arith in
    replayed-append (suc v) xs ys (edited (suc v) x.edit rows) ∙ ap (λ n. replayed n ys (replayed v (x ∷ xs) rows)) count

-- the rows of the current version are those after all edits
pub current_rows-replayed : (edits : List Accepted) → current_rows edits ≡ replayed 0 edits []
current_rows-replayed edits = ap (λ (es : List Accepted). replayed 0 es []) (take-length edits)

-- the next edit makes the next version
pub current_rows-push : (edits : List Accepted) (e : Accepted) → current_rows (edits ++ e ∷ []) ≡ edited (length edits + 1) e.edit (current_rows edits)
current_rows-push edits e =
    let next : suc (0 + length edits) ≡ length edits + 1 = omega arith in
    current_rows-replayed (edits ++ e ∷ []) ∙ replayed-append 0 edits (e ∷ []) [] ∙ ap (λ n. edited n e.edit (replayed 0 edits [])) next
    ∙ ap (edited (length edits + 1) e.edit) (sym (current_rows-replayed edits))

-- later edits change no earlier version
pub rows_at-append : (edits more : List Accepted) (v : ℕ) → v ≤ length edits → rows_at (edits ++ more) v ≡ rows_at edits v
rows_at-append edits more v h = ap (λ (es : List Accepted). replayed 0 es []) (take-append-le v edits more h)

AreAccepted-push : (v : ℕ) (xs : List Accepted) (e : Accepted) (rows : List RowValue) → AreAccepted v xs rows → IsAccepted (replayed v xs rows) e → AreAccepted v (xs ++ e ∷ []) rows
AreAccepted-push v [] e rows all here = (here, tt)
AreAccepted-push v (x ∷ xs) e rows all here = (all.0, AreAccepted-push (suc v) xs e (edited (suc v) x.edit rows) all.1 here)

-- the first edits of an accepted list were accepted
pub AreAccepted-take : (n v : ℕ) (xs : List Accepted) (rows : List RowValue) → AreAccepted v xs rows → AreAccepted v (take n xs) rows
AreAccepted-take zero v xs rows all = tt
AreAccepted-take (suc n) v [] rows all = tt
AreAccepted-take (suc n) v (x ∷ xs) rows all = (all.0, AreAccepted-take n (suc v) xs (edited (suc v) x.edit rows) all.1)

-- an accepted edit more
pub IsLog-push : (log : LogValue) (e : Accepted) → IsLog log → IsEdit log.extent e.edit → e.tick < 2 ^ 32 → IsAccepted (current_rows log.edits) e
    → IsLog (record { extent = log.extent; edits = log.edits ++ e ∷ [] })
IsLog-push log e is edit tick accepted = record {
  accepted = AreAccepted-push 0 log.edits e [] is.accepted (subst (λ (rows : List RowValue). IsAccepted rows e) (current_rows-replayed log.edits) accepted);
  within = All-push (λ (e : Accepted). IsEdit log.extent e.edit × (e.tick < 2 ^ 32)) log.edits e is.within (edit, tick);
}

-- the first edits of a log
pub IsLog-take : (log : LogValue) (v : ℕ) → IsLog log → IsLog (record { extent = log.extent; edits = take v log.edits })
IsLog-take log v is = record {
  accepted = AreAccepted-take v 0 log.edits [] is.accepted;
  within = All-take (λ (e : Accepted). IsEdit log.extent e.edit × (e.tick < 2 ^ 32)) v log.edits is.within;
}

accepted_at : (v i : ℕ) (xs : List Accepted) (rows : List RowValue) (d : Accepted) → AreAccepted v xs rows → i < length xs → IsAccepted (replayed v (take i xs) rows) (get_or xs i d)
accepted_at v i [] rows d all within = absurd (omega arith)
accepted_at v zero (x ∷ xs) rows d all within = all.0
accepted_at v (suc i) (x ∷ xs) rows d all within = accepted_at (suc v) i xs (edited (suc v) x.edit rows) d all.1 (omega arith)

-- each edit of a log is accepted by the rows of the version before it
pub IsLog-accepted_at : (log : LogValue) (i : ℕ) (d : Accepted) → IsLog log → i < length log.edits → IsAccepted (rows_at log.edits i) (get_or log.edits i d)
IsLog-accepted_at log i d is within = accepted_at 0 i log.edits [] d is.accepted within

step : (v i : ℕ) (xs : List Accepted) (rows : List RowValue) (d : Accepted) → i < length xs → replayed v (take (suc i) xs) rows ≡ edited (suc (v + i)) (get_or xs i d).edit (replayed v (take i xs) rows)
step v i [] rows d within = absurd (omega arith)
step v zero (x ∷ xs) rows d within = ap (λ n. edited (suc n) x.edit rows) (sym (add-zero v))
step v (suc i) (x ∷ xs) rows d within =
    let count : suc (suc v + i) ≡ suc (v + suc i) = omega arith in
    step (suc v) i xs (edited (suc v) x.edit rows) d (omega arith)
    ∙ ap (λ n. edited n (get_or xs i d).edit (replayed (suc v) (take i xs) (edited (suc v) x.edit rows))) count

-- the rows of the next version
pub rows_at-next : (edits : List Accepted) (i : ℕ) (d : Accepted) → i < length edits → rows_at edits (i + 1) ≡ edited (i + 1) (get_or edits i d).edit (rows_at edits i)
rows_at-next edits i d within =
    let next : suc (0 + i) ≡ i + 1 = omega arith in
    ap (rows_at edits) (add-one i) ∙ step 0 i edits [] d within ∙ ap (λ n. edited n (get_or edits i d).edit (rows_at edits i)) next
