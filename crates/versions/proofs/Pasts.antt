-- The rows of each version of a log, and what an edit makes of them.
use Rattle.std.proofs.Common.{◌≡◌, ◌∙◌, ℕ, zero, suc, ◌+◌, ◌-◌, ◌<◌, ◌≤◌, ◌^◌, inl, inr, refl, sym, ap, subst, arith, add-zero, add-one, List, [], ◌∷◌, ◌++◌, length, take, get_or, cond, true, false, Some}
use Rattle.std.specs.Prelude.{All, map}
use Rattle.std.proofs.lemmas.Bool.{cases_lt, cases_Bool}
use Rattle.std.proofs.lemmas.List.{get_or-map, map-append, length-map}
use Rattle.std.proofs.lemmas.List.Elements.{All-weaker}
use Rattle.definitions.specs.Moves.{Parts}
use Rattle.definitions.specs.Rows.{RowValue, lies_in}
use Rattle.increments.specs.Edits.{row_of}
use Rattle.timeline.specs.Keys.{key_at, key_of, with_at}
use Rattle.timeline.specs.Moments.{IsFirstAfter, since as timeline_since}
use Rattle.timeline.specs.Pasts.{rows_at as timeline_rows, current_rows as timeline_current, with_version}
use Rattle.timeline.proofs.Edits.{appended-at, corrected-at, removed-at}
use Rattle.versions.specs.declared.edit.Edit.TheVariants.{Append, Correct, Remove}
use Rattle.versions.specs.declared.log.Accepted.{Accepted}
use Rattle.versions.specs.Versions.{edited, replayed, rows_at, current_rows, touched, since, IsFirstTouch, LogValue, IsLog}
use Rattle.versions.specs.Pasts.{pasts, past_of_log}
use Rattle.versions.proofs.Replays.{current_rows-replayed}
use Rattle.versions.proofs.TouchLaws.{touched-next}
use Rattle.versions.proofs.Births.{younger}
use Rattle.versions.proofs.DistinctNames.{distinct-names}
use Rattle.versions.proofs.InOrder.{some_edit, rows-in-order}

pasts-at : (v n : ℕ) (xs : List Accepted) (rows : List RowValue) → n ≤ length xs → get_or (pasts v xs rows) n [] ≡ replayed v (take n xs) rows
pasts-at v zero [] rows h = refl
pasts-at v zero (x ∷ xs) rows h = refl
pasts-at v (suc n) [] rows h = absurd (omega arith)
pasts-at v (suc n) (x ∷ xs) rows h = pasts-at (suc v) n xs (edited (suc v) x.edit rows) (omega (arith, h))

pasts-push : (v : ℕ) (xs : List Accepted) (e : Accepted) (rows : List RowValue) → pasts v (xs ++ e ∷ []) rows ≡ pasts v xs rows ++ edited (suc (v + length xs)) e.edit (replayed v xs rows) ∷ []
pasts-push v [] e rows = ap (λ (n : ℕ). rows ∷ edited (suc n) e.edit rows ∷ []) (sym (add-zero v))
pasts-push v (x ∷ xs) e rows =
    let count : suc (suc v + length xs) ≡ suc (v + length (x ∷ xs)) = omega arith in
    ap (λ (ps : List (List RowValue)). rows ∷ ps) (pasts-push (suc v) xs e (edited (suc v) x.edit rows))
    ∙ ap (λ (n : ℕ). rows ∷ (pasts (suc v) xs (edited (suc v) x.edit rows) ++ edited n e.edit (replayed (suc v) xs (edited (suc v) x.edit rows)) ∷ [])) count

-- the rows of a version in the past of a log are those after so many edits
pub rows-same : (edits : List Accepted) (v : ℕ) → v ≤ length edits → timeline_rows (past_of_log edits) v ≡ rows_at edits v
rows-same edits v h = pasts-at 0 v edits [] h

-- there is a tick for each edit
pub count-same : (edits : List Accepted) → length (past_of_log edits).ticks ≡ length edits
count-same edits = length-map edits (λ (e : Accepted). e.tick)

-- the rows of the last version are the current ones
pub current-same : (edits : List Accepted) → timeline_current (past_of_log edits) ≡ current_rows edits
current-same edits = ap (λ (n : ℕ). get_or (pasts 0 edits []) n []) (count-same edits) ∙ rows-same edits (length edits) (omega arith)

-- one edit more makes one version more, with the tick of the edit and the rows after it
pub past-push : (edits : List Accepted) (e : Accepted) → past_of_log (edits ++ e ∷ []) ≡ with_version (past_of_log edits) e.tick (edited (length edits + 1) e.edit (current_rows edits))
past-push edits e =
    let next : suc (0 + length edits) ≡ length edits + 1 = omega arith in
    ap (λ (ts : List ℕ). record { ticks = ts; rows = pasts 0 (edits ++ e ∷ []) [] }) (map-append (λ (a : Accepted). a.tick) edits (e ∷ []))
    ∙ ap (λ (rs : List (List RowValue)). record { ticks = map (λ (a : Accepted). a.tick) edits ++ e.tick ∷ []; rows = rs })
    (pasts-push 0 edits e [] ∙ ap (λ (n : ℕ). pasts 0 edits [] ++ edited n e.edit (replayed 0 edits []) ∷ []) next
    ∙ ap (λ (rs : List RowValue). pasts 0 edits [] ++ edited (length edits + 1) e.edit rs ∷ []) (sym (current_rows-replayed edits)))

-- ---- which versions touch an interval
touch-is : (a b : ℕ) (edits : List Accepted) (v : ℕ) → v < length edits → touched a b edits (suc v) ≡ lies_in a b (get_or (map (λ (e : Accepted). e.tick) edits) v 0)
touch-is a b edits v within =
    ap (touched a b edits) (sym (add-one v)) ∙ touched-next a b edits v some_edit within ∙ sym (ap (lies_in a b) (get_or-map (λ (e : Accepted). e.tick) edits v some_edit 0 within))

-- the last version up to v that touches [a, b) is the same by the ticks as by the edits
pub since-same : (a b : ℕ) (edits : List Accepted) (v : ℕ) → v ≤ length edits → timeline_since a b (map (λ (e : Accepted). e.tick) edits) v ≡ since a b edits v
unfolding timeline_since
since-same a b edits zero h = refl
since-same a b edits (suc v) h =
    ap (λ t. cond t (suc v) (timeline_since a b (map (λ (e : Accepted). e.tick) edits) v)) (sym (touch-is a b edits v (omega arith)))
    ∙ ap (λ (s : ℕ). cond (touched a b edits (suc v)) (suc v) s) (since-same a b edits v (omega (arith, h)))

since-bound : (a b : ℕ) (edits : List Accepted) (v : ℕ) → since a b edits v ≤ v
since-bound a b edits zero = omega arith
since-bound a b edits (suc v) = elim (cases_Bool (touched a b edits (suc v))) [
  | inl sure ↦ omega (arith, ap (λ t. cond t (suc v) (since a b edits v)) sure)
  | inr other ↦ omega (arith, ap (λ t. cond t (suc v) (since a b edits v)) other, since-bound a b edits v)
]

-- what comes after the last version that touches an interval
since-untouched : (a b : ℕ) (edits : List Accepted) (v t : ℕ) → since a b edits v < t → t ≤ v → touched a b edits t ≡ false
since-untouched a b edits zero t after within = absurd (omega (arith, after, within))
since-untouched a b edits (suc v) t after within = elim (cases_Bool (touched a b edits (suc v))) [
  | inl sure ↦ absurd (omega (arith, ap (λ c. cond c (suc v) (since a b edits v)) sure, after, within))
  | inr other ↦ (
      let before : since a b edits (suc v) ≡ since a b edits v = ap (λ c. cond c (suc v) (since a b edits v)) other in
      elim (cases_lt t (suc v)) [
        | inl earlier ↦ since-untouched a b edits v t (omega (arith, before, after)) (omega (arith, earlier))
        | inr here ↦ subst (λ (n : ℕ). touched a b edits n ≡ false) (let e : suc v ≡ t = omega (arith, here, within) in e) other
      ])
]

since-touches : (a b : ℕ) (edits : List Accepted) (v : ℕ) → since a b edits (suc v) ≡ suc v → touched a b edits (suc v) ≡ true
since-touches a b edits v e = elim (cases_Bool (touched a b edits (suc v))) [
  | inl sure ↦ sure
  | inr other ↦ absurd (omega (arith, ap (λ c. cond c (suc v) (since a b edits v)) other, e, since-bound a b edits v))
]

-- if the last version that touches [a, b) is at most v, none after v touches it
pub none-after : (a b : ℕ) (edits : List Accepted) (v : ℕ) → timeline_since a b (map (λ (e : Accepted). e.tick) edits) (length (map (λ (e : Accepted). e.tick) edits)) ≤ v
    → (t : ℕ) → v < t → t ≤ length edits → touched a b edits t ≡ false
none-after a b edits v h t after within =
    let last : since a b edits (length edits) ≤ v =
    omega (arith, h, ap (timeline_since a b (map (λ (e : Accepted). e.tick) edits)) (count-same edits), since-same a b edits (length edits) (omega arith)) in
    since-untouched a b edits (length edits) t (omega (arith, last, after)) within

-- the first version after v that touches [a, b) by the ticks is so by the edits
pub first-same : (a b : ℕ) (edits : List Accepted) (v t : ℕ) → IsFirstAfter a b (map (λ (e : Accepted). e.tick) edits) v t → IsFirstTouch a b edits v t
first-same a b edits v zero f = absurd (omega (arith, f.later))
first-same a b edits v (suc u) f =
    let within : suc u ≤ length edits = omega (arith, f.within, count-same edits) in
    let e : suc u - 1 ≡ u = omega arith in
    let before : since a b edits u ≤ v = omega (arith, subst (λ (n : ℕ). timeline_since a b (map (λ (a : Accepted). a.tick) edits) n ≤ v) e f.first, since-same a b edits u (omega (arith, within))) in
    record {
      later = f.later;
      within = within;
      touches = since-touches a b edits u (sym (since-same a b edits (suc u) within) ∙ f.touches);
      first = λ n after earlier. since-untouched a b edits u n (omega (arith, before, after)) (omega (arith, earlier));
    }

-- ---- what an edit makes of the current rows, by the key of its row
module _ (log : LogValue) (is : IsLog log) (room : length log.edits + 1 < 2 ^ 31) where
  abbrev now-rows : List RowValue
  now-rows = current_rows log.edits

  births : All (λ (row : RowValue). row.birth < length log.edits + 1) now-rows
  births = younger log (length log.edits) is (omega arith)

  young : All (λ (row : RowValue). row.birth < 2 ^ 31) now-rows
  young = All-weaker (λ (row : RowValue). row.birth < length log.edits + 1) (λ (row : RowValue). row.birth < 2 ^ 31) (λ row h. omega (arith, h, room)) now-rows births

  -- an append puts the new row at the key of its tick and of the next version
  pub append-change : (name : List ℕ) (tick : ℕ) (x : Parts)
      → edited (length log.edits + 1) (Append name tick x) now-rows ≡ with_at (key_at tick (length log.edits + 1)) ((record { name = name; tick = tick; birth = length log.edits + 1; x = x }) ∷ []) now-rows
  append-change name tick x = appended-at (record { name = name; tick = tick; birth = length log.edits + 1; x = x }) now-rows (rows-in-order log (length log.edits) is (omega arith)) room births

  -- a correction puts the row with its new move at the row's key
  pub correct-change : (name : List ℕ) (x : Parts) (r : RowValue) → row_of name now-rows ≡ Some r → edited (length log.edits + 1) (Correct name x) now-rows ≡ with_at (key_of r) (record r { x = x } ∷ []) now-rows
  correct-change name x r at = corrected-at name r x now-rows (rows-in-order log (length log.edits) is (omega arith)) (distinct-names log (length log.edits) is) young at

  -- a removal leaves no row at the row's key
  pub remove-change : (name : List ℕ) (r : RowValue) → row_of name now-rows ≡ Some r → edited (length log.edits + 1) (Remove name) now-rows ≡ with_at (key_of r) [] now-rows
  remove-change name r at = removed-at name r now-rows (rows-in-order log (length log.edits) is (omega arith)) (distinct-names log (length log.edits) is) young at
