-- Rows in one list: one row more, and the row at a place.
use Rattle.std.proofs.Common.{◌≡◌, ℕ, zero, suc, ◌+◌, ◌-◌, ◌<◌, ◌≤◌, refl, ap, ap₂, arith, List, [], ◌∷◌, ◌++◌, length, take, drop, get_or}
use Rattle.std.proofs.Math.Seq.{drop-append_seam, take-length}
use Rattle.std.proofs.lemmas.List.{take-append-le}
use Rattle.lie_bracket.specs.declared.term.Term.{Term}
use Rattle.dynkin_map.specs.Rows.{rows_from, AreEnds}

-- rows end no earlier than they begin
pub ends-within : (from : ℕ) (ends : List ℕ) (total : ℕ) → AreEnds from ends total → from ≤ total
ends-within from [] total are = omega (arith, are)
ends-within from (end ∷ ends) total are = omega (arith, are.0, ends-within end ends total are.1)

-- ---- one row more
-- one end more, at the end of all
pub ends-more : (from : ℕ) (ends : List ℕ) (total next : ℕ) → total ≤ next → AreEnds from ends total → AreEnds from (ends ++ next ∷ []) next
ends-more from [] total next le are = (omega (arith, are), refl)
ends-more from (end ∷ ends) total next le are = (are.0, ends-more end ends total next le are.1)

-- rows before stay as they are when terms are added
part-before : (from end : ℕ) (terms row : List Term) → from ≤ end → end ≤ length terms → take (end - from) (drop from (terms ++ row)) ≡ take (end - from) (drop from terms)
part-before zero end terms row h le = take-append-le (end - 0) terms row (omega arith)
part-before (suc from) end [] row h le = absurd (omega arith)
part-before (suc from) zero (t ∷ terms) row h le = absurd (omega arith)
part-before (suc from) (suc end) (t ∷ terms) row h le =
    let e : suc end - suc from ≡ end - from = omega arith in
    rw e (part-before from end terms row (omega arith) (omega arith))

-- the row that was added
part-after : (from end : ℕ) (terms row : List Term) → from ≡ length terms → end ≡ length terms + length row → take (end - from) (drop from (terms ++ row)) ≡ row
part-after from end terms row h e =
    let n : end - from ≡ length row = omega arith in
    rw n (rw h (rw (drop-append_seam terms row) (take-length row)))

-- a row put at the end of the list is one row more
pub rows-more : (from : ℕ) (ends : List ℕ) (terms row : List Term) (end : ℕ) → AreEnds from ends (length terms) → end ≡ length terms + length row
    → rows_from (terms ++ row) from (ends ++ end ∷ []) ≡ rows_from terms from ends ++ row ∷ []
rows-more from [] terms row end are e = ap (λ (r : List Term). r ∷ []) (part-after from end terms row are e)
rows-more from (first ∷ ends) terms row end are e =
    ap₂ (λ (r : List Term) (rs : List (List Term)). r ∷ rs) (part-before from first terms row are.0 (ends-within first ends (length terms) are.1)) (rows-more first ends terms row end are.1 e)

-- ---- the row at a place
-- the row at i reaches from the end before it to its own end
pub row-at : (terms : List Term) (from : ℕ) (ends : List ℕ) (i : ℕ) → i < length ends
    → get_or (rows_from terms from ends) i [] ≡ take (get_or ends i 0 - get_or (from ∷ ends) i 0) (drop (get_or (from ∷ ends) i 0) terms)
row-at terms from [] i lt = absurd (omega arith)
row-at terms from (end ∷ ends) zero lt = refl
row-at terms from (end ∷ ends) (suc i) lt = row-at terms end ends i (omega arith)

-- the ends at i and before it are in order, and within the list
pub ends-in_order : (from : ℕ) (ends : List ℕ) (total i : ℕ) → AreEnds from ends total → i < length ends → (get_or (from ∷ ends) i 0 ≤ get_or ends i 0) × (get_or ends i 0 ≤ total)
ends-in_order from [] total i are lt = absurd (omega arith)
ends-in_order from (end ∷ ends) total zero are lt = (are.0, ends-within end ends total are.1)
ends-in_order from (end ∷ ends) total (suc i) are lt = ends-in_order end ends total i are.1 (omega arith)

-- there are as many rows as ends
pub length-rows : (terms : List Term) (from : ℕ) (ends : List ℕ) → length (rows_from terms from ends) ≡ length ends
length-rows terms from [] = refl
length-rows terms from (end ∷ ends) = omega (arith, length-rows terms end ends)
