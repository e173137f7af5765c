-- What an edit makes of rows in order, by the key of its row.
use Rattle.std.proofs.Common.{◌≡◌, ◌∙◌, ℕ, suc, ◌<◌, ◌^◌, ◌⊎◌, inl, inr, sym, ap, subst, arith, List, [], ◌∷◌, ◌++◌, cond, Some, get_or}
use Rattle.std.specs.List.{All, IsDistinct}
use Rattle.std.specs.Str.{bytes_eq}
use Rattle.std.proofs.lemmas.Bool.{cases_lt, cases_Bool}
use Rattle.std.proofs.lemmas.List.Elements.{All-head, All-tail, All-weaker, All-cons}
use Rattle.std.proofs.lemmas.Map.Keys.{IsDistinct-head, IsDistinct-tail}
use Rattle.std.proofs.lemmas.Option.{same_Some}
use Rattle.definitions.specs.Moves.{Parts}
use Rattle.definitions.specs.Rows.{RowValue, with_row}
use Rattle.increments.specs.Edits.{IsBefore, IsInOrder, is_named, row_of, with_move, without}
use Rattle.increments.proofs.Places.{names_in, found, passed, stops, passes, with_move-named, with_move-other, with_move-unnamed, without-named, without-other, without-unnamed}
use Rattle.timeline.specs.Keys.{key_at, key_of, below, above, with_at}
use Rattle.timeline.proofs.Filters.{is-below, not-below, below-none, above-all, with_at-nil}
use Rattle.increments.proofs.Joins.{in_order-tail}

-- births below 2 ^ 31
abbrev pub AreYoung : List RowValue → Type 0
AreYoung rows = All (λ row. row.birth < 2 ^ 31) rows

key-before : (t b u d : ℕ) → b < 2 ^ 31 → d < 2 ^ 31 → (t < u) ⊎ ((t ≡ u) × (b < d)) → key_at t b < key_at u d
key-before t b u d p q h = elim h [ inl x ↦ omega (arith, p, q, x) | inr x ↦ omega (arith, p, q, x.0, x.1) ]

-- the first of rows in order is before all others
pub first-of : (r : RowValue) (rows : List RowValue) → IsInOrder (r ∷ rows) → All (IsBefore r) rows
first-of r rows order = λ k d h. order 0 (suc k) d (omega arith) (omega (arith, h))

-- rows with higher keys than that of a row
Higher : ℕ → RowValue → Type 0
Higher k row = k < key_of row

higher-all : (r : RowValue) (rows : List RowValue) → r.birth < 2 ^ 31 → AreYoung rows → All (IsBefore r) rows → All (Higher (key_of r)) rows
unfolding Higher
higher-all r rows young all before = λ k d h. key-before r.tick r.birth (get_or rows k d).tick (get_or rows k d).birth young (all k d h) (before k d h)

-- ---- where the key of a change stands
with_at-past : (k : ℕ) (new : List RowValue) (r : RowValue) (rows : List RowValue) → key_of r < k → with_at k new (r ∷ rows) ≡ r ∷ with_at k new rows
unfolding with_at
with_at-past k new r rows h =
    ap (λ t. cond t (r ∷ below k rows) (below k rows) ++ (new ++ above k (r ∷ rows))) (is-below (key_of r) k h)
    ∙ ap (λ t. r ∷ (below k rows ++ (new ++ cond t (r ∷ above k rows) (above k rows)))) (not-below k (key_of r) (omega (arith, h)))

with_at-later : (k : ℕ) (new rows : List RowValue) → All (Higher k) rows → with_at k new rows ≡ new ++ rows
unfolding with_at Higher
with_at-later k new rows all =
    ap (λ (rs : List RowValue). rs ++ (new ++ above k rows)) (below-none k (Higher k) rows all (λ row h. h)) ∙ ap (λ (rs : List RowValue). new ++ rs) (above-all k (Higher k) rows all (λ row h. h))

with_at-here : (k : ℕ) (new : List RowValue) (r : RowValue) (rows : List RowValue) → key_of r ≡ k → All (Higher k) rows → with_at k new (r ∷ rows) ≡ new ++ rows
unfolding with_at
with_at-here k new r rows e all =
    ap (λ t. cond t (r ∷ below k rows) (below k rows) ++ (new ++ above k (r ∷ rows))) (not-below (key_of r) k (omega (arith, e)))
    ∙ ap (λ t. below k rows ++ (new ++ cond t (r ∷ above k rows) (above k rows))) (not-below k (key_of r) (omega (arith, e)))
    ∙ with_at-later k new rows all

tick-after : (t u v b d : ℕ) → t < u → (u < v) ⊎ ((u ≡ v) × (b < d)) → t < v
tick-after t u v b d p h = elim h [ inl x ↦ omega (arith, p, x) | inr x ↦ omega (arith, p, x.0) ]

higher-tick : (row r : RowValue) → row.birth < 2 ^ 31 → row.tick < r.tick → Higher (key_of row) r
unfolding Higher
higher-tick row r young h = omega (arith, young, h)

later : (row r : RowValue) (rows : List RowValue) → row.birth < 2 ^ 31 → All (λ s. s.birth < row.birth) (r ∷ rows) → row.tick < r.tick → IsInOrder (r ∷ rows) → All (Higher (key_of row)) (r ∷ rows)
later row r rows young older before order =
    let rest : All (Higher (key_of row)) rows = All-weaker (IsBefore r) (Higher (key_of row))
    (λ (s : RowValue) (b : IsBefore r s). higher-tick row s young (tick-after row.tick r.tick s.tick r.birth s.birth before b)) rows (first-of r rows order) in
    All-cons (Higher (key_of row)) r rows (higher-tick row r young before) rest

-- ---- a new row
-- among rows in order, a row that is younger than all of them goes where its key is
pub appended-at : (row : RowValue) (rows : List RowValue) → IsInOrder rows → row.birth < 2 ^ 31 → All (λ r. r.birth < row.birth) rows → with_row row rows ≡ with_at (key_of row) (row ∷ []) rows
appended-at row [] order young older = sym (with_at-nil (key_of row) (row ∷ []))
appended-at row (r ∷ rows) order young older =
    let first : r.birth < row.birth = All-head (λ r. r.birth < row.birth) r rows older in
    elim (cases_lt row.tick r.tick) [
      | inl before ↦ (
          stops row r rows before
          ∙ sym (with_at-later (key_of row) (row ∷ []) (r ∷ rows) (later row r rows young older before order)))
      | inr after ↦ (
          passes row r rows after ∙ ap (λ (rs : List RowValue). r ∷ rs) (appended-at row rows (in_order-tail r rows order) young (All-tail (λ r. r.birth < row.birth) r rows older))
          ∙ sym (with_at-past (key_of row) (row ∷ []) r rows (omega (arith, first, young, after))))
    ]

-- what holds of all rows holds of the one that is found
pub found-all : (P : RowValue → Type 0) (s : RowValue) (name : List ℕ) (rows : List RowValue) → All P rows → row_of name rows ≡ Some s → P s
found-all P s name [] all at = absurd (cc)
found-all P s name (q ∷ rows) all at =
    elim (cases_Bool (is_named name q)) [
      | inl named ↦ subst P (same_Some q s (sym (found name q rows named) ∙ at)) (All-head P q rows all)
      | inr other ↦ found-all P s name rows (All-tail P q rows all) (sym (passed name q rows other) ∙ at)
    ]

module _ (name : List ℕ) (r : RowValue) where
  -- a corrected row
  pub corrected-at : (x : Parts) (rows : List RowValue) → IsInOrder rows → IsDistinct bytes_eq (names_in rows) → AreYoung rows → row_of name rows ≡ Some r
      → with_move name x rows ≡ with_at (key_of r) (record r { x = x } ∷ []) rows
  corrected-at x [] order distinct young at = absurd (cc)
  corrected-at x (q ∷ rows) order distinct young at =
      let mine : q.birth < 2 ^ 31 = All-head (λ row. row.birth < 2 ^ 31) q rows young in
      let others : AreYoung rows = All-tail (λ row. row.birth < 2 ^ 31) q rows young in
      elim (cases_Bool (is_named name q)) [
        | inl named ↦ (
            let same : q ≡ r = same_Some q r (sym (found name q rows named) ∙ at) in
            with_move-named name x q rows named ∙ ap (λ (rs : List RowValue). record q { x = x } ∷ rs) (with_move-unnamed name q.name x rows named (IsDistinct-head bytes_eq q.name (names_in rows) distinct))
            ∙ ap (λ (s : RowValue). record s { x = x } ∷ rows) same
            ∙ sym (with_at-here (key_of r) (record r { x = x } ∷ []) q rows (ap key_of same) (subst (λ (s : RowValue). All (Higher (key_of s)) rows) same (higher-all q rows mine others (first-of q rows order)))))
        | inr other ↦ (
            let later : row_of name rows ≡ Some r = sym (passed name q rows other) ∙ at in
            with_move-other name x q rows other
            ∙ ap (λ (rs : List RowValue). q ∷ rs) (corrected-at x rows (in_order-tail q rows order) (IsDistinct-tail bytes_eq q.name (names_in rows) distinct) others later)
            ∙ sym (with_at-past (key_of r) (record r { x = x } ∷ []) q rows
            (key-before q.tick q.birth r.tick r.birth mine (found-all (λ row. row.birth < 2 ^ 31) r name rows others later) (found-all (IsBefore q) r name rows (first-of q rows order) later))))
      ]

  -- a removed row
  pub removed-at : (rows : List RowValue) → IsInOrder rows → IsDistinct bytes_eq (names_in rows) → AreYoung rows → row_of name rows ≡ Some r → without name rows ≡ with_at (key_of r) [] rows
  removed-at [] order distinct young at = absurd (cc)
  removed-at (q ∷ rows) order distinct young at =
      let mine : q.birth < 2 ^ 31 = All-head (λ row. row.birth < 2 ^ 31) q rows young in
      let others : AreYoung rows = All-tail (λ row. row.birth < 2 ^ 31) q rows young in
      elim (cases_Bool (is_named name q)) [
        | inl named ↦ (
            let same : q ≡ r = same_Some q r (sym (found name q rows named) ∙ at) in
            without-named name q rows named ∙ without-unnamed name q.name rows named (IsDistinct-head bytes_eq q.name (names_in rows) distinct)
            ∙ sym (with_at-here (key_of r) [] q rows (ap key_of same) (subst (λ (s : RowValue). All (Higher (key_of s)) rows) same (higher-all q rows mine others (first-of q rows order)))))
        | inr other ↦ (
            let later : row_of name rows ≡ Some r = sym (passed name q rows other) ∙ at in
            without-other name q rows other ∙ ap (λ (rs : List RowValue). q ∷ rs) (removed-at rows (in_order-tail q rows order) (IsDistinct-tail bytes_eq q.name (names_in rows) distinct) others later)
            ∙ sym (with_at-past (key_of r) [] q rows (key-before q.tick q.birth r.tick r.birth mine (found-all (λ row. row.birth < 2 ^ 31) r name rows others later) (found-all (IsBefore q) r name rows (first-of q rows order) later))))
      ]
