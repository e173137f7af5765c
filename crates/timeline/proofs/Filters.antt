-- Rows whose keys agree, among the rows with keys in an interval, and beside a changed key.
use Rattle.std.proofs.Common.{◌≡◌, ◌∙◌, ℕ, suc, ◌+◌, ◌*◌, ◌/◌, ◌<◌, ◌≤◌, ◌⊎◌, inl, inr, List, [], ◌∷◌, ◌++◌, length, refl, sym, ap, arith, Bool, true, false, cond, append_assoc, length-append}
use Rattle.std.specs.Prelude.{filter, nat_lt}
use Rattle.std.specs.List.{All}
use Rattle.std.proofs.lemmas.List.{append-nil, map-append}
use Rattle.std.proofs.lemmas.List.Elements.{All-head, All-tail, filter-append}
use Rattle.std.proofs.lemmas.List.Sums.{sum_by-append}
use Rattle.std.proofs.lemmas.Bool.Decides.{nat_tests}
use Rattle.definitions.specs.Moves.{move_weight}
use Rattle.definitions.specs.Rows.{RowValue, lies_in, moves_of}
use Rattle.definitions.specs.Signature.{weight}
use Rattle.timeline.specs.Keys.{key_of, keyed_in, below, above, with_at}
use Rattle.timeline.proofs.Prefixes.{prefix-from, prefix-before, prefix-order}

-- the row's key has this prefix
abbrev pub HasPrefix : ℕ → ℕ → RowValue → Type 0
HasPrefix w p row = key_of row / w ≡ p

-- ---- a test that all rows pass, or none
-- a test that all rows pass keeps all
pub filter-all : (test : RowValue → Bool) (P : RowValue → Type 0) (rows : List RowValue) → All P rows → ((row : RowValue) → P row → test row ≡ true) → filter test rows ≡ rows
filter-all test P [] all passes = refl
filter-all test P (r ∷ rows) all passes =
    ap (λ t. cond t (r ∷ filter test rows) (filter test rows)) (passes r (All-head P r rows all)) ∙ ap (λ (rs : List RowValue). r ∷ rs) (filter-all test P rows (All-tail P r rows all) passes)

-- a test that all rows fail keeps none
pub filter-none : (test : RowValue → Bool) (P : RowValue → Type 0) (rows : List RowValue) → All P rows → ((row : RowValue) → P row → test row ≡ false) → filter test rows ≡ []
filter-none test P [] all fails = refl
filter-none test P (r ∷ rows) all fails =
    ap (λ t. cond t (r ∷ filter test rows) (filter test rows)) (fails r (All-head P r rows all)) ∙ filter-none test P rows (All-tail P r rows all) fails

-- a list of at most n, with one row more or without it
pub kept-fewer : (t : Bool) (r : RowValue) (rs : List RowValue) (n : ℕ) → length rs ≤ n → length (cond t (r ∷ rs) rs) ≤ suc n
kept-fewer true r rs n h = omega arith
kept-fewer false r rs n h = omega arith

-- a test keeps no more rows than there are
pub filter-fewer : (test : RowValue → Bool) (rows : List RowValue) → length (filter test rows) ≤ length rows
filter-fewer test [] = omega arith
filter-fewer test (r ∷ rows) = kept-fewer (test r) r (filter test rows) (length rows) (filter-fewer test rows)

-- ---- an interval
yes-in : (a b k : ℕ) → a ≤ k → k < b → lies_in a b k ≡ true
yes-in a b k p q = grind (arith, nat_tests)

no-before : (a b k : ℕ) → b ≤ k → lies_in a b k ≡ false
no-before a b k p = grind (arith, nat_tests)

no-after : (a b k : ℕ) → k < a → lies_in a b k ≡ false
no-after a b k p = grind (arith, nat_tests)

-- keys that agree without w, which are those from low on and below low + w
module _ (a b k w : ℕ) (some : 0 < w) where
  -- none of them is in an interval that ends before them or begins after them
  pub key-outside : (b ≤ k / w * w) ⊎ (k / w * w + w ≤ a) → (n : ℕ) → n / w ≡ k / w → lies_in a b n ≡ false
  key-outside out n e =
      let same : n / w * w ≡ k / w * w = ap (λ (p : ℕ). p * w) e in
      elim out [
        | inl h ↦ no-before a b n (omega (arith, prefix-from n w some, same, h))
        | inr h ↦ no-after a b n (omega (arith, prefix-before n w some, same, h))
      ]

  -- each of them is in an interval that holds all of them
  pub key-inside : a ≤ k / w * w → k / w * w + w ≤ b → (n : ℕ) → n / w ≡ k / w → lies_in a b n ≡ true
  key-inside from to n e =
      let same : n / w * w ≡ k / w * w = ap (λ (p : ℕ). p * w) e in
      yes-in a b n (omega (arith, prefix-from n w some, same, from)) (omega (arith, prefix-before n w some, same, to))

  -- of rows with such keys, none is in an interval that ends before these keys or begins after them
  pub rows-outside : (b ≤ k / w * w) ⊎ (k / w * w + w ≤ a) → (rows : List RowValue) → All (HasPrefix w (k / w)) rows → keyed_in a b rows ≡ []
  rows-outside out rows all = filter-none (λ (row : RowValue). lies_in a b (key_of row)) (HasPrefix w (k / w)) rows all (λ row e. key-outside out (key_of row) e)

  -- rows with such keys are all in an interval that holds all of these keys
  pub rows-inside : a ≤ k / w * w → k / w * w + w ≤ b → (rows : List RowValue) → All (HasPrefix w (k / w)) rows → keyed_in a b rows ≡ rows
  rows-inside from to rows all = filter-all (λ (row : RowValue). lies_in a b (key_of row)) (HasPrefix w (k / w)) rows all (λ row e. key-inside from to (key_of row) e)

-- the rows with keys in [a, b) of two lists in a row are those of the first, then those of the second
pub keyed-append : (a b : ℕ) (xs ys : List RowValue) → keyed_in a b (xs ++ ys) ≡ keyed_in a b xs ++ keyed_in a b ys
keyed-append a b xs ys = filter-append (λ (row : RowValue). lies_in a b (key_of row)) xs ys

-- the rows with keys in [a, b) are no more than all rows
pub keyed-fewer : (a b : ℕ) (rows : List RowValue) → length (keyed_in a b rows) ≤ length rows
keyed-fewer a b rows = filter-fewer (λ (row : RowValue). lies_in a b (key_of row)) rows

-- ---- weights
-- the rows of two lists together weigh as much as those of each
pub weight-append : (xs ys : List RowValue) → weight (moves_of (xs ++ ys)) ≡ weight (moves_of xs) + weight (moves_of ys)
weight-append xs ys = ap weight (map-append (λ (row : RowValue). row.x) xs ys) ∙ sum_by-append move_weight (moves_of xs) (moves_of ys)

-- ---- a change at a key
-- a number below k passes the test
pub is-below : (a k : ℕ) → a < k → nat_lt a k ≡ true
is-below a k h = grind (arith, nat_tests)

-- a number that isn't below k fails the test
pub not-below : (a k : ℕ) → k ≤ a → nat_lt a k ≡ false
not-below a k h = grind (arith, nat_tests)

module _ (k : ℕ) (P : RowValue → Type 0) (rows : List RowValue) (all : All P rows) where
  module _ (less : (row : RowValue) → P row → key_of row < k) where
    -- if all rows have lower keys, those with lower keys are all of them
    pub below-all : below k rows ≡ rows
    below-all = filter-all (λ (row : RowValue). nat_lt (key_of row) k) P rows all (λ row p. is-below (key_of row) k (less row p))

    -- if all rows have lower keys, none has a higher one
    pub above-none : above k rows ≡ []
    above-none = filter-none (λ (row : RowValue). nat_lt k (key_of row)) P rows all (λ row p. not-below k (key_of row) (omega (arith, less row p)))

  module _ (more : (row : RowValue) → P row → k < key_of row) where
    -- if all rows have higher keys, none has a lower one
    pub below-none : below k rows ≡ []
    below-none = filter-none (λ (row : RowValue). nat_lt (key_of row) k) P rows all (λ row p. not-below (key_of row) k (omega (arith, more row p)))

    -- if all rows have higher keys, those with higher keys are all of them
    pub above-all : above k rows ≡ rows
    above-all = filter-all (λ (row : RowValue). nat_lt k (key_of row)) P rows all (λ row p. is-below k (key_of row) (more row p))

  module _ (same : (row : RowValue) → P row → key_of row ≡ k) where
    below-same : below k rows ≡ []
    below-same = filter-none (λ (row : RowValue). nat_lt (key_of row) k) P rows all (λ row p. not-below (key_of row) k (omega (arith, same row p)))

    above-same : above k rows ≡ []
    above-same = filter-none (λ (row : RowValue). nat_lt k (key_of row)) P rows all (λ row p. not-below k (key_of row) (omega (arith, same row p)))

    -- the rows of the key go
    pub with_at-same : (new : List RowValue) → with_at k new rows ≡ new
    unfolding with_at
    with_at-same new =
        ap (λ (rs : List RowValue). rs ++ (new ++ above k rows)) below-same ∙ ap (λ (rs : List RowValue). new ++ rs) above-same ∙ append-nil new

below-append : (k : ℕ) (xs ys : List RowValue) → below k (xs ++ ys) ≡ below k xs ++ below k ys
below-append k xs ys = filter-append (λ (row : RowValue). nat_lt (key_of row) k) xs ys

above-append : (k : ℕ) (xs ys : List RowValue) → above k (xs ++ ys) ≡ above k xs ++ above k ys
above-append k xs ys = filter-append (λ (row : RowValue). nat_lt k (key_of row)) xs ys

-- a change among the rows before others of a higher prefix, or after others of a lower one
module _ (k w p : ℕ) (some : 0 < w) (new xs ys : List RowValue) where
  -- rows of a higher prefix that follow stay as they are after the changed ones
  pub with_at-first : k / w < p → All (HasPrefix w p) ys → with_at k new (xs ++ ys) ≡ with_at k new xs ++ ys
  unfolding with_at
  with_at-first h all =
      let more : (row : RowValue) → HasPrefix w p row → k < key_of row = λ row e. prefix-order k (key_of row) w some (omega (arith, e, h)) in
      ap (λ (rs : List RowValue). rs ++ (new ++ above k (xs ++ ys)))
      (below-append k xs ys ∙ ap (λ (rs : List RowValue). below k xs ++ rs) (below-none k (HasPrefix w p) ys all more) ∙ append-nil (below k xs))
      ∙ ap (λ (rs : List RowValue). below k xs ++ (new ++ rs)) (above-append k xs ys ∙ ap (λ (rs : List RowValue). above k xs ++ rs) (above-all k (HasPrefix w p) ys all more))
      ∙ ap (λ (rs : List RowValue). below k xs ++ rs) (sym (append_assoc new (above k xs) ys))
      ∙ sym (append_assoc (below k xs) (new ++ above k xs) ys)

  -- rows of a lower prefix that come first stay as they are before the changed ones
  pub with_at-second : p < k / w → All (HasPrefix w p) xs → with_at k new (xs ++ ys) ≡ xs ++ with_at k new ys
  unfolding with_at
  with_at-second h all =
      let less : (row : RowValue) → HasPrefix w p row → key_of row < k = λ row e. prefix-order (key_of row) k w some (omega (arith, e, h)) in
      ap (λ (rs : List RowValue). rs ++ (new ++ above k (xs ++ ys))) (below-append k xs ys ∙ ap (λ (rs : List RowValue). rs ++ below k ys) (below-all k (HasPrefix w p) xs all less))
      ∙ ap (λ (rs : List RowValue). (xs ++ below k ys) ++ (new ++ rs)) (above-append k xs ys ∙ ap (λ (rs : List RowValue). rs ++ above k ys) (above-none k (HasPrefix w p) xs all less))
      ∙ append_assoc xs (below k ys) (new ++ above k ys)

-- no rows
pub with_at-nil : (k : ℕ) (new : List RowValue) → with_at k new [] ≡ new
unfolding with_at
with_at-nil k new = append-nil new

-- at most one row more
pub with_at-length : (k : ℕ) (new rows : List RowValue) → length (with_at k new rows) ≤ length new + length rows
unfolding with_at
with_at-length k new rows =
    omega (arith, length-append (below k rows) (new ++ above k rows), length-append new (above k rows), parts k rows)
  where
    either : (s t : Bool) (r : RowValue) (xs ys : List RowValue) (n : ℕ) → (s ≡ true → t ≡ false) → length xs + length ys ≤ n
        → length (cond s (r ∷ xs) xs) + length (cond t (r ∷ ys) ys) ≤ suc n
    either true true r xs ys n one h = absurd (let e : true ≡ false = one refl in cc)
    either true false r xs ys n one h = omega arith
    either false true r xs ys n one h = omega arith
    either false false r xs ys n one h = omega arith

    apart : (a k : ℕ) → nat_lt a k ≡ true → nat_lt k a ≡ false
    apart a k h = grind (arith, nat_tests)

    parts : (k : ℕ) (rows : List RowValue) → length (below k rows) + length (above k rows) ≤ length rows
    parts k [] = omega arith
    parts k (r ∷ rows) = either (nat_lt (key_of r) k) (nat_lt k (key_of r)) r (below k rows) (above k rows) (length rows) (apart (key_of r) k) (parts k rows)
