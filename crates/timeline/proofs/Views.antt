-- What lies in an interval, from the tree nodes.
use Rattle.std.proofs.Common.{◌≡◌, ◌∙◌, ℕ, zero, suc, ◌+◌, ◌-◌, ◌<◌, ◌≤◌, ◌^◌, ◌⊎◌, List, [], ◌∷◌, ◌++◌, length, take, refl, sym, ap, subst, arith, length-append, Bool, true, false, cond}
use Rattle.std.specs.Prelude.{max}
use Rattle.std.proofs.lemmas.List.{append-nil, nil_from_length}
use Rattle.definitions.specs.Rows.{RowValue, lies_in, moves_of}
use Rattle.definitions.specs.Signature.{weight as weight_of}
use Rattle.timeline.specs.declared.span.Span.{Span}
use Rattle.timeline.specs.declared.view.Totals.{Totals}
use Rattle.timeline.specs.Keys.{key_of, keyed_in}
use Rattle.timeline.specs.Tries.{Label, Trie, Fork, label_of, rows_of, last_in}
use Rattle.timeline.specs.Stores.{Store, span_at, row_at, edit_key, weight_in, label_at, trie, Stands}
use Rattle.timeline.specs.Puts.{AreFit}
use Rattle.timeline.specs.Views.{AreTotals, no_totals, summed, lowest}
use Rattle.timeline.proofs.Filters.{keyed-append, keyed-fewer, weight-append}
use Rattle.timeline.proofs.Tries.{last-outside, keyed-outside, last-inside, keyed-inside, weight-is}
use Rattle.timeline.proofs.Drawings.{stands-label, HasHalves, has-tip}
use Rattle.timeline.proofs.Joins.{size-of, all-fit, light}

module _ (store : Store) (i a b : ℕ) (stands : Stands store i) where
  abbrev low : ℕ
  low = lowest (edit_key store (span_at store i).edit) (span_at store i).height

  abbrev size : ℕ
  size = 2 ^ (span_at store i).height

  -- the bounds, as the label has them
  outside-label : (b ≤ low) ⊎ (low + size ≤ a)
      → (b ≤ lowest (label_of (trie store i)).key (label_of (trie store i)).height) ⊎ (lowest (label_of (trie store i)).key (label_of (trie store i)).height + 2 ^ (label_of (trie store i)).height ≤ a)
  outside-label out = subst (λ (m : Label). (b ≤ lowest m.key m.height) ⊎ (lowest m.key m.height + 2 ^ m.height ≤ a)) (sym (stands-label store i stands)) out

  from-label : a ≤ low → a ≤ lowest (label_of (trie store i)).key (label_of (trie store i)).height
  from-label h = subst (λ (m : Label). a ≤ lowest m.key m.height) (sym (stands-label store i stands)) h

  to-label : low + size ≤ b → lowest (label_of (trie store i)).key (label_of (trie store i)).height + 2 ^ (label_of (trie store i)).height ≤ b
  to-label h = subst (λ (m : Label). lowest m.key m.height + 2 ^ m.height ≤ b) (sym (stands-label store i stands)) h

  -- an interval that ends before the keys of the tree node or begins after them has none of its rows
  pub none-outside : (b ≤ low) ⊎ (low + size ≤ a) → keyed_in a b (rows_of (trie store i)) ≡ []
  none-outside out = keyed-outside a b (trie store i) stands.is (outside-label out)

  -- the totals of such an interval are 0
  pub outside-totals : (b ≤ low) ⊎ (low + size ≤ a) → AreTotals a b (trie store i) no_totals
  outside-totals out =
      let none = none-outside out in
      record {
        count = sym (ap length none);
        weighed = sym (ap (λ (rs : List RowValue). weight_of (moves_of rs)) none);
        touched = sym (last-outside a b (trie store i) stands.is (outside-label out));
      }

  -- an interval with all keys of the tree node has all its rows
  pub all-inside : a ≤ low → low + size ≤ b → keyed_in a b (rows_of (trie store i)) ≡ rows_of (trie store i)
  all-inside from to = keyed-inside a b (trie store i) stands.is (from-label from) (to-label to)

  -- the totals of such an interval are the count, the weight and the version of the tree node
  pub inside-totals : a ≤ low → low + size ≤ b → AreTotals a b (trie store i) (record { count = (span_at store i).count; weight = weight_in (span_at store i); since = suc (span_at store i).edit })
  inside-totals from to =
      let all = all-inside from to in
      record {
        count = size-of store i stands ∙ sym (ap length all);
        weighed = sym (ap (λ (m : Label). m.weight) (stands-label store i stands)) ∙ weight-is (trie store i) stands.is ∙ sym (ap (λ (rs : List RowValue). weight_of (moves_of rs)) all);
        touched = sym (ap (λ (m : Label). m.version) (stands-label store i stands)) ∙ sym (last-inside a b (trie store i) stands.is (from-label from) (to-label to));
      }

-- a tree node that counts no rows has none with keys in [a, b)
pub no-rows : (store : Store) (i a b : ℕ) → Stands store i → (span_at store i).count ≡ 0 → keyed_in a b (rows_of (trie store i)) ≡ []
no-rows store i a b stands none =
    ap (keyed_in a b) (nil_from_length (rows_of (trie store i)) (sym (size-of store i stands) ∙ none))

-- ---- weights
one-more : (r : RowValue) (rows : List RowValue) → weight_of (moves_of (r ∷ rows)) ≡ weight_of (moves_of (r ∷ [])) + weight_of (moves_of rows)
one-more r rows = weight-append (r ∷ []) rows

lighter : (t : Bool) (r : RowValue) (rs : List RowValue) (w : ℕ) → weight_of (moves_of rs) ≤ w → weight_of (moves_of (cond t (r ∷ rs) rs)) ≤ weight_of (moves_of (r ∷ [])) + w
lighter true r rs w h = omega (arith, one-more r rs, h)
lighter false r rs w h = omega (arith, h)

lighter-in : (a b : ℕ) (rows : List RowValue) → weight_of (moves_of (keyed_in a b rows)) ≤ weight_of (moves_of rows)
lighter-in a b [] = omega arith
lighter-in a b (r ∷ rows) =
    let step = lighter (lies_in a b (key_of r)) r (keyed_in a b rows) (weight_of (moves_of rows)) (lighter-in a b rows) in
    omega (arith, step, one-more r rows)

-- ---- the halves
module _ (store : Store) (i a b : ℕ) (s : Span) (has : HasHalves store i) (read : s ≡ span_at store i) where
  -- the left half is the root of its tree
  pub left-here : Stands store s.left
  left-here = subst (λ (w : Span). Stands store w.left) (sym read) has.left

  -- so is the right one
  pub right-here : Stands store s.right
  right-here = subst (λ (w : Span). Stands store w.right) (sym read) has.right

  height : s.height ≡ suc has.half
  height = ap (λ (w : Span). w.height) read ∙ has.higher

  -- the left half is lower than the tree node
  pub left-lower : (span_at store s.left).height ≤ s.height - 1
  left-lower = subst (λ (w : Span). (span_at store w.left).height ≤ s.height - 1) (sym read) (omega (arith, has.first_low, height))

  -- so is the right one
  pub right-lower : (span_at store s.right).height ≤ s.height - 1
  right-lower = subst (λ (w : Span). (span_at store w.right).height ≤ s.height - 1) (sym read) (omega (arith, has.second_low, height))

  -- the tree is the fork over those of the halves
  pub fork-is : trie store i ≡ Fork (label_at store i) (trie store s.left) (trie store s.right)
  fork-is = has.tree ∙ sym (ap (λ (w : Span). Fork (label_at store i) (trie store w.left) (trie store w.right)) read)

  -- the rows are those of the left half, then those of the right one
  pub rows-are : rows_of (trie store i) ≡ rows_of (trie store s.left) ++ rows_of (trie store s.right)
  rows-are = ap rows_of fork-is

  -- so are the rows with keys in [a, b)
  pub keyed-are : keyed_in a b (rows_of (trie store i)) ≡ keyed_in a b (rows_of (trie store s.left)) ++ keyed_in a b (rows_of (trie store s.right))
  keyed-are = ap (keyed_in a b) rows-are ∙ keyed-append a b (rows_of (trie store s.left)) (rows_of (trie store s.right))

  lengths : length (rows_of (trie store s.left)) + length (rows_of (trie store s.right)) ≡ length (rows_of (trie store i))
  lengths = omega (arith, ap length rows-are, length-append (rows_of (trie store s.left)) (rows_of (trie store s.right)))

  module _ (room : length (rows_of (trie store i)) < 2 ^ 32) where
    -- the left half has fewer than 2 ^ 32 rows
    pub left-few : length (rows_of (trie store s.left)) < 2 ^ 32
    left-few = omega (arith, lengths, room)

    -- so has the right one
    pub right-few : length (rows_of (trie store s.right)) < 2 ^ 32
    right-few = omega (arith, lengths, room)

    module _ (fit : AreFit store) (x y : Totals) (first : AreTotals a b (trie store s.left) x) (second : AreTotals a b (trie store s.right) y) where
      -- the counts of both halves add up to less than 2 ^ 64
      pub sum-count : x.count + y.count < 2 ^ 64
      sum-count = omega (arith, first.count, second.count, keyed-fewer a b (rows_of (trie store s.left)), keyed-fewer a b (rows_of (trie store s.right)), lengths, room)

      -- the weights of both halves add up to less than 2 ^ 128
      pub sum-weight : x.weight + y.weight < 2 ^ 128
      sum-weight =
          omega (
            arith,
            first.weighed,
            second.weighed,
            lighter-in a b (rows_of (trie store s.left)),
            lighter-in a b (rows_of (trie store s.right)),
            light (rows_of (trie store s.left)) (all-fit store s.left fit left-here),
            light (rows_of (trie store s.right)) (all-fit store s.right fit right-here),
            lengths,
            room,
          )

      -- the totals of both halves make up those of the tree node
      pub sum-totals : AreTotals a b (trie store i) (summed x y)
      sum-totals = record {
        count = omega (arith, first.count, second.count, ap length keyed-are, length-append (keyed_in a b (rows_of (trie store s.left))) (keyed_in a b (rows_of (trie store s.right))));
        weighed =
            omega (arith, first.weighed, second.weighed, ap (λ (rs : List RowValue). weight_of (moves_of rs)) keyed-are, weight-append (keyed_in a b (rows_of (trie store s.left))) (keyed_in a b (rows_of (trie store s.right))));
        touched =
            ap (λ (n : ℕ). max n y.since) first.touched ∙ ap (λ (n : ℕ). max (last_in a b (trie store s.left)) n) second.touched
            ∙ sym (ap (λ (t : Trie). last_in a b t) fork-is);
      }

-- ---- lists of rows
-- no rows after the old ones leave them as they are
pub nothing-more : (old more : List RowValue) → more ≡ [] → old ≡ old ++ more
nothing-more old more e = sym (ap (λ (rs : List RowValue). old ++ rs) e ∙ append-nil old)

-- a tree node that counts no rows has none
pub no-rows-at : (store : Store) (i : ℕ) → Stands store i → (span_at store i).count ≡ 0 → rows_of (trie store i) ≡ []
no-rows-at store i stands none = nil_from_length (rows_of (trie store i)) (sym (size-of store i stands) ∙ none)

take-whole : (n : ℕ) (r : RowValue) → n ≡ length (take n (r ∷ [])) → (n ≡ 0 → ⊥) → take n (r ∷ []) ≡ r ∷ []
take-whole zero r e some = absurd (some refl)
take-whole (suc n) r e some = ap (λ (rs : List RowValue). r ∷ rs) (take-empty n)
  where
    take-empty : (n : ℕ) → take {A = RowValue} n [] ≡ []
    take-empty zero = refl
    take-empty (suc n) = refl

-- the one row of a tree node
pub one-row : (store : Store) (i : ℕ) (s : Span) → Stands store i → s ≡ span_at store i → s.height ≡ 0 → (s.count ≡ 0 → ⊥) → rows_of (trie store i) ≡ row_at store s.right ∷ []
one-row store i s stands read lowest some =
    let tip = has-tip store i stands (sym (ap (λ (w : Span). w.height) read) ∙ lowest) in
    ap rows_of tip.tree
    ∙ take-whole (span_at store i).count (row_at store (span_at store i).right) tip.counted (λ e. some (ap (λ (w : Span). w.count) read ∙ e))
    ∙ sym (ap (λ (w : Span). row_at store w.right ∷ []) read)

-- the row that it points to is in the store
pub one-within : (store : Store) (i : ℕ) (s : Span) → Stands store i → s ≡ span_at store i → s.height ≡ 0 → (s.count ≡ 0 → ⊥) → s.right < length store.rows
one-within store i s stands read lowest some =
    let tip = has-tip store i stands (sym (ap (λ (w : Span). w.height) read) ∙ lowest) in
    let there : (span_at store i).right < length store.rows = tip.row_within (omega (arith, ap (λ (w : Span). w.count) read, some)) in
    omega (arith, ap (λ (w : Span). w.right) read, there)
