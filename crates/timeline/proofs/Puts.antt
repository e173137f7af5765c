-- A tip is put into a tree.
use Rattle.std.proofs.Common.{◌≡◌, ◌∙◌, ℕ, suc, ◌+◌, ◌*◌, ◌/◌, ◌<◌, ◌≤◌, ◌^◌, List, ◌++◌, length, get_or, sym, ap, subst, arith, length-append, add-one}
use Rattle.std.specs.Prelude.{max}
use Rattle.definitions.specs.Rows.{RowValue}
use Rattle.timeline.specs.declared.span.Span.{Span}
use Rattle.timeline.specs.Tries.{Label, Trie, Fork, label_of, rows_of, last_in, IsForkOf, IsTrie}
use Rattle.timeline.specs.Stores.{Store, span_at, edit_key, weight_in, label_at, trie, Stands}
use Rattle.timeline.specs.Puts.{Grows, IsJoined, IsTip, IsChanged, IsPut, AreFit}
use Rattle.timeline.proofs.Filters.{with_at-length}
use Rattle.timeline.proofs.Growth.{Grows-gained, Gains-more}
use Rattle.timeline.proofs.Drawings.{stands-label, HasHalves, stands-kept, trie-kept}
use Rattle.timeline.proofs.Changes.{IsOver, lower-changed, higher-changed, changed-same}
use Rattle.timeline.proofs.Joins.{joined-stands, joined-trie, joined-over, size-of, mass-of, tip-few, fit-kept}

-- the label of a fork whose halves are at most this high
pub record IsForkAt (l x y : Label) (half : ℕ) : Type 0 where
  -- the height of the first is at most half
  pub first_low : x.height ≤ half
  -- so is that of the second
  pub second_low : y.height ≤ half
  -- the first agrees with the fork in the higher digits, and has 0 at the one where the two part
  pub first_key : x.key / 2 ^ half ≡ 2 * (l.key / 2 ^ suc half)
  -- the second agrees with it, too, and has 1 there
  pub second_key : y.key / 2 ^ half ≡ 2 * (l.key / 2 ^ suc half) + 1
  -- the version of the fork is the later one of theirs
  pub latest : l.version ≡ max x.version y.version

fork-at : (l x y : Label) (f : IsForkOf l x y) (half : ℕ) → f.half ≡ half → IsForkAt l x y half
fork-at l x y f half e = record {
  first_low = omega (arith, f.first_low, e);
  second_low = omega (arith, f.second_low, e);
  first_key = subst (λ (h : ℕ). x.key / 2 ^ h ≡ 2 * (l.key / 2 ^ suc h)) e f.first_key;
  second_key = subst (λ (h : ℕ). y.key / 2 ^ h ≡ 2 * (l.key / 2 ^ suc h) + 1) e f.second_key;
  latest = f.latest;
}

fork-of : (l : Label) (x y : Trie) → IsTrie (Fork l x y) → IsForkOf l (label_of x) (label_of y)
unfolding IsTrie
fork-of l x y is = is.0

first-of : (l : Label) (x y : Trie) → IsTrie (Fork l x y) → IsTrie x
unfolding IsTrie
first-of l x y is = is.1

second-of : (l : Label) (x y : Trie) → IsTrie (Fork l x y) → IsTrie y
unfolding IsTrie
second-of l x y is = is.2

-- ---- a new tree node over a changed one and another
-- what is changed in the fork over the trees of its halves is changed in the tree of the new tree node
pub finish-changed : (a b : Store) (half l r edit j k v : ℕ) (new old : List RowValue) (before : ℕ → ℕ → ℕ) (joined : IsJoined a b half l r edit j) → Stands a l → Stands a r → edit < length a.keys → half ≤ 62
    → IsChanged k v new old before (Fork (label_at b j) (trie a l) (trie a r)) → IsChanged k v new old before (trie b j)
finish-changed a b half l r edit j k v new old before joined left right made low changed =
    subst (λ (t : Trie). IsChanged k v new old before t) (sym (joined-trie a b half l r edit j joined left right made low changed.is)) changed

-- ---- one half is changed
module _ (old mid new : Store) (limit i tip edit half : ℕ) (s : Span) (stands : Stands old i) (has : HasHalves old i) (read : s ≡ span_at old i) (half-is : s.height ≡ suc half)
    (made : edit < length old.keys) (older : (span_at old i).edit < edit) (low : (span_at old i).height ≤ limit) (bound : limit ≤ 63)
    (same : edit_key old (span_at old i).edit / 2 ^ (span_at old i).height ≡ edit_key old edit / 2 ^ (span_at old i).height) where
  abbrev l : ℕ
  l = (span_at old i).left

  abbrev r : ℕ
  r = (span_at old i).right

  abbrev k : ℕ
  k = edit_key old edit

  abbrev rows : List RowValue
  rows = rows_of (trie old tip)

  height : (span_at old i).height ≡ suc half
  height = sym (ap (λ (w : Span). w.height) read) ∙ half-is

  is : IsTrie (Fork (label_at old i) (trie old l) (trie old r))
  is = subst IsTrie has.tree stands.is

  at : IsForkAt (label_at old i) (label_of (trie old l)) (label_of (trie old r)) half
  at =
      let f : IsForkOf (label_at old i) (label_of (trie old l)) (label_of (trie old r)) = fork-of (label_at old i) (trie old l) (trie old r) is in
      fork-at (label_at old i) (label_of (trie old l)) (label_of (trie old r)) f half (omega (arith, f.higher, height))

  prefix-same : edit_key old (span_at old i).edit / 2 ^ suc half ≡ k / 2 ^ suc half
  prefix-same = subst (λ (h : ℕ). edit_key old (span_at old i).edit / 2 ^ h ≡ k / 2 ^ h) height same

  -- the digit at which the halves part is followed by 62 at most
  pub half-low : half ≤ 62
  half-low = omega (arith, height, low, bound)

  -- the halves in the code's words
  pub left-stands : Stands old s.left
  left-stands = subst (λ (w : Span). Stands old w.left) (sym read) has.left

  -- the right one is the root of its tree, too
  pub right-stands : Stands old s.right
  right-stands = subst (λ (w : Span). Stands old w.right) (sym read) has.right

  left-height : (label_of (trie old l)).height ≡ (span_at old l).height
  left-height = ap (λ (m : Label). m.height) (stands-label old l has.left)

  right-height : (label_of (trie old r)).height ≡ (span_at old r).height
  right-height = ap (λ (m : Label). m.height) (stands-label old r has.right)

  -- the height of the left half is at most half
  pub left-low : (span_at old s.left).height ≤ half
  left-low = subst (λ (w : Span). (span_at old w.left).height ≤ half) (sym read) (omega (arith, left-height, at.first_low))

  -- so is that of the right one
  pub right-low : (span_at old s.right).height ≤ half
  right-low = subst (λ (w : Span). (span_at old w.right).height ≤ half) (sym read) (omega (arith, right-height, at.second_low))

  left-version : (label_of (trie old l)).version ≡ suc (span_at old l).edit
  left-version = ap (λ (m : Label). m.version) (stands-label old l has.left)

  right-version : (label_of (trie old r)).version ≡ suc (span_at old r).edit
  right-version = ap (λ (m : Label). m.version) (stands-label old r has.right)

  -- the left half is of an earlier edit
  pub left-older : (span_at old s.left).edit < edit
  left-older = subst (λ (w : Span). (span_at old w.left).edit < edit) (sym read) (omega (arith, left-version, at.latest, older))

  -- so is the right one
  pub right-older : (span_at old s.right).edit < edit
  right-older = subst (λ (w : Span). (span_at old w.right).edit < edit) (sym read) (omega (arith, right-version, at.latest, older))

  left-key : edit_key old (span_at old l).edit ≡ (label_of (trie old l)).key
  left-key = sym (ap (λ (m : Label). m.key) (stands-label old l has.left))

  right-key : edit_key old (span_at old r).edit ≡ (label_of (trie old r)).key
  right-key = sym (ap (λ (m : Label). m.key) (stands-label old r has.right))

  -- if the new key has 0 where the halves part, it agrees with the left one but for the digits after that
  pub left-together : k / 2 ^ half ≡ 2 * (k / 2 ^ (half + 1)) → edit_key old (span_at old s.left).edit / 2 ^ half ≡ k / 2 ^ half
  left-together first =
      subst (λ (w : Span). edit_key old (span_at old w.left).edit / 2 ^ half ≡ k / 2 ^ half) (sym read)
      (ap (λ (n : ℕ). n / 2 ^ half) left-key ∙ at.first_key ∙ ap (λ (n : ℕ). 2 * n) (prefix-same ∙ sym (ap (λ (n : ℕ). k / 2 ^ n) (add-one half))) ∙ sym first)

  -- if it has 1 there, it agrees so with the right one
  pub right-together : k / 2 ^ half ≡ 2 * (k / 2 ^ (half + 1)) + 1 → edit_key old (span_at old s.right).edit / 2 ^ half ≡ k / 2 ^ half
  right-together second =
      subst (λ (w : Span). edit_key old (span_at old w.right).edit / 2 ^ half ≡ k / 2 ^ half) (sym read)
      (ap (λ (n : ℕ). n / 2 ^ half) right-key ∙ at.second_key ∙ ap (λ (n : ℕ). 2 * n + 1) (prefix-same ∙ sym (ap (λ (n : ℕ). k / 2 ^ n) (add-one half))) ∙ sym second)

  rows-are : rows_of (trie old i) ≡ rows_of (trie old l) ++ rows_of (trie old r)
  rows-are = ap rows_of has.tree

  sizes : length (rows_of (trie old l)) + length (rows_of (trie old r)) ≡ length (rows_of (trie old i))
  sizes = omega (arith, ap length rows-are, length-append (rows_of (trie old l)) (rows_of (trie old r)))

  -- where the tree has fewer than 2 ^ 31 rows, so has the left half
  pub left-room : length (rows_of (trie old i)) < 2 ^ 31 → length (rows_of (trie old s.left)) < 2 ^ 31
  left-room room = subst (λ (w : Span). length (rows_of (trie old w.left)) < 2 ^ 31) (sym read) (omega (arith, sizes, room))

  -- so has the right one
  pub right-room : length (rows_of (trie old i)) < 2 ^ 31 → length (rows_of (trie old s.right)) < 2 ^ 31
  right-room room = subst (λ (w : Span). length (rows_of (trie old w.right)) < 2 ^ 31) (sym read) (omega (arith, sizes, room))

  -- the changed half
  module _ (u : ℕ) where
    -- the first half is changed
    module _ (put : IsPut old mid half s.left tip edit u) where
      put-l : IsPut old mid half l tip edit u
      put-l = subst (λ (w : Span). IsPut old mid half w.left tip edit u) read put

      lower-grown : Grows old mid
      lower-grown = Grows-gained old mid put.gains

      -- the right half is still the root of its tree
      pub lower-other : Stands mid s.right
      lower-other = stands-kept old mid lower-grown s.right right-stands

      lower-made : edit < length mid.keys
      lower-made = omega (arith, made, ap length put.gains.keys)

      module _ (tipped : IsTip old edit rows tip) (room : length (rows_of (trie old i)) < 2 ^ 31) (fit : AreFit old) where
        lower-sizes : (span_at mid u).count + (span_at mid s.right).count ≤ length (rows_of (trie old i)) + 1
        lower-sizes =
            let mine = with_at-length k rows (rows_of (trie old l)) in
            let one = tip-few old tip edit rows tipped in
            let there : (span_at mid s.right).count ≡ length (rows_of (trie old r)) =
            size-of mid s.right lower-other ∙ ap (λ (t : Trie). length (rows_of t)) (trie-kept old mid lower-grown s.right right-stands) ∙ ap (λ (w : Span). length (rows_of (trie old w.right))) read in
            omega (arith, size-of mid u put.stands, ap length put-l.changed.rows, mine, one, there, sizes)

        -- the changed half and the right one have fewer than 2 ^ 32 rows together
        pub lower-count : (span_at mid u).count + (span_at mid s.right).count < 2 ^ 32
        lower-count = omega (arith, lower-sizes, room)

        -- they weigh less than 2 ^ 96 together
        pub lower-weight : weight_in (span_at mid u) + weight_in (span_at mid s.right) < 2 ^ 96
        lower-weight =
            let fits = fit-kept old mid put.gains fit in
            omega (arith, mass-of mid u fits put.stands, mass-of mid s.right fits lower-other, lower-sizes, room)

      -- if the new key has 0 where the halves part, the new tree node over these two has the tip put in
      pub lower-put : (j : ℕ) → IsJoined mid new half u s.right edit j → k / 2 ^ half ≡ 2 * (k / 2 ^ (half + 1)) → IsPut old new limit i tip edit j
      lower-put j joined-s first-s =
          let joined : IsJoined mid new half u r edit j = subst (λ (w : Span). IsJoined mid new half u w.right edit j) read joined-s in
          let first : k / 2 ^ half ≡ 2 * (k / 2 ^ suc half) = first-s ∙ ap (λ (n : ℕ). 2 * (k / 2 ^ n)) (add-one half) in
          let right : Stands mid r = stands-kept old mid lower-grown r has.right in
          let same-r : trie mid r ≡ trie old r = trie-kept old mid lower-grown r has.right in
          let over : IsOver (label_at new j) half (edit_key mid edit) (suc edit) (label_of (trie mid u)) (label_of (trie mid r)) = joined-over mid new half u r edit j joined put.stands right lower-made half-low in
          let over-old : IsOver (label_at new j) half k (suc edit) (label_of (trie mid u)) (label_of (trie old r)) =
          subst (λ (t : Trie). IsOver (label_at new j) half k (suc edit) (label_of (trie mid u)) (label_of t)) same-r
          (subst (λ (n : ℕ). IsOver (label_at new j) half n (suc edit) (label_of (trie mid u)) (label_of (trie mid r))) (ap (λ ks. get_or ks edit 0) put.gains.keys) over) in
          let changed : IsChanged k (suc edit) rows (rows_of (trie old l) ++ rows_of (trie old r)) (λ a b. max (last_in a b (trie old l)) (last_in a b (trie old r))) (Fork (label_at new j) (trie mid u) (trie old r)) =
          lower-changed k (suc edit) half rows (rows_of (trie old l)) (λ a b. last_in a b (trie old l)) (label_at new j) (trie mid u) (trie old r) put-l.changed (second-of (label_at old i) (trie old l) (trie old r) is)
          (omega (arith, ap (λ (m : Label). m.height) (stands-label mid u put.stands), put.low)) at.second_low (omega (arith, at.latest, older)) first
          (at.second_key ∙ ap (λ (n : ℕ). 2 * n + 1) prefix-same) over-old in
          let here = changed-same k (suc edit) rows (rows_of (trie old l) ++ rows_of (trie old r)) (rows_of (trie old i)) (λ a b. max (last_in a b (trie old l)) (last_in a b (trie old r))) (λ a b. last_in a b (trie old i))
          (Fork (label_at new j) (trie mid u) (trie old r)) (sym rows-are) (λ a b. sym (ap (λ (t : Trie). last_in a b t) has.tree)) changed in
          let there : IsChanged k (suc edit) rows (rows_of (trie old i)) (λ a b. last_in a b (trie old i)) (Fork (label_at new j) (trie mid u) (trie mid r)) =
          subst (λ (t : Trie). IsChanged k (suc edit) rows (rows_of (trie old i)) (λ a b. last_in a b (trie old i)) (Fork (label_at new j) (trie mid u) t)) (sym same-r) here in
          record {
            gains = Gains-more old mid new put.gains joined.gains;
            stands = joined-stands mid new half u r edit j joined put.stands right lower-made half-low there.is;
            low = omega (arith, joined.parts.height, height, low);
            changed = finish-changed mid new half u r edit j k (suc edit) rows (rows_of (trie old i)) (λ a b. last_in a b (trie old i)) joined put.stands right lower-made half-low there;
          }

    -- the second half is changed
    module _ (put : IsPut old mid half s.right tip edit u) where
      put-r : IsPut old mid half r tip edit u
      put-r = subst (λ (w : Span). IsPut old mid half w.right tip edit u) read put

      higher-grown : Grows old mid
      higher-grown = Grows-gained old mid put.gains

      -- the left half is still the root of its tree
      pub higher-other : Stands mid s.left
      higher-other = stands-kept old mid higher-grown s.left left-stands

      higher-made : edit < length mid.keys
      higher-made = omega (arith, made, ap length put.gains.keys)

      module _ (tipped : IsTip old edit rows tip) (room : length (rows_of (trie old i)) < 2 ^ 31) (fit : AreFit old) where
        higher-sizes : (span_at mid s.left).count + (span_at mid u).count ≤ length (rows_of (trie old i)) + 1
        higher-sizes =
            let mine = with_at-length k rows (rows_of (trie old r)) in
            let one = tip-few old tip edit rows tipped in
            let there : (span_at mid s.left).count ≡ length (rows_of (trie old l)) =
            size-of mid s.left higher-other ∙ ap (λ (t : Trie). length (rows_of t)) (trie-kept old mid higher-grown s.left left-stands) ∙ ap (λ (w : Span). length (rows_of (trie old w.left))) read in
            omega (arith, size-of mid u put.stands, ap length put-r.changed.rows, mine, one, there, sizes)

        -- the left half and the changed one have fewer than 2 ^ 32 rows together
        pub higher-count : (span_at mid s.left).count + (span_at mid u).count < 2 ^ 32
        higher-count = omega (arith, higher-sizes, room)

        -- they weigh less than 2 ^ 96 together
        pub higher-weight : weight_in (span_at mid s.left) + weight_in (span_at mid u) < 2 ^ 96
        higher-weight =
            let fits = fit-kept old mid put.gains fit in
            omega (arith, mass-of mid u fits put.stands, mass-of mid s.left fits higher-other, higher-sizes, room)

      -- if the new key has 1 where the halves part, the new tree node over these two has the tip put in
      pub higher-put : (j : ℕ) → IsJoined mid new half s.left u edit j → k / 2 ^ half ≡ 2 * (k / 2 ^ (half + 1)) + 1 → IsPut old new limit i tip edit j
      higher-put j joined-s second-s =
          let joined : IsJoined mid new half l u edit j = subst (λ (w : Span). IsJoined mid new half w.left u edit j) read joined-s in
          let second : k / 2 ^ half ≡ 2 * (k / 2 ^ suc half) + 1 = second-s ∙ ap (λ (n : ℕ). 2 * (k / 2 ^ n) + 1) (add-one half) in
          let left : Stands mid l = stands-kept old mid higher-grown l has.left in
          let same-l : trie mid l ≡ trie old l = trie-kept old mid higher-grown l has.left in
          let over : IsOver (label_at new j) half (edit_key mid edit) (suc edit) (label_of (trie mid l)) (label_of (trie mid u)) = joined-over mid new half l u edit j joined left put.stands higher-made half-low in
          let over-old : IsOver (label_at new j) half k (suc edit) (label_of (trie old l)) (label_of (trie mid u)) =
          subst (λ (t : Trie). IsOver (label_at new j) half k (suc edit) (label_of t) (label_of (trie mid u))) same-l
          (subst (λ (n : ℕ). IsOver (label_at new j) half n (suc edit) (label_of (trie mid l)) (label_of (trie mid u))) (ap (λ ks. get_or ks edit 0) put.gains.keys) over) in
          let changed : IsChanged k (suc edit) rows (rows_of (trie old l) ++ rows_of (trie old r)) (λ a b. max (last_in a b (trie old l)) (last_in a b (trie old r))) (Fork (label_at new j) (trie old l) (trie mid u)) =
          higher-changed k (suc edit) half rows (rows_of (trie old r)) (λ a b. last_in a b (trie old r)) (label_at new j) (trie mid u) (trie old l) put-r.changed (first-of (label_at old i) (trie old l) (trie old r) is)
          (omega (arith, ap (λ (m : Label). m.height) (stands-label mid u put.stands), put.low)) at.first_low (omega (arith, at.latest, older))
          (at.first_key ∙ ap (λ (n : ℕ). 2 * n) prefix-same) second over-old in
          let here = changed-same k (suc edit) rows (rows_of (trie old l) ++ rows_of (trie old r)) (rows_of (trie old i)) (λ a b. max (last_in a b (trie old l)) (last_in a b (trie old r))) (λ a b. last_in a b (trie old i))
          (Fork (label_at new j) (trie old l) (trie mid u)) (sym rows-are) (λ a b. sym (ap (λ (t : Trie). last_in a b t) has.tree)) changed in
          let there : IsChanged k (suc edit) rows (rows_of (trie old i)) (λ a b. last_in a b (trie old i)) (Fork (label_at new j) (trie mid l) (trie mid u)) =
          subst (λ (t : Trie). IsChanged k (suc edit) rows (rows_of (trie old i)) (λ a b. last_in a b (trie old i)) (Fork (label_at new j) t (trie mid u))) (sym same-l) here in
          record {
            gains = Gains-more old mid new put.gains joined.gains;
            stands = joined-stands mid new half l u edit j joined left put.stands higher-made half-low there.is;
            low = omega (arith, joined.parts.height, height, low);
            changed = finish-changed mid new half l u edit j k (suc edit) rows (rows_of (trie old i)) (λ a b. last_in a b (trie old i)) joined left put.stands higher-made half-low there;
          }
