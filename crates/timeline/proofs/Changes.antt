-- A tree over a changed half and another one.
use Rattle.std.proofs.Common.{◌≡◌, ◌∙◌, ℕ, suc, ◌+◌, ◌*◌, ◌/◌, ◌≤◌, ◌^◌, List, [], ◌++◌, refl, sym, ap, subst, arith, true, false, cond, Bool}
use Rattle.std.specs.Prelude.{max}
use Rattle.std.specs.List.{All}
use Rattle.definitions.specs.Rows.{RowValue, lies_in}
use Rattle.timeline.specs.Keys.{key_of, with_at}
use Rattle.timeline.specs.Tries.{Label, Trie, Leaf, Fork, label_of, rows_of, last_in, IsForkOf, IsTrie}
use Rattle.timeline.specs.Puts.{IsChanged}
use Rattle.timeline.proofs.Prefixes.{power_pos}
use Rattle.timeline.proofs.Filters.{HasPrefix, with_at-first, with_at-second, with_at-same, with_at-nil}
use Rattle.timeline.proofs.Tries.{rows-agree, last-le}

max-first : (t : Bool) (v p q : ℕ) → q ≤ v → max (cond t v p) q ≡ cond t v (max p q)
max-first true v p q h = omega arith
max-first false v p q h = refl

max-second : (t : Bool) (v p q : ℕ) → q ≤ v → max q (cond t v p) ≡ cond t v (max q p)
max-second true v p q h = omega arith
max-second false v p q h = refl

twice : (t : Bool) (v w : ℕ) → cond t v 0 ≡ cond t v (cond t w 0)
twice true v w = refl
twice false v w = refl

-- the label of a new fork
pub record IsOver (l : Label) (half k v : ℕ) (x y : Label) : Type 0 where
  -- its keys agree but for their last half + 1 digits
  pub height : l.height ≡ suc half
  -- its key is k
  pub key : l.key ≡ k
  -- its version is v
  pub version : l.version ≡ v
  -- it counts the rows of both halves
  pub counted : l.count ≡ x.count + y.count
  -- it weighs as much as both halves
  pub weighed : l.weight ≡ x.weight + y.weight

module _ (k v half : ℕ) (new old : List RowValue) (before : ℕ → ℕ → ℕ) (l : Label) (u other : Trie) (changed : IsChanged k v new old before u) (is : IsTrie other)
    (low : (label_of u).height ≤ half) (other-low : (label_of other).height ≤ half) (earlier : (label_of other).version ≤ v) where
  abbrev p : ℕ
  p = k / 2 ^ suc half

  others-agree : (q : ℕ) → (label_of other).key / 2 ^ half ≡ q → All (HasPrefix (2 ^ half) q) (rows_of other)
  others-agree q e = subst (λ (n : ℕ). All (HasPrefix (2 ^ half) n) (rows_of other)) e (rows-agree other half is other-low)

  -- the changed half is the first
  module _ (first : k / 2 ^ half ≡ 2 * p) (second : (label_of other).key / 2 ^ half ≡ 2 * p + 1) (over : IsOver l half k v (label_of u) (label_of other)) where
    lower-fork : IsForkOf l (label_of u) (label_of other)
    lower-fork =
        let top : 2 * (l.key / 2 ^ suc half) ≡ 2 * p = ap (λ (n : ℕ). 2 * (n / 2 ^ suc half)) over.key in
        record {
          half = half;
          higher = over.height;
          first_low = low;
          second_low = other-low;
          first_key = ap (λ (n : ℕ). n / 2 ^ half) changed.key ∙ first ∙ sym top;
          second_key = second ∙ ap (λ (n : ℕ). n + 1) (sym top);
          latest = omega (arith, over.version, changed.version, earlier);
          counted = over.counted;
          weighed = over.weighed;
        }

    -- the fork over the changed half and then the other one has the same change among the rows of both
    pub lower-changed : IsChanged k v new (old ++ rows_of other) (λ a b. max (before a b) (last_in a b other)) (Fork l u other)
    unfolding IsTrie
    lower-changed = record {
      is = (lower-fork, changed.is, is);
      key = over.key;
      version = over.version;
      rows =
          ap (λ (rs : List RowValue). rs ++ rows_of other) changed.rows
          ∙ sym (with_at-first k (2 ^ half) (2 * p + 1) (power_pos half) new old (rows_of other) (omega (arith, first)) (others-agree (2 * p + 1) second));
      last = λ a b.
          ap (λ (n : ℕ). max n (last_in a b other)) (changed.last a b)
          ∙ max-first (lies_in a b k) v (before a b) (last_in a b other) (omega (arith, last-le a b other is, earlier));
    }

  -- the changed half is the second
  module _ (first : (label_of other).key / 2 ^ half ≡ 2 * p) (second : k / 2 ^ half ≡ 2 * p + 1) (over : IsOver l half k v (label_of other) (label_of u)) where
    higher-fork : IsForkOf l (label_of other) (label_of u)
    higher-fork =
        let top : 2 * (l.key / 2 ^ suc half) ≡ 2 * p = ap (λ (n : ℕ). 2 * (n / 2 ^ suc half)) over.key in
        record {
          half = half;
          higher = over.height;
          first_low = other-low;
          second_low = low;
          first_key = first ∙ sym top;
          second_key = ap (λ (n : ℕ). n / 2 ^ half) changed.key ∙ second ∙ ap (λ (n : ℕ). n + 1) (sym top);
          latest = omega (arith, over.version, changed.version, earlier);
          counted = over.counted;
          weighed = over.weighed;
        }

    -- the fork over the other half and then the changed one has the same change among the rows of both
    pub higher-changed : IsChanged k v new (rows_of other ++ old) (λ a b. max (last_in a b other) (before a b)) (Fork l other u)
    unfolding IsTrie
    higher-changed = record {
      is = (higher-fork, is, changed.is);
      key = over.key;
      version = over.version;
      rows =
          ap (λ (rs : List RowValue). rows_of other ++ rs) changed.rows
          ∙ sym (with_at-second k (2 ^ half) (2 * p) (power_pos half) new (rows_of other) old (omega (arith, second)) (others-agree (2 * p) first));
      last = λ a b.
          ap (λ (n : ℕ). max (last_in a b other) n) (changed.last a b)
          ∙ max-second (lies_in a b k) v (before a b) (last_in a b other) (omega (arith, last-le a b other is, earlier));
    }

-- ---- a tree of one key
-- the tree of the one key k, with the version v
pub record IsTipTrie (k v : ℕ) (t : Trie) : Type 0 where
  -- each label is that of what is below it
  pub is : IsTrie t
  -- its height is 0, so that it has one key
  pub lowest : (label_of t).height ≡ 0
  -- this key is k
  pub key : (label_of t).key ≡ k
  -- its version is v
  pub version : (label_of t).version ≡ v

-- in place of none
pub lone-changed : (k v : ℕ) (t : Trie) → IsTipTrie k v t → IsChanged k v (rows_of t) [] (λ _ _. 0) t
unfolding IsTrie
lone-changed k v (Leaf l rows) tip = record {
  is = tip.is;
  key = tip.key;
  version = tip.version;
  rows = sym (with_at-nil k rows);
  last = λ a b. ap (λ (n : ℕ). cond (lies_in a b n) l.version 0) tip.key ∙ ap (λ (n : ℕ). cond (lies_in a b k) n 0) tip.version;
}
lone-changed k v (Fork l x y) tip = absurd (omega (arith, tip.lowest, tip.is.0.higher))

tip-rows : (k w : ℕ) (new : List RowValue) (t : Trie) → IsTipTrie k w t → new ≡ with_at k new (rows_of t)
unfolding IsTrie
tip-rows k w new (Leaf l rows) tip = sym (with_at-same k (λ (row : RowValue). key_of row ≡ l.key) rows tip.is.keyed (λ row e. e ∙ tip.key) new)
tip-rows k w new (Fork l x y) tip = absurd (omega (arith, tip.lowest, tip.is.0.higher))

-- in a tree of one key, the last version that touched [a, b) is its own where the key lies there, else 0
pub tip-last : (a b k w : ℕ) (t : Trie) → IsTipTrie k w t → last_in a b t ≡ cond (lies_in a b k) w 0
unfolding IsTrie
tip-last a b k w (Leaf l rows) tip = ap (λ (n : ℕ). cond (lies_in a b n) l.version 0) tip.key ∙ ap (λ (n : ℕ). cond (lies_in a b k) n 0) tip.version
tip-last a b k w (Fork l x y) tip = absurd (omega (arith, tip.lowest, tip.is.0.higher))

-- in place of another
pub tip-changed : (k v w : ℕ) (t u : Trie) → IsTipTrie k w t → IsTipTrie k v u → IsChanged k v (rows_of u) (rows_of t) (λ a b. last_in a b t) u
tip-changed k v w t u old tip = record {
  is = tip.is;
  key = tip.key;
  version = tip.version;
  rows = tip-rows k w (rows_of u) t old;
  last = λ a b. tip-last a b k v u tip ∙ twice (lies_in a b k) v w ∙ ap (λ (n : ℕ). cond (lies_in a b k) v n) (sym (tip-last a b k w t old));
}

-- ---- the same change
-- a change among rows, with what had touched them, is one among the same rows, touched by the same versions
pub changed-same : (k v : ℕ) (new xs ys : List RowValue) (f g : ℕ → ℕ → ℕ) (t : Trie) → xs ≡ ys → ((a b : ℕ) → f a b ≡ g a b) → IsChanged k v new xs f t → IsChanged k v new ys g t
changed-same k v new xs ys f g t e same changed = record {
  is = changed.is;
  key = changed.key;
  version = changed.version;
  rows = changed.rows ∙ ap (with_at k new) e;
  last = λ a b. changed.last a b ∙ ap (λ (n : ℕ). cond (lies_in a b k) v n) (same a b);
}
