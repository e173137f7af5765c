-- The rows of a version in a node, from their place.
use Rattle.std.proofs.Common.{◌≡◌, ◌∙◌, ℕ, suc, ◌+◌, ◌-◌, ◌*◌, ◌/◌, ◌<◌, ◌≤◌, ◌^◌, inl, inr, List, [], length, get_or, None, sym, ap, subst, arith, pow-add}
use Rattle.std.specs.Prelude.{Option}
use Rattle.std.specs.List.{All}
use Rattle.std.proofs.lemmas.Bool.{cases_eq}
use Rattle.std.proofs.lemmas.List.{length-map}
use Rattle.std.proofs.lemmas.List.Elements.{All-nil}
use Rattle.std.proofs.Math.Nat.{mul_assoc, mul-div_cancel}
use Rattle.definitions.specs.Rows.{RowValue, rows_in}
use Rattle.dyadic.specs.Nodes.{NodeValue, low_of, high_of, left_of, right_of, LiesWithin}
use Rattle.dyadic.proofs.Spans.{halves-share, low-lt-high}
use Rattle.timeline.specs.Keys.{key_at, tick_of, keyed_in}
use Rattle.timeline.specs.Moments.{since}
use Rattle.timeline.specs.Pasts.{rows_at}
use Rattle.timeline.specs.Tries.{rows_of, last_in}
use Rattle.timeline.specs.Stores.{Store, span_at, edit_key, trie}
use Rattle.timeline.specs.Puts.{IsFit}
use Rattle.timeline.specs.Views.{lowest}
use Rattle.timeline.specs.Timelines.{IsTimeline, past_in, rows_below}
use Rattle.timeline.specs.Places.{IsWithin, IsPlace, IsBare, IsPlacedUnder, key_in, digits_of, IsView}
use Rattle.timeline.proofs.Prefixes.{power_pos}
use Rattle.timeline.proofs.Touches.{since-ticks, since-none}
use Rattle.timeline.proofs.Joins.{size-of, all-fit}
use Rattle.timeline.proofs.Views.{all-inside, inside-totals}
use Rattle.timeline.proofs.Ticks.{keyed-ticks, none-at, root-is, rows-here}
use Rattle.timeline.proofs.Places.{lowest-wider, highest-wider, placed-in}

-- ---- the keys of a node
module _ (node : NodeValue) where
  abbrev size : ℕ
  size = 2 ^ digits_of node

  size-is : size ≡ 2 ^ node.height * 2 ^ 31
  size-is = pow-add 2 node.height 31

  first-is : key_in node ≡ node.index * size
  first-is = omega (arith, mul_assoc node.index (2 ^ node.height) (2 ^ 31), ap (λ (n : ℕ). node.index * n) size-is)

  -- the first key of a node has 0 as each of its last digits
  pub first-lowest : lowest (key_in node) (digits_of node) ≡ key_in node
  first-lowest =
      ap (λ (n : ℕ). n / size * size) first-is ∙ ap (λ (n : ℕ). n * size) (mul-div_cancel node.index (power_pos (digits_of node))) ∙ sym first-is

  -- after its last key comes the first one of the tick at which it ends
  pub last-next : key_in node + size ≡ key_at (high_of node) 0
  last-next = omega (arith, first-is, mul_assoc (node.index + 1) (2 ^ node.height) (2 ^ 31), ap (λ (n : ℕ). (node.index + 1) * n) size-is)

  -- its keys agree with its first one but for the last digits
  pub whole-within : IsWithin (key_in node) (digits_of node) (key_in node) (key_at (high_of node) 0)
  whole-within = record { from = omega (arith, first-lowest); to = omega (arith, first-lowest, last-next) }

-- the keys of a node are among those of one that it lies within
pub inner-within : (node inner : NodeValue) (a b : ℕ) → LiesWithin (low_of node) (high_of node) inner → IsWithin (key_in inner) (digits_of inner) a b → IsWithin (key_in node) (digits_of node) a b
inner-within node inner a b lies w = record {
  from = omega (arith, first-lowest node, first-lowest inner, w.from, lies.after);
  to = omega (arith, first-lowest node, first-lowest inner, last-next node, last-next inner, w.to, lies.before);
}

-- ---- what a place tells
module _ (store : Store) (roots : List ℕ) (v : ℕ) (node : NodeValue) (at : Option ℕ) (is : IsView store roots v node at) where
  abbrev rows : List RowValue
  rows = rows_at (past_in store roots) v

  abbrev a : ℕ
  a = key_in node

  abbrev b : ℕ
  b = key_at (high_of node) 0

  within : v ≤ length (past_in store roots).ticks
  within = omega (arith, is.within, length-map store.keys tick_of)

  fit : All IsFit rows
  fit = elim (cases_eq v 0) [
    | inl none ↦ subst (λ (rs : List RowValue). All IsFit rs) (sym (none-at store roots is.line 0 0 v none)) (All-nil IsFit)
    | inr some ↦ subst (λ (rs : List RowValue). All IsFit rs) (sym (rows-here store roots is.line 0 0 v some within))
        (all-fit store (get_or roots (v - 1) 0) is.line.fit (root-is store roots is.line 0 0 v some within).stands)
  ]

  -- the rows with the keys of a node are those with its ticks
  pub node-rows : keyed_in a b rows ≡ rows_in (low_of node) (high_of node) rows
  node-rows = keyed-ticks (low_of node) (high_of node) rows fit

  -- the last version that touched one of its keys is the last one that touched one of its ticks
  pub node-since : since a b store.keys v ≡ since (low_of node) (high_of node) (past_in store roots).ticks v
  node-since = since-ticks (low_of node) (high_of node) store.keys v is.within

  module _ (bare : IsBare rows (λ (m n : ℕ). since m n store.keys v) (key_in node) (digits_of node)) where
    -- a node without a place has no rows
    pub bare-rows : [] ≡ rows_in (low_of node) (high_of node) rows
    bare-rows = sym (bare.keyed a b (whole-within node)) ∙ node-rows

    -- no version has touched it
    pub bare-since : 0 ≡ since (low_of node) (high_of node) (past_in store roots).ticks v
    bare-since = sym (bare.latest a b (whole-within node)) ∙ node-since

  module _ (i : ℕ) (place : IsPlace store rows (λ (m n : ℕ). since m n store.keys v) (key_in node) (digits_of node) i) where
    abbrev key : ℕ
    key = edit_key store (span_at store i).edit

    agree : lowest key (digits_of node) ≡ key_in node
    agree = ap (λ (n : ℕ). n * 2 ^ digits_of node) place.key ∙ first-lowest node

    from : a ≤ lowest key (span_at store i).height
    from = omega (arith, agree, lowest-wider key (span_at store i).height (digits_of node) place.low)

    to : lowest key (span_at store i).height + 2 ^ (span_at store i).height ≤ b
    to = omega (arith, agree, last-next node, highest-wider key (span_at store i).height (digits_of node) place.low)

    -- the rows of a node are those under its place
    pub place-rows : rows_of (trie store i) ≡ rows_in (low_of node) (high_of node) rows
    place-rows = sym (all-inside store i a b place.stands from to) ∙ sym (place.keyed a b (whole-within node)) ∙ node-rows

    -- they are as many as the place counts
    pub place-count : (span_at store i).count ≡ length (rows_in (low_of node) (high_of node) rows)
    place-count = size-of store i place.stands ∙ ap length place-rows

    -- the last version that touched the node is the one that made the place
    pub place-since : suc (span_at store i).edit ≡ since (low_of node) (high_of node) (past_in store roots).ticks v
    place-since = (inside-totals store i a b place.stands from to).touched ∙ sym (place.latest a b (whole-within node)) ∙ node-since

    -- they are fewer than 2 ^ 32
    pub place-few : length (rows_of (trie store i)) < 2 ^ 32
    place-few = elim (cases_eq v 0) [
      | inl none ↦ omega (arith, place.few, ap length (none-at store roots is.line 0 0 v none))
      | inr some ↦ omega (arith, place.few, ap length (rows-here store roots is.line 0 0 v some within), (root-is store roots is.line 0 0 v some within).few, is.within, is.line.bound)
    ]

    -- the place of a node within it is under its place
    pub place-within : (inner : NodeValue) (r : Option ℕ) → LiesWithin (low_of node) (high_of node) inner → IsPlacedUnder store i (key_in inner) (digits_of inner) r → IsView store roots v inner r
    place-within inner r lies p = record {
      line = is.line;
      within = is.within;
      placed =
          placed-in store rows (rows_of (trie store i)) (λ (m n : ℕ). since m n store.keys v) (λ (m n : ℕ). last_in m n (trie store i)) (key_in inner) (digits_of inner) r
          place.few
          (λ m n w. place.keyed m n (inner-within node inner m n lies w))
          (λ m n w. place.latest m n (inner-within node inner m n lies w))
          p;
    }

-- a node within one without a place has none
pub bare-within : (store : Store) (roots : List ℕ) (v : ℕ) (node inner : NodeValue) → LiesWithin (low_of node) (high_of node) inner → IsView store roots v node None → IsView store roots v inner None
bare-within store roots v node inner lies is = record {
  line = is.line;
  within = is.within;
  placed = record {
    keyed = λ m n w. is.placed.keyed m n (inner-within node inner m n lies w);
    latest = λ m n w. is.placed.latest m n (inner-within node inner m n lies w);
  };
}

-- ---- the place of a node at a version
module _ (store : Store) (roots : List ℕ) (line : IsTimeline store roots) (v : ℕ) (node : NodeValue) (made : v ≤ length store.keys) where
  -- version 0 has none
  pub none-placed : v ≡ 0 → IsView store roots v node None
  none-placed none = record {
    line = line;
    within = made;
    placed = record {
      keyed = λ m n w. ap (keyed_in m n) (none-at store roots line 0 0 v none);
      latest = λ m n w. ap (since m n store.keys) none ∙ since-none m n store.keys;
    };
  }

  module _ (some : v ≡ 0 → ⊥) where
    within-ticks : v ≤ length (past_in store roots).ticks
    within-ticks = omega (arith, made, length-map store.keys tick_of)

    next : suc (v - 1) ≡ v
    next = omega (arith, some)

    -- at a later version it is under the root
    pub root-placed : (r : Option ℕ) → IsPlacedUnder store (get_or roots (v - 1) 0) (key_in node) (digits_of node) r → IsView store roots v node r
    root-placed r p =
        let root = get_or roots (v - 1) 0 in
        let rows : rows_at (past_in store roots) v ≡ rows_below store root = rows-here store roots line 0 0 v some within-ticks in
        record {
          line = line;
          within = made;
          placed =
              placed-in store (rows_at (past_in store roots) v) (rows_below store root) (λ (m n : ℕ). since m n store.keys v) (λ (m n : ℕ). last_in m n (trie store root)) (key_in node) (digits_of node) r
              (omega (arith, ap length rows))
              (λ m n w. ap (keyed_in m n) rows)
              (λ m n w. sym (ap (since m n store.keys) next) ∙ sym ((root-is store roots line 0 0 v some within-ticks).touched m n))
              p;
        }

-- ---- the halves of a node
-- the left half lies within the node
pub left-inside : (node : NodeValue) → 0 < node.height → LiesWithin (low_of node) (high_of node) (left_of node)
left-inside node some =
    let share = halves-share node some in
    record { after = omega (arith, share.begins); before = omega (arith, share.meets, share.ends, low-lt-high (right_of node)) }

-- so does the right one
pub right-inside : (node : NodeValue) → 0 < node.height → LiesWithin (low_of node) (high_of node) (right_of node)
right-inside node some =
    let share = halves-share node some in
    record { after = omega (arith, share.begins, share.meets, low-lt-high (left_of node)); before = omega (arith, share.ends) }
