-- Where the rows with some keys are in a tree.
use Rattle.std.proofs.Common.{◌≡◌, ◌∙◌, ℕ, suc, ◌+◌, ◌-◌, ◌*◌, ◌/◌, ◌<◌, ◌≤◌, ◌^◌, ◌⊎◌, inl, inr, List, ◌++◌, length, Some, None, refl, sym, ap, subst, arith, length-append, pow-add}
use Rattle.std.specs.Prelude.{Option, max}
use Rattle.std.proofs.Math.Nat.{mul_assoc}
use Rattle.std.proofs.lemmas.Nat.{mul-le}
use Rattle.std.proofs.lemmas.Bool.{cases_lt}
use Rattle.std.proofs.lemmas.List.{append-nil}
use Rattle.definitions.specs.Rows.{RowValue}
use Rattle.timeline.specs.declared.span.Span.{Span}
use Rattle.timeline.specs.Keys.{keyed_in}
use Rattle.timeline.specs.Tries.{Label, Trie, Fork, label_of, rows_of, last_in, IsForkOf, IsTrie}
use Rattle.timeline.specs.Stores.{Store, span_at, edit_key, label_at, trie, Stands}
use Rattle.timeline.specs.Views.{lowest}
use Rattle.timeline.specs.Places.{IsWithin, IsPlace, IsBare, IsPlaced, IsPlacedUnder}
use Rattle.timeline.proofs.Prefixes.{prefix-add, prefix-from, prefix-before, power_pos}
use Rattle.timeline.proofs.Drawings.{HasHalves, stands-label}
use Rattle.timeline.proofs.Views.{none-outside, outside-totals, left-here, right-here, left-lower, right-lower, rows-are, keyed-are, fork-is}

-- ---- keys that agree but for the last digits
wider : (m p w u : ℕ) → 0 < w → p ≡ m / w → p * (w * u) ≤ m * u
wider m p w u some e =
    let below : p * w ≤ m = omega (arith, ap (λ (n : ℕ). n * w) e, prefix-from m w some) in
    omega (arith, mul-le (p * w) u m u below (omega arith), mul_assoc p w u)

wider-end : (m p w u : ℕ) → 0 < w → p ≡ m / w → m * u + u ≤ p * (w * u) + w * u
wider-end m p w u some e =
    let below : m + 1 ≤ (p + 1) * w = omega (arith, ap (λ (n : ℕ). n * w) e, prefix-before m w some) in
    omega (arith, mul-le (m + 1) u ((p + 1) * w) u below (omega arith), mul_assoc (p + 1) w u)

module _ (k h g : ℕ) (order : h ≤ g) where
  parts : 2 ^ g ≡ 2 ^ (g - h) * 2 ^ h
  parts = let e : g ≡ (g - h) + h = omega arith in ap (λ (n : ℕ). 2 ^ n) e ∙ pow-add 2 (g - h) h

  shorter : k / 2 ^ g ≡ k / 2 ^ h / 2 ^ (g - h)
  shorter = let e : g ≡ h + (g - h) = omega arith in ap (λ (n : ℕ). k / 2 ^ n) e ∙ prefix-add k h (g - h)

  -- the first key of those that agree with k but for more digits is at most that of those that agree but for fewer
  pub lowest-wider : lowest k g ≤ lowest k h
  lowest-wider = omega (arith, ap (λ (n : ℕ). k / 2 ^ g * n) parts, wider (k / 2 ^ h) (k / 2 ^ g) (2 ^ (g - h)) (2 ^ h) (power_pos (g - h)) shorter)

  -- the last one is at least that of those
  pub highest-wider : lowest k h + 2 ^ h ≤ lowest k g + 2 ^ g
  highest-wider =
      omega (arith, ap (λ (n : ℕ). k / 2 ^ g * n + n) parts, wider-end (k / 2 ^ h) (k / 2 ^ g) (2 ^ (g - h)) (2 ^ h) (power_pos (g - h)) shorter)

before : (p q w : ℕ) → p < q → p * w + w ≤ q * w
before p q w h = omega (arith, mul-le (p + 1) w q w (omega arith) (omega arith))

-- keys that agree with n but for the last h digits are outside of those that agree with k but for the last d, if n and k differ in the higher digits
pub apart : (k n h d g a b : ℕ) → h ≤ g → d ≤ g → (n / 2 ^ g ≡ k / 2 ^ g → ⊥) → IsWithin k d a b → (b ≤ lowest n h) ⊎ (lowest n h + 2 ^ h ≤ a)
apart k n h d g a b low order differ within = elim (cases_lt (n / 2 ^ g) (k / 2 ^ g)) [
  | inl less ↦ inr (omega (arith, highest-wider n h g low, before (n / 2 ^ g) (k / 2 ^ g) (2 ^ g) less, lowest-wider k d g order, within.from))
  | inr more ↦ (
      let less : k / 2 ^ g < n / 2 ^ g = omega (arith, more, λ (e : n / 2 ^ g ≡ k / 2 ^ g). differ e) in
      inl (omega (arith, within.to, highest-wider k d g order, before (k / 2 ^ g) (n / 2 ^ g) (2 ^ g) less, lowest-wider n h g low)))
]

-- ---- places
-- a place of the rows with such keys in some rows is one in other rows that have the same ones
pub placed-in : (store : Store) (rows inner : List RowValue) (last latest : ℕ → ℕ → ℕ) (k d : ℕ) (r : Option ℕ)
    → length inner ≤ length rows
    → ((a b : ℕ) → IsWithin k d a b → keyed_in a b rows ≡ keyed_in a b inner)
    → ((a b : ℕ) → IsWithin k d a b → last a b ≡ latest a b)
    → IsPlaced store inner latest k d r → IsPlaced store rows last k d r
placed-in store rows inner last latest k d None few keyed same p = record {
  keyed = λ a b w. keyed a b w ∙ p.keyed a b w;
  latest = λ a b w. same a b w ∙ p.latest a b w;
}
placed-in store rows inner last latest k d (Some j) few keyed same p = record {
  stands = p.stands;
  low = p.low;
  key = p.key;
  few = omega (arith, few, p.few);
  keyed = λ a b w. keyed a b w ∙ p.keyed a b w;
  latest = λ a b w. same a b w ∙ p.latest a b w;
}

module _ (store : Store) (i k d : ℕ) (stands : Stands store i) (low : (span_at store i).height ≤ d) where
  -- a tree node with such keys alone is the place itself
  pub placed-here : edit_key store (span_at store i).edit / 2 ^ d ≡ k / 2 ^ d → IsPlace store (rows_of (trie store i)) (λ (a b : ℕ). last_in a b (trie store i)) k d i
  placed-here same = record {
    stands = stands;
    low = low;
    key = same;
    few = omega arith;
    keyed = λ a b w. refl;
    latest = λ a b w. refl;
  }

  -- under one without such keys there is nothing
  pub placed-nowhere : (edit_key store (span_at store i).edit / 2 ^ d ≡ k / 2 ^ d → ⊥) → IsBare (rows_of (trie store i)) (λ (a b : ℕ). last_in a b (trie store i)) k d
  placed-nowhere differ = record {
    keyed = λ a b w. none-outside store i a b stands (apart k (edit_key store (span_at store i).edit) (span_at store i).height d d a b low (omega arith) differ w);
    latest = λ a b w. sym (outside-totals store i a b stands (apart k (edit_key store (span_at store i).edit) (span_at store i).height d d a b low (omega arith) differ w)).touched;
  }

-- ---- the halves
fork-of : (l : Label) (x y : Trie) → IsTrie (Fork l x y) → IsForkOf l (label_of x) (label_of y)
unfolding IsTrie
fork-of l x y is = is.0

max-first : (m n : ℕ) → n ≡ 0 → max m n ≡ m
max-first m n e = omega arith

max-second : (m n : ℕ) → m ≡ 0 → max m n ≡ n
max-second m n e = omega arith

module _ (store : Store) (i k d half : ℕ) (s : Span) (stands : Stands store i) (has : HasHalves store i) (read : s ≡ span_at store i) (half-is : s.height ≡ suc half) (order : d ≤ half) (r : Option ℕ) where
  here : ℕ
  here = edit_key store (span_at store i).edit

  fork : IsForkOf (label_at store i) (label_of (trie store s.left)) (label_of (trie store s.right))
  fork = fork-of (label_at store i) (trie store s.left) (trie store s.right) (subst IsTrie (fork-is store i 0 0 s has read) stands.is)

  half-same : fork.half ≡ half
  half-same = omega (arith, fork.higher, ap (λ (w : Span). w.height) read, half-is)

  left-low : (span_at store s.left).height ≤ half
  left-low = omega (arith, left-lower store i 0 0 s has read, half-is)

  right-low : (span_at store s.right).height ≤ half
  right-low = omega (arith, right-lower store i 0 0 s has read, half-is)

  left-key : edit_key store (span_at store s.left).edit / 2 ^ half ≡ 2 * (edit_key store (span_at store i).edit / 2 ^ suc half)
  left-key =
      ap (λ (m : Label). m.key / 2 ^ half) (sym (stands-label store s.left (left-here store i 0 0 s has read)))
      ∙ subst (λ (h : ℕ). (label_of (trie store s.left)).key / 2 ^ h ≡ 2 * (edit_key store (span_at store i).edit / 2 ^ suc h)) half-same fork.first_key

  right-key : edit_key store (span_at store s.right).edit / 2 ^ half ≡ 2 * (edit_key store (span_at store i).edit / 2 ^ suc half) + 1
  right-key =
      ap (λ (m : Label). m.key / 2 ^ half) (sym (stands-label store s.right (right-here store i 0 0 s has read)))
      ∙ subst (λ (h : ℕ). (label_of (trie store s.right)).key / 2 ^ h ≡ 2 * (edit_key store (span_at store i).edit / 2 ^ suc h) + 1) half-same fork.second_key

  lengths : length (rows_of (trie store s.left)) + length (rows_of (trie store s.right)) ≡ length (rows_of (trie store i))
  lengths = omega (arith, ap length (rows-are store i 0 0 s has read), length-append (rows_of (trie store s.left)) (rows_of (trie store s.right)))

  module _ (first : k / 2 ^ half ≡ 2 * (k / 2 ^ (half + 1))) where
    right-apart : edit_key store (span_at store s.right).edit / 2 ^ half ≡ k / 2 ^ half → ⊥
    right-apart e = absurd (omega (arith, right-key, first, e))

    right-outside : (a b : ℕ) → IsWithin k d a b → (b ≤ lowest (edit_key store (span_at store s.right).edit) (span_at store s.right).height) ⊎ (lowest (edit_key store (span_at store s.right).edit) (span_at store s.right).height + 2 ^ (span_at store s.right).height ≤ a)
    right-outside a b w = apart k (edit_key store (span_at store s.right).edit) (span_at store s.right).height d half a b right-low order right-apart w

    -- keys with 0 where the halves part are in the left one
    pub placed-left : IsPlacedUnder store s.left k d r → IsPlacedUnder store i k d r
    placed-left p =
        placed-in store (rows_of (trie store i)) (rows_of (trie store s.left)) (λ (a b : ℕ). last_in a b (trie store i)) (λ (a b : ℕ). last_in a b (trie store s.left)) k d r
        (omega (arith, lengths))
        (λ a b w.
        keyed-are store i a b s has read
        ∙ ap (λ (rs : List RowValue). keyed_in a b (rows_of (trie store s.left)) ++ rs) (none-outside store s.right a b (right-here store i a b s has read) (right-outside a b w))
        ∙ append-nil (keyed_in a b (rows_of (trie store s.left))))
        (λ a b w.
        ap (λ (t : Trie). last_in a b t) (fork-is store i a b s has read)
        ∙ max-first (last_in a b (trie store s.left)) (last_in a b (trie store s.right)) (sym (outside-totals store s.right a b (right-here store i a b s has read) (right-outside a b w)).touched))
        p

  module _ (second : k / 2 ^ half ≡ 2 * (k / 2 ^ (half + 1)) + 1) where
    left-apart : edit_key store (span_at store s.left).edit / 2 ^ half ≡ k / 2 ^ half → ⊥
    left-apart e = absurd (omega (arith, left-key, second, e))

    left-outside : (a b : ℕ) → IsWithin k d a b → (b ≤ lowest (edit_key store (span_at store s.left).edit) (span_at store s.left).height) ⊎ (lowest (edit_key store (span_at store s.left).edit) (span_at store s.left).height + 2 ^ (span_at store s.left).height ≤ a)
    left-outside a b w = apart k (edit_key store (span_at store s.left).edit) (span_at store s.left).height d half a b left-low order left-apart w

    -- keys with 1 there are in the right one
    pub placed-right : IsPlacedUnder store s.right k d r → IsPlacedUnder store i k d r
    placed-right p =
        placed-in store (rows_of (trie store i)) (rows_of (trie store s.right)) (λ (a b : ℕ). last_in a b (trie store i)) (λ (a b : ℕ). last_in a b (trie store s.right)) k d r
        (omega (arith, lengths))
        (λ a b w.
        keyed-are store i a b s has read
        ∙ ap (λ (rs : List RowValue). rs ++ keyed_in a b (rows_of (trie store s.right))) (none-outside store s.left a b (left-here store i a b s has read) (left-outside a b w)))
        (λ a b w.
        ap (λ (t : Trie). last_in a b t) (fork-is store i a b s has read)
        ∙ max-second (last_in a b (trie store s.left)) (last_in a b (trie store s.right)) (sym (outside-totals store s.left a b (left-here store i a b s has read) (left-outside a b w)).touched))
        p
