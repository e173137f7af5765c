-- A tip in place of another, or beside a tree whose keys part from its own.
use Rattle.std.proofs.Common.{◌≡◌, ◌∙◌, ℕ, suc, ◌+◌, ◌*◌, ◌/◌, ◌<◌, ◌≤◌, ◌^◌, List, [], ◌++◌, length, refl, sym, ap, subst, arith, add-one}
use Rattle.std.specs.Prelude.{max}
use Rattle.std.proofs.lemmas.List.{append-nil}
use Rattle.definitions.specs.Rows.{RowValue}
use Rattle.timeline.specs.Tries.{Label, Fork, label_of, rows_of, last_in}
use Rattle.timeline.specs.Stores.{Store, span_at, edit_key, weight_in, label_at, trie, Stands}
use Rattle.timeline.specs.Puts.{IsJoined, IsTip, IsChanged, IsPut, AreFit}
use Rattle.timeline.proofs.Prefixes.{prefix-suc}
use Rattle.timeline.proofs.Growth.{Gains-none}
use Rattle.timeline.proofs.Drawings.{stands-label}
use Rattle.timeline.proofs.Changes.{IsTipTrie, lower-changed, higher-changed, lone-changed, tip-changed, changed-same}
use Rattle.timeline.proofs.Joins.{joined-stands, joined-over, size-of, mass-of, tip-few, tip-trie}
use Rattle.timeline.proofs.Puts.{finish-changed}

no-digits : (n : ℕ) → n / 2 ^ 0 ≡ n
no-digits n = omega arith

-- the tip is of the same key
pub tip-put : (old : Store) (limit i tip edit : ℕ) → Stands old i → (span_at old i).height ≡ 0
    → edit_key old (span_at old i).edit / 2 ^ (span_at old i).height ≡ edit_key old edit / 2 ^ (span_at old i).height → IsTip old edit (rows_of (trie old tip)) tip → IsPut old old limit i tip edit tip
tip-put old limit i tip edit stands lowest same tipped =
    let k = edit_key old edit in
    let l = stands-label old i stands in
    let one : edit_key old (span_at old i).edit ≡ k =
    sym (no-digits (edit_key old (span_at old i).edit)) ∙ subst (λ (h : ℕ). edit_key old (span_at old i).edit / 2 ^ h ≡ k / 2 ^ h) lowest same ∙ no-digits k in
    let there : IsTipTrie k (label_of (trie old i)).version (trie old i) =
    record { is = stands.is; lowest = ap (λ (m : Label). m.height) l ∙ lowest; key = ap (λ (m : Label). m.key) l ∙ one; version = refl } in
    record {
      gains = Gains-none old;
      stands = tipped.stands;
      low = omega (arith, tipped.lowest);
      changed = tip-changed k (suc edit) (label_of (trie old i)).version (trie old i) (trie old tip) there (tip-trie old tip edit (rows_of (trie old tip)) tipped);
    }

other-half : (m p : ℕ) → m / 2 ≡ p → (m ≡ 2 * p → ⊥) → m ≡ 2 * p + 1
other-half m p e h = omega arith

this-half : (m p : ℕ) → m / 2 ≡ p → (m ≡ 2 * p + 1 → ⊥) → m ≡ 2 * p
this-half m p e h = omega arith

-- the keys part at a higher digit
module _ (old new : Store) (limit i tip edit half : ℕ) (stands : Stands old i) (made : edit < length old.keys) (older : (span_at old i).edit < edit) (bound : limit ≤ 63)
    (tipped : IsTip old edit (rows_of (trie old tip)) tip) (above : (span_at old i).height ≤ half) (below : half < limit)
    (apart : edit_key old (span_at old i).edit / 2 ^ half ≡ edit_key old edit / 2 ^ half → ⊥)
    (together : edit_key old (span_at old i).edit / 2 ^ (half + 1) ≡ edit_key old edit / 2 ^ (half + 1)) where
  abbrev k : ℕ
  k = edit_key old edit

  abbrev o : ℕ
  o = edit_key old (span_at old i).edit

  abbrev p : ℕ
  p = k / 2 ^ suc half

  abbrev rows : List RowValue
  rows = rows_of (trie old tip)

  half-low : half ≤ 62
  half-low = omega (arith, below, bound)

  lone : IsChanged k (suc edit) rows [] (λ _ _. 0) (trie old tip)
  lone = lone-changed k (suc edit) (trie old tip) (tip-trie old tip edit rows tipped)

  tip-low : (label_of (trie old tip)).height ≤ half
  tip-low = omega (arith, ap (λ (m : Label). m.height) (stands-label old tip tipped.stands), tipped.lowest)

  other-low : (label_of (trie old i)).height ≤ half
  other-low = omega (arith, ap (λ (m : Label). m.height) (stands-label old i stands), above)

  earlier : (label_of (trie old i)).version ≤ suc edit
  earlier = omega (arith, ap (λ (m : Label). m.version) (stands-label old i stands), older)

  up : (n : ℕ) → 2 * (k / 2 ^ (half + 1)) + n ≡ 2 * p + n
  up n = ap (λ (h : ℕ). 2 * (k / 2 ^ h) + n) (add-one half)

  halved : o / 2 ^ half / 2 ≡ p
  halved = sym (prefix-suc o half) ∙ sym (ap (λ (h : ℕ). o / 2 ^ h) (add-one half)) ∙ together ∙ ap (λ (h : ℕ). k / 2 ^ h) (add-one half)

  other-key : (q : ℕ) → o / 2 ^ half ≡ q → (label_of (trie old i)).key / 2 ^ half ≡ q
  other-key q e = ap (λ (m : Label). m.key / 2 ^ half) (stands-label old i stands) ∙ e

  -- if the tip's key has 0 where the keys part, a tree node over the tip and then the other one has the tip put in
  pub lower-graft : (j : ℕ) → IsJoined old new half tip i edit j → k / 2 ^ half ≡ 2 * (k / 2 ^ (half + 1)) → IsPut old new limit i tip edit j
  lower-graft j joined first-s =
      let first : k / 2 ^ half ≡ 2 * p = first-s ∙ ap (λ (h : ℕ). 2 * (k / 2 ^ h)) (add-one half) in
      let second : o / 2 ^ half ≡ 2 * p + 1 = other-half (o / 2 ^ half) p halved (λ e. apart (e ∙ sym first)) in
      let changed = lower-changed k (suc edit) half rows [] (λ _ _. 0) (label_at new j) (trie old tip) (trie old i) lone stands.is tip-low other-low earlier first (other-key (2 * p + 1) second)
      (joined-over old new half tip i edit j joined tipped.stands stands made half-low) in
      let here : IsChanged k (suc edit) rows (rows_of (trie old i)) (λ a b. last_in a b (trie old i)) (Fork (label_at new j) (trie old tip) (trie old i)) =
      changed-same k (suc edit) rows (rows_of (trie old i)) (rows_of (trie old i)) (λ a b. max 0 (last_in a b (trie old i))) (λ a b. last_in a b (trie old i)) (Fork (label_at new j) (trie old tip) (trie old i)) refl
      (λ a b. omega arith) changed in
      record {
        gains = joined.gains;
        stands = joined-stands old new half tip i edit j joined tipped.stands stands made half-low here.is;
        low = omega (arith, joined.parts.height, below);
        changed = finish-changed old new half tip i edit j k (suc edit) rows (rows_of (trie old i)) (λ a b. last_in a b (trie old i)) joined tipped.stands stands made half-low here;
      }

  -- if it has 1 there, a tree node over the other one and then the tip has the tip put in
  pub higher-graft : (j : ℕ) → IsJoined old new half i tip edit j → k / 2 ^ half ≡ 2 * (k / 2 ^ (half + 1)) + 1 → IsPut old new limit i tip edit j
  higher-graft j joined second-s =
      let second : k / 2 ^ half ≡ 2 * p + 1 = second-s ∙ up 1 in
      let first : o / 2 ^ half ≡ 2 * p = this-half (o / 2 ^ half) p halved (λ e. apart (e ∙ sym second)) in
      let changed = higher-changed k (suc edit) half rows [] (λ _ _. 0) (label_at new j) (trie old tip) (trie old i) lone stands.is tip-low other-low earlier (other-key (2 * p) first) second
      (joined-over old new half i tip edit j joined stands tipped.stands made half-low) in
      let here : IsChanged k (suc edit) rows (rows_of (trie old i)) (λ a b. last_in a b (trie old i)) (Fork (label_at new j) (trie old i) (trie old tip)) =
      changed-same k (suc edit) rows (rows_of (trie old i) ++ []) (rows_of (trie old i)) (λ a b. max (last_in a b (trie old i)) 0) (λ a b. last_in a b (trie old i)) (Fork (label_at new j) (trie old i) (trie old tip))
      (append-nil (rows_of (trie old i))) (λ a b. omega arith) changed in
      record {
        gains = joined.gains;
        stands = joined-stands old new half i tip edit j joined stands tipped.stands made half-low here.is;
        low = omega (arith, joined.parts.height, below);
        changed = finish-changed old new half i tip edit j k (suc edit) rows (rows_of (trie old i)) (λ a b. last_in a b (trie old i)) joined stands tipped.stands made half-low here;
      }

  module _ (room : length (rows_of (trie old i)) < 2 ^ 31) (fit : AreFit old) where
    graft-sizes : (span_at old tip).count + (span_at old i).count ≤ length (rows_of (trie old i)) + 1
    graft-sizes = omega (arith, size-of old tip tipped.stands, size-of old i stands, tip-few old tip edit rows tipped)

    -- the two have fewer than 2 ^ 32 rows together
    pub graft-count : (span_at old tip).count + (span_at old i).count < 2 ^ 32
    graft-count = omega (arith, graft-sizes, room)

    -- the two weigh less than 2 ^ 96 together
    pub graft-weight : weight_in (span_at old tip) + weight_in (span_at old i) < 2 ^ 96
    graft-weight = omega (arith, mass-of old tip fit tipped.stands, mass-of old i fit stands, graft-sizes, room)
