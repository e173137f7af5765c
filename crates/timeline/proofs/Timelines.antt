-- One more version.
use Rattle.std.proofs.Common.{◌≡◌, ◌∙◌, ℕ, zero, suc, ◌+◌, ◌/◌, ◌<◌, ◌≤◌, ◌^◌, inl, inr, List, [], ◌∷◌, ◌++◌, length, get_or, refl, sym, ap, subst, arith, length-append, cond}
use Rattle.std.specs.Prelude.{map}
use Rattle.std.proofs.lemmas.Bool.{cases_lt}
use Rattle.std.proofs.lemmas.List.{map-append, length-map, nil_from_length, get_or_append_left, get_or_at}
use Rattle.definitions.specs.Rows.{RowValue, lies_in}
use Rattle.timeline.specs.declared.span.Span.{Span}
use Rattle.timeline.specs.Keys.{tick_of, with_at}
use Rattle.timeline.specs.Moments.{since}
use Rattle.timeline.specs.Pasts.{current_rows, with_version}
use Rattle.timeline.specs.Tries.{Label, Trie, rows_of, last_in}
use Rattle.timeline.specs.Stores.{Store, no_span, no_row, span_at, edit_key, trie}
use Rattle.timeline.specs.Puts.{Grows, GainsRows, IsTip, IsPut}
use Rattle.timeline.specs.Timelines.{IsRoot, AreRoots, IsTimeline, rows_below, past_in, last_rows, IsNext}
use Rattle.timeline.proofs.Filters.{with_at-nil, with_at-length}
use Rattle.timeline.proofs.Touches.{since-kept, since-none, since-next}
use Rattle.timeline.proofs.Growth.{Keeps-same, Keeps-push, Grows-more, Grows-gained, Gains-none}
use Rattle.timeline.proofs.Drawings.{stands-label, stands-kept, trie-kept, span-kept}
use Rattle.timeline.proofs.Changes.{tip-last}
use Rattle.timeline.proofs.Joins.{tip-few, tip-trie, fit-kept}

-- ---- lists
same-maps : (f g : ℕ → List RowValue) (xs : List ℕ) → ((k : ℕ) → k < length xs → f (get_or xs k 0) ≡ g (get_or xs k 0)) → map f xs ≡ map g xs
same-maps f g [] h = refl
same-maps f g (x ∷ xs) h =
    let first : f x ≡ g x = h 0 (omega arith) in
    let rest : map f xs ≡ map g xs = same-maps f g xs (λ k l. h (suc k) (omega (arith, l))) in
    ap (λ (y : List RowValue). y ∷ map f xs) first ∙ ap (λ (ys : List (List RowValue)). g x ∷ ys) rest

at-map : (f : ℕ → List RowValue) (xs : List ℕ) (k : ℕ) → k < length xs → get_or (map f xs) k [] ≡ f (get_or xs k 0)
at-map f [] k h = absurd (omega arith)
at-map f (x ∷ xs) zero h = refl
at-map f (x ∷ xs) (suc k) h = at-map f xs k (omega (arith, h))

-- the rows of a version from 1 on
pub version-rows : (store : Store) (roots : List ℕ) (edit : ℕ) → edit < length roots → get_or ([] ∷ map (rows_below store) roots) (suc edit) [] ≡ rows_below store (get_or roots edit 0)
version-rows store roots edit h = at-map (rows_below store) roots edit h

-- ---- the roots of a store that grows
module _ (a b : Store) (g : Grows a b) where
  root-kept : (edit i : ℕ) → suc edit ≤ length a.keys → IsRoot a edit i → IsRoot b edit i
  root-kept edit i made r =
      let same : trie b i ≡ trie a i = trie-kept a b g i r.stands in
      record {
        stands = stands-kept a b g i r.stands;
        edit = ap (λ (s : Span). s.edit) (span-kept a b g i r.stands) ∙ r.edit;
        touched = λ x y. ap (last_in x y) same ∙ r.touched x y ∙ sym (since-kept x y a.keys b.keys (suc edit) g.keys made);
        few = omega (arith, ap (λ (t : Trie). length (rows_of t)) same, r.few);
      }

  -- the roots of the versions stay their roots
  pub roots-kept : (roots : List ℕ) → length roots ≤ length a.keys → AreRoots a roots → AreRoots b roots
  roots-kept roots made each = λ edit h. root-kept edit (get_or roots edit 0) (omega (arith, made, h)) (each edit h)

  -- their rows stay the same
  pub rows-kept : (roots : List ℕ) → AreRoots a roots → map (rows_below b) roots ≡ map (rows_below a) roots
  rows-kept roots each = same-maps (rows_below b) (rows_below a) roots (λ edit h. ap rows_of (trie-kept a b g (get_or roots edit 0) (each edit h).stands))

-- ---- the root of the next version
-- the first version
pub first-next : (store : Store) (roots : List ℕ) (tip edit : ℕ) → edit ≡ 0 → edit ≡ length roots → IsTip store edit (rows_below store tip) tip → IsNext store store roots tip edit tip
first-next store roots tip edit number count tipped =
    let none : roots ≡ [] = nil_from_length roots (sym count ∙ number) in
    let nothing : last_rows store roots ≡ [] = ap (λ (rs : List ℕ). last_rows store rs) none in
    record {
      gains = Gains-none store;
      root = record {
        stands = tipped.stands;
        edit = tipped.edit;
        touched = λ a b.
            tip-last a b (edit_key store edit) (suc edit) (trie store tip) (tip-trie store tip edit (rows_below store tip) tipped)
            ∙ ap (λ (n : ℕ). cond (lies_in a b (edit_key store edit)) (suc edit) n) (sym (since-none a b store.keys) ∙ sym (ap (since a b store.keys) number))
            ∙ sym (since-next a b store.keys edit);
        few = omega (arith, tip-few store tip edit (rows_below store tip) tipped);
      };
      rows = sym (with_at-nil (edit_key store edit) (rows_below store tip)) ∙ sym (ap (with_at (edit_key store edit) (rows_below store tip)) nothing);
    }

-- a later version
module _ (old new : Store) (roots : List ℕ) (tip edit last : ℕ) (root j : ℕ) (count : edit ≡ length roots) (last-is : edit ≡ suc last) (root-is : root ≡ get_or roots last 0) (each : AreRoots old roots) where
  -- the last root is that of the last version
  pub last-root : IsRoot old last root
  last-root = subst (λ (i : ℕ). IsRoot old last i) (sym root-is) (each last (omega (arith, count, last-is)))

  -- the last root with the tip put in is the root of the next version
  pub later-next : IsTip old edit (rows_below old tip) tip → IsPut old new 63 root tip edit j → IsNext old new roots tip edit j
  later-next tipped put =
      let before : last_rows old roots ≡ rows_below old root =
      ap (λ (n : ℕ). get_or ([] ∷ map (rows_below old) roots) n []) (sym count ∙ last-is) ∙ version-rows old roots last (omega (arith, count, last-is)) ∙ ap (rows_below old) (sym root-is) in
      let number : (span_at new j).edit ≡ edit = omega (arith, put-version) in
      record {
        gains = put.gains;
        root = record {
          stands = put.stands;
          edit = number;
          touched = λ a b.
              put.changed.last a b
              ∙ ap (λ (n : ℕ). cond (lies_in a b (edit_key old edit)) (suc edit) n) (last-root.touched a b ∙ ap (since a b old.keys) (sym last-is))
              ∙ sym (since-next a b old.keys edit) ∙ ap (λ ks. since a b ks (suc edit)) (sym put.gains.keys);
          few = omega (arith, ap length put.changed.rows, with_at-length (edit_key old edit) (rows_below old tip) (rows_below old root), tip-few old tip edit (rows_below old tip) tipped, last-root.few, last-is);
        };
        rows = put.changed.rows ∙ sym (ap (with_at (edit_key old edit) (rows_below old tip)) before);
      }
    where
      put-version : suc (span_at new j).edit ≡ suc edit
      put-version = sym (ap (λ (m : Label). m.version) (stands-label new j put.stands)) ∙ put.changed.version

-- keys below 2 ^ 63 agree without 63 digits
pub no-prefix : (k : ℕ) → k < 2 ^ 63 → k / 2 ^ 63 ≡ 0
no-prefix k h = omega (arith, h)

-- ---- the next version
module _ (old one two three : Store) (roots : List ℕ) (key edit tip root : ℕ) (list : List RowValue) (is : IsTimeline old roots) (edit-is : edit ≡ length old.keys) (spans : one.spans ≡ old.spans) (rows : one.rows ≡ old.rows)
    (keys : one.keys ≡ old.keys ++ key ∷ []) where
  keyed : Grows old one
  keyed = record {
    spans = Keeps-same no_span old.spans one.spans spans;
    rows = Keeps-same no_row old.rows one.rows rows;
    keys = Keeps-push 0 old.keys one.keys key keys;
  }

  -- the key of the new edit is the one that was added
  pub one-key : edit_key one edit ≡ key
  one-key = ap (λ ks. get_or ks edit 0) keys ∙ get_or_at old.keys key [] 0 edit (sym edit-is)

  module _ (gains : GainsRows one two) where
    -- with more rows and tree nodes, too, the store has grown
    pub two-grown : Grows old two
    two-grown = Grows-more old one two keyed gains.grows

    -- the roots are still those of their versions
    pub two-roots : AreRoots two roots
    two-roots = roots-kept old two two-grown roots (omega (arith, is.versions)) is.each

    two-keys : two.keys ≡ old.keys ++ key ∷ []
    two-keys = gains.keys ∙ keys

    -- the number of the new edit is how many roots there are
    pub count : edit ≡ length roots
    count = omega (arith, edit-is, is.versions)

    module _ (tipped : IsTip two edit list tip) (next : IsNext two three roots tip edit root) where
      three-grown : Grows old three
      three-grown = Grows-more old two three two-grown (Grows-gained two three next.gains)

      three-keys : three.keys ≡ old.keys ++ key ∷ []
      three-keys = next.gains.keys ∙ two-keys

      old-root : (v : ℕ) → v < length roots → get_or (roots ++ root ∷ []) v 0 ≡ get_or roots v 0
      old-root v h = get_or_append_left roots (root ∷ []) 0 v h

      new-root : (v : ℕ) → v ≡ length roots → get_or (roots ++ root ∷ []) v 0 ≡ root
      new-root v h = get_or_at roots root [] 0 v (sym h)

      three-roots : AreRoots three (roots ++ root ∷ [])
      three-roots v h =
          elim (cases_lt v (length roots)) [
            | inl before ↦ subst (λ (i : ℕ). IsRoot three v i) (sym (old-root v before)) (roots-kept old three three-grown roots (omega (arith, is.versions)) is.each v before)
            | inr after ↦ (
                let e : v ≡ length roots = omega (arith, after, h, length-append roots (root ∷ [])) in
                subst (λ (i : ℕ). IsRoot three v i) (sym (new-root v e)) (subst (λ (n : ℕ). IsRoot three n root) (count ∙ sym e) next.root))
          ]

      -- with the new root there is a timeline of one version more, if there is room for it
      pub extended : length old.keys + 1 < 2 ^ 31 → IsTimeline three (roots ++ root ∷ [])
      extended room = record {
        versions = omega (arith, ap length three-keys, length-append old.keys (key ∷ []), length-append roots (root ∷ []), is.versions);
        each = three-roots;
        fit = fit-kept two three next.gains gains.fit;
        bound = omega (arith, ap length three-keys, length-append old.keys (key ∷ []), room);
      }

      now-rows : rows_below three root ≡ with_at key list (current_rows (past_in old roots))
      now-rows =
          let key-is : edit_key two edit ≡ key = ap (λ ks. get_or ks edit 0) gains.keys ∙ one-key in
          let before : last_rows two roots ≡ current_rows (past_in old roots) =
          ap (λ (xs : List (List RowValue)). get_or ([] ∷ xs) (length roots) []) (rows-kept old two two-grown roots is.each)
          ∙ ap (λ (n : ℕ). get_or ([] ∷ map (rows_below old) roots) n []) (is.versions ∙ sym (length-map old.keys tick_of)) in
          next.rows ∙ ap (λ (k : ℕ). with_at k (rows_below two tip) (last_rows two roots)) key-is ∙ ap (λ (rs : List RowValue). with_at key rs (last_rows two roots)) tipped.rows
          ∙ ap (with_at key list) before

      -- this version touches the tick of the key, and has the rows of the last one with new ones at the key
      pub extended-past : past_in three (roots ++ root ∷ []) ≡ with_version (past_in old roots) (tick_of key) (with_at key list (current_rows (past_in old roots)))
      extended-past =
          let ticks : map tick_of three.keys ≡ map tick_of old.keys ++ tick_of key ∷ [] = ap (map tick_of) three-keys ∙ map-append tick_of old.keys (key ∷ []) in
          let lists : map (rows_below three) (roots ++ root ∷ []) ≡ map (rows_below old) roots ++ with_at key list (current_rows (past_in old roots)) ∷ [] =
          map-append (rows_below three) roots (root ∷ [])
          ∙ ap (λ (xs : List (List RowValue)). xs ++ rows_below three root ∷ []) (rows-kept old three three-grown roots is.each)
          ∙ ap (λ (r : List RowValue). map (rows_below old) roots ++ r ∷ []) now-rows in
          ap (λ (ts : List ℕ). record { ticks = ts; rows = [] ∷ map (rows_below three) (roots ++ root ∷ []) }) ticks
          ∙ ap (λ (rs : List (List RowValue)). record { ticks = map tick_of old.keys ++ tick_of key ∷ []; rows = [] ∷ rs }) lists
