-- The entries whose versions ended long ago, where none had before the last edit.
use Rattle.std.proofs.Common.{◌≡◌, ◌∙◌, ℕ, suc, ◌+◌, ◌-◌, ◌<◌, ◌≤◌, ◌^◌, refl, sym, ap, subst, arith, Bool, true, false, not, cond, List, [], ◌∷◌, ◌++◌, length, take, get_or, Option, None, Some, inl, inr}
use Rattle.std.specs.Prelude.{nat_lt, nat_le, nat_eq, ◌&&◌, filter, All, SomeIff, IfSome}
use Rattle.std.proofs.lemmas.Bool.{cases_lt, cases_Bool, both_ways, le-leb, le-ltb, lt-ltb, ltb-false, ne_eqb, eq-eqb, eqb-true, and_from, and_parts}
use Rattle.std.proofs.lemmas.Bool.Decides.{nat_tests}
use Rattle.std.proofs.lemmas.List.{length-append, take_more, take_all}
use Rattle.std.proofs.lemmas.List.Elements.{All-head, All-tail, All-get_or, All-weaker, filter_agree}
use Rattle.definitions.specs.Words.{Extent}
use Rattle.definitions.specs.Rows.{lies_in}
use Rattle.dyadic.specs.Nodes.{NodeValue, low_of, high_of, left_of, right_of}
use Rattle.dyadic.proofs.Spans.{meet-same, halves-share, low-lt-high}
use Rattle.node_cache.specs.Entries.{Entry, is_of, without_pair}
use Rattle.versions.specs.declared.log.Accepted.{Accepted}
use Rattle.versions.specs.Versions.{LogValue, IsLog, IsEdit, touched, since}
use Rattle.versions.proofs.TouchLaws.{touched-next}
use Rattle.book.specs.Play.{is_past}
use Rattle.book.specs.Books.{Keeps, AreKept}
use Rattle.book.specs.Expiry.{is_ended, IsTouchedHalf}
use Rattle.book.proofs.SinceLaws.{no_edit, since-touches, since-passes, since-le, since-touched, since-reaches, since-append}

-- ---- filters
module _ {X : Type 0} (p q : X → Bool) where
  filter-both : (xs : List X) → filter p (filter q xs) ≡ filter (λ x. q x && p x) xs
  filter-both [] = refl
  filter-both (x ∷ xs) =
      elim (q x) as (λ t. filter p (cond t (x ∷ filter q xs) (filter q xs)) ≡ cond (t && p x) (x ∷ filter (λ y. q y && p y) xs) (filter (λ y. q y && p y) xs)) [
        | true ↦ ap (λ ys. cond (p x) (x ∷ ys) ys) (filter-both xs)
        | false ↦ filter-both xs
      ]

  -- tests that agree on the elements of a list
  filter-among : (xs : List X) → All (λ x. p x ≡ q x) xs → filter p xs ≡ filter q xs
  filter-among [] agree = refl
  filter-among (x ∷ xs) agree =
      ap (λ t. cond t (x ∷ filter p xs) (filter p xs)) (All-head (λ y. p y ≡ q y) x xs agree)
      ∙ ap (λ ys. cond (q x) (x ∷ ys) ys) (filter-among xs (All-tail (λ y. p y ≡ q y) x xs agree))

-- ---- the tick of an edit
abbrev tick_at : List Accepted → ℕ → ℕ
tick_at edits t = (get_or edits (t - 1) no_edit).tick

touched-tick : (a b : ℕ) (edits : List Accepted) (t : ℕ) → 1 ≤ t → t ≤ length edits → touched a b edits t ≡ lies_in a b (tick_at edits t)
touched-tick a b edits t some within =
    subst (λ n. touched a b edits n ≡ lies_in a b (tick_at edits t)) (omega arith) (touched-next a b edits (t - 1) no_edit (omega arith))

holds-tick : (a b : ℕ) (edits : List Accepted) (t : ℕ) → 1 ≤ t → t ≤ length edits → touched a b edits t ≡ true → (a ≤ tick_at edits t) × (tick_at edits t < b)
holds-tick a b edits t some within touches =
    let lies : lies_in a b (tick_at edits t) ≡ true = sym (touched-tick a b edits t some within) ∙ touches in
    grind (arith, nat_tests)

lies-below : (b tick : ℕ) → tick < b → lies_in 0 b tick ≡ true
lies-below b tick below = grind (arith, nat_tests)

-- in the right half, where not in the left one
lies-right : (low middle right high end tick : ℕ) → low ≤ tick → tick < high → middle ≡ right → end ≡ high → lies_in low middle tick ≡ false → lies_in right end tick ≡ true
lies-right low middle right high end tick after before meets ends outside = grind (arith, nat_tests)

-- ---- an edit that ends a version
module _ (a b : ℕ) (before : List Accepted) (last : Accepted) (v : ℕ) (back : v ≤ length before) (latest : since a b before v ≡ v) (recent : nat_lt v (since a b before (length before - 64)) ≡ false) where
  ended-next : (t : ℕ) → t ≡ length before - 64 → t ≤ length before
      → nat_lt v (since a b (before ++ last ∷ []) (suc t)) ≡ (touched a b (before ++ last ∷ []) (suc t) && nat_eq v (since a b (before ++ last ∷ []) t))
  ended-next t at within =
      let edits : List Accepted = before ++ last ∷ [] in
      let m : ℕ = since a b edits t in
      let same : m ≡ since a b before t = since-append a b before (last ∷ []) t within in
      let reached : m ≤ v = omega (arith, ltb-false v (since a b before (length before - 64)) recent, same, ap (since a b before) at) in
      let below : m ≤ t = since-le a b edits t in
      elim (cases_Bool (touched a b edits (suc t))) [
        | inl touches ↦ (
            let test : nat_lt v (suc t) ≡ nat_eq v m = elim (cases_lt v (suc t)) [
              | inl early ↦ (
                  let from : v ≤ m = elim (cases_lt 0 v) [
                    | inl some ↦ (
                        let touched_v : touched a b before v ≡ true = sym (ap (touched a b before) latest) ∙ since-touched a b before v (omega (arith, latest)) in
                        omega (arith, same, since-reaches a b before t v touched_v some (omega arith)))
                    | inr none ↦ omega arith
                  ] in
                  lt-ltb v (suc t) early ∙ sym (eq-eqb v m (omega arith)))
              | inr late ↦ (le-ltb v (suc t) late ∙ sym (ne_eqb v m (λ e. absurd (omega (arith, e)))))
            ] in
            ap (nat_lt v) (since-touches a b edits t touches) ∙ test ∙ sym (ap (λ x. x && nat_eq v m) touches))
        | inr passes ↦ (ap (nat_lt v) (since-passes a b edits t passes) ∙ le-ltb v m reached ∙ sym (ap (λ x. x && nat_eq v m) passes))
      ]

  ended : (touch : ℕ) → touch ≡ length (before ++ last ∷ []) - 64 → 1 ≤ touch
      → nat_lt v (since a b (before ++ last ∷ []) touch) ≡ (touched a b (before ++ last ∷ []) touch && nat_eq v (since a b (before ++ last ∷ []) (touch - 1)))
  ended touch at some =
      let edits : List Accepted = before ++ last ∷ [] in
      let long : length edits ≡ length before + 1 = length-append before (last ∷ []) in
      let is : suc (touch - 1) ≡ touch = omega arith in
      subst (λ n. nat_lt v (since a b edits n) ≡ (touched a b edits n && nat_eq v (since a b edits (touch - 1)))) is
      (ended-next (touch - 1) (omega (arith, long)) (omega (arith, long)))

-- a node that the edit touches: of the entries of its height those that the edit ended are of one pair
is_of-ended : (edits : List Accepted) (t : ℕ) (node : NodeValue) (s : ℕ) (e : Entry) → 1 ≤ t → t ≤ length edits → touched (low_of node) (high_of node) edits t ≡ true
    → s ≡ since (low_of node) (high_of node) edits (t - 1) → is_of node s e ≡ (nat_eq e.node.height node.height && is_ended edits t e)
is_of-ended edits t node s e some within touches from =
    let hit : NodeValue → Bool = λ n. touched (low_of n) (high_of n) edits t in
    let last : NodeValue → ℕ = λ n. since (low_of n) (high_of n) edits (t - 1) in
    let ends : Bool = nat_eq e.node.height node.height && is_ended edits t e in
    elim (cases_Bool (is_of node s e)) [
      | inl here ↦ (
          let same : (node ≡ e.node) × (s ≡ e.since) = grind (arith, nat_tests) in
          let at_node : (hit node && nat_eq e.since (last node)) ≡ true =
          and_from (hit node) (nat_eq e.since (last node)) touches (eq-eqb e.since (last node) (sym same.1 ∙ from)) in
          here ∙ sym (subst (λ (n : NodeValue). (nat_eq n.height node.height && (hit n && nat_eq e.since (last n))) ≡ true) same.0
          (and_from (nat_eq node.height node.height) (hit node && nat_eq e.since (last node)) (eq-eqb node.height node.height refl) at_node)))
      | inr other ↦ elim (cases_Bool ends) [
        | inl does ↦ (
            let parts = and_parts (nat_eq e.node.height node.height) (is_ended edits t e) does in
            let tests = and_parts (hit e.node) (nat_eq e.since (last e.node)) parts.1 in
            let there = holds-tick (low_of node) (high_of node) edits t some within touches in
            let here = holds-tick (low_of e.node) (high_of e.node) edits t some within tests.0 in
            let same : e.node ≡ node = meet-same e.node node (tick_at edits t) (eqb-true e.node.height node.height parts.0) here.0 here.1 there.0 there.1 in
            let since_is : s ≡ e.since = from ∙ ap last (sym same) ∙ sym (eqb-true e.since (last e.node) tests.1) in
            let index : nat_eq node.index e.node.index ≡ true = eq-eqb node.index e.node.index (ap (λ (n : NodeValue). n.index) (sym same)) in
            let height : nat_eq node.height e.node.height ≡ true = eq-eqb node.height e.node.height (ap (λ (n : NodeValue). n.height) (sym same)) in
            let node_is : (nat_eq node.index e.node.index && nat_eq node.height e.node.height) ≡ true =
            and_from (nat_eq node.index e.node.index) (nat_eq node.height e.node.height) index height in
            absurd (both_ways (is_of node s e) other
            (and_from (nat_eq node.index e.node.index && nat_eq node.height e.node.height) (nat_eq s e.since) node_is (eq-eqb s e.since since_is))))
        | inr neither ↦ (other ∙ sym neither)
      ]
    ]

-- ---- the walk
-- below a height, and at it
heights-below : (height half node : ℕ) (x : Bool) → half + 1 ≡ node → (not (nat_eq height node && x) && not (nat_le height half && x)) ≡ not (nat_le height node && x)
heights-below height half node x shorter = grind (arith, nat_tests)

heights-zero : (height node : ℕ) (x : Bool) → node ≡ 0 → not (nat_eq height node && x) ≡ not (nat_le height node && x)
heights-zero height node x zero_is = grind (arith, nat_tests)

-- the entries that the edit ended, of nodes no longer than this
abbrev pub without_ended : List Accepted → ℕ → ℕ → List Entry → List Entry
without_ended edits t height entries = filter (λ e. not (nat_le e.node.height height && is_ended edits t e)) entries

module _ (edits : List Accepted) (t : ℕ) (node : NodeValue) (s : ℕ) (some : 1 ≤ t) (within : t ≤ length edits) (touches : touched (low_of node) (high_of node) edits t ≡ true)
    (from : s ≡ since (low_of node) (high_of node) edits (t - 1)) (entries : List Entry) where
  -- the node's own pair goes, and then the ended entries of less height: so all ended ones up to its height are gone
  pub without-half : (half : ℕ) → half + 1 ≡ node.height → without_ended edits t half (without_pair node s entries) ≡ without_ended edits t node.height entries
  without-half half shorter =
      filter-both (λ e. not (nat_le e.node.height half && is_ended edits t e)) (λ e. not (is_of node s e)) entries
      ∙ filter_agree (λ e. not (is_of node s e) && not (nat_le e.node.height half && is_ended edits t e)) (λ e. not (nat_le e.node.height node.height && is_ended edits t e))
      (λ e. ap (λ x. not x && not (nat_le e.node.height half && is_ended edits t e)) (is_of-ended edits t node s e some within touches from)
      ∙ heights-below e.node.height half node.height (is_ended edits t e) shorter) entries

  -- at a node of one tick its own pair is the last
  pub without-last : node.height ≡ 0 → without_pair node s entries ≡ without_ended edits t node.height entries
  without-last last =
      filter_agree (λ e. not (is_of node s e)) (λ e. not (nat_le e.node.height node.height && is_ended edits t e))
      (λ e. ap not (is_of-ended edits t node s e some within touches from) ∙ heights-zero e.node.height node.height (is_ended edits t e) last) entries

-- ---- halves
module _ (edits : List Accepted) (t : ℕ) (node half : NodeValue) (long : 0 < node.height) where
  -- the left half, where the edit touches it
  pub left-touched : half ≡ left_of node → touched (low_of half) (high_of half) edits t ≡ true → IsTouchedHalf edits t node half
  left-touched is touches =
      subst (IsTouchedHalf edits t node) (sym is) (
      let share = halves-share node long in
      record {
        shorter = omega arith;
        inside = record { after = omega (arith, share.begins); before = omega (arith, share.meets, share.ends, low-lt-high (right_of node)) };
        touches = subst (λ (n : NodeValue). touched (low_of n) (high_of n) edits t ≡ true) is touches;
      })

  right-touched : half ≡ right_of node → 1 ≤ t → t ≤ length edits → touched (low_of node) (high_of node) edits t ≡ true
      → touched (low_of (left_of node)) (high_of (left_of node)) edits t ≡ false → IsTouchedHalf edits t node half
  right-touched is some within whole left =
      subst (IsTouchedHalf edits t node) (sym is) (
      let share = halves-share node long in
      let tick : ℕ = tick_at edits t in
      let holds = holds-tick (low_of node) (high_of node) edits t some within whole in
      let outside : lies_in (low_of (left_of node)) (high_of (left_of node)) tick ≡ false = sym (touched-tick (low_of (left_of node)) (high_of (left_of node)) edits t some within) ∙ left in
      record {
        shorter = omega arith;
        inside = record { after = omega (arith, share.begins, share.meets, low-lt-high (left_of node)); before = omega (arith, share.ends) };
        touches = touched-tick (low_of (right_of node)) (high_of (right_of node)) edits t some within
            ∙ lies-right (low_of node) (high_of (left_of node)) (low_of (right_of node)) (high_of node) (high_of (right_of node)) tick holds.0 holds.1 share.meets share.ends
            (sym (ap (λ a. lies_in a (high_of (left_of node)) tick) share.begins) ∙ outside);
      })

-- the right half, where the edit touches the node and not its left half
pub right-half : (edits : List Accepted) (t : ℕ) (node left : NodeValue) (right : Option NodeValue) → left ≡ left_of node → SomeIff right (0 < node.height) (right_of node)
    → 1 ≤ t → t ≤ length edits → touched (low_of node) (high_of node) edits t ≡ true → touched (low_of left) (high_of left) edits t ≡ false → IfSome right (IsTouchedHalf edits t node)
right-half edits t node left None left_is right_is some within whole passes = tt
right-half edits t node left (Some half) left_is right_is some within whole passes =
    right-touched edits t node half right_is.0 right_is.1 some within whole (subst (λ (n : NodeValue). touched (low_of n) (high_of n) edits t ≡ false) left_is passes)

-- the whole line
pub line-touched : (log : LogValue) (t : ℕ) → IsLog log → 1 ≤ t → t ≤ length log.edits → touched 0 (2 ^ 32) log.edits t ≡ true
line-touched log t is some within =
    let tick : ℕ = tick_at log.edits t in
    let below : tick < 2 ^ 32 = (All-get_or (λ e. IsEdit log.extent e.edit × (e.tick < 2 ^ 32)) log.edits (t - 1) no_edit (omega arith) is.within).1 in
    touched-tick 0 (2 ^ 32) log.edits t some within ∙ lies-below (2 ^ 32) tick below

-- ---- all entries
-- none ended long ago while there were few edits
pub few-past : (edits : List Accepted) (entries : List Entry) → length edits ≤ 64 → filter (λ e. not (is_past edits e.node e.since)) entries ≡ entries
few-past edits [] few = refl
few-past edits (e ∷ entries) few =
    let last : ℕ = since (low_of e.node) (high_of e.node) edits (length edits - 64) in
    let recent : nat_lt e.since last ≡ false = le-ltb e.since last (omega (arith, since-le (low_of e.node) (high_of e.node) edits (length edits - 64))) in
    ap (λ t. cond (not t) (e ∷ filter (λ f. not (is_past edits f.node f.since)) entries) (filter (λ f. not (is_past edits f.node f.since)) entries)) recent
    ∙ ap (λ es. e ∷ es) (few-past edits entries few)

-- after an edit those ended long ago that the edit 64 before it ended
past-ended : (extent : Extent) (before : List Accepted) (last : Accepted) (e : Entry) → Keeps extent before e → 64 < length (before ++ last ∷ [])
    → not (nat_le e.node.height 32 && is_ended (before ++ last ∷ []) (length (before ++ last ∷ []) - 64) e) ≡ not (is_past (before ++ last ∷ []) e.node e.since)
past-ended extent before last e keeps many =
    let edits : List Accepted = before ++ last ∷ [] in
    let touch : ℕ = length edits - 64 in
    ap (λ x. not (x && is_ended edits touch e)) (le-leb e.node.height 32 keeps.is_node.within_height)
    ∙ sym (ap not (ended (low_of e.node) (high_of e.node) before last e.since keeps.back keeps.latest keeps.recent touch refl (omega arith)))

-- after an edit the entries to drop are those that the edit of 64 versions ago ended, from the whole line down
pub without-past : (log : LogValue) (entries : List Entry) → ((before : List Accepted) → (last : Accepted) → log.edits ≡ before ++ last ∷ [] → AreKept (record { extent = log.extent; edits = before }) entries)
    → 64 < length log.edits → without_ended log.edits (length log.edits - 64) 32 entries ≡ filter (λ e. not (is_past log.edits e.node e.since)) entries
without-past log entries are many =
    let edits : List Accepted = log.edits in
    let before : List Accepted = take (length edits - 1) edits in
    let last : Accepted = get_or edits (length edits - 1) no_edit in
    let split : edits ≡ before ++ last ∷ [] = sym (take_all (length edits - 1 + 1) edits (omega arith)) ∙ take_more edits (length edits - 1) no_edit (omega arith) in
    let kept : AreKept (record { extent = log.extent; edits = before }) entries = are before last split in
    subst (λ (es : List Accepted). without_ended es (length es - 64) 32 entries ≡ filter (λ e. not (is_past es e.node e.since)) entries) (sym split)
    (filter-among (λ e. not (nat_le e.node.height 32 && is_ended (before ++ last ∷ []) (length (before ++ last ∷ []) - 64) e)) (λ e. not (is_past (before ++ last ∷ []) e.node e.since)) entries
    (All-weaker (Keeps log.extent before) (λ e. not (nat_le e.node.height 32 && is_ended (before ++ last ∷ []) (length (before ++ last ∷ []) - 64) e) ≡ not (is_past (before ++ last ∷ []) e.node e.since))
    (λ e keeps. past-ended log.extent before last e keeps (subst (λ (es : List Accepted). 64 < length es) split many)) entries kept))
