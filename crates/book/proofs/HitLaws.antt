-- The hits of a look go to the front of the kept pairs, and stay kept.
use Rattle.std.proofs.Common.{◌≡◌, ◌∙◌, ℕ, zero, suc, ◌+◌, ◌*◌, refl, sym, ap, subst, arith, Bool, true, false, cond, not, ◌||◌, ◌<◌, List, [], ◌∷◌, ◌++◌, length, get_or, take, map, append_assoc, append-nil, Option, Some, None, inl, inr, Box, Global}
use Rattle.std.specs.Prelude.{All, filter, nat_le}
use Rattle.std.specs.Option.{option_map_or}
use Rattle.std.proofs.lemmas.Bool.{cases_Bool}
use Rattle.std.proofs.lemmas.Bool.Decides.{nat_tests}
use Rattle.std.proofs.lemmas.List.{take_more}
use Rattle.std.proofs.lemmas.List.Elements.{All-nil, All-cons, All-head, All-tail, All-append, All-filter, All-weaker}
use Rattle.std.proofs.lemmas.List.Sums.{fold-append}
use Rattle.std.proofs.lemmas.Map.Views.{any-filter_same}
use Rattle.std.specs.declared.sync.Arc.{Arc}
use Rattle.definitions.specs.Words.{Extent}
use Rattle.definitions.specs.Rows.{RowValue}
use Rattle.dyadic.specs.Nodes.{NodeValue, low_of, high_of}
use Rattle.tensor_product.specs.Sigs.{SigValue}
use Rattle.solve.specs.declared.plan.Plan.{Plan, Hit as HitPlan, Unit as UnitPlan, Leaf as LeafPlan}
use Rattle.solve.specs.declared.plan.Plan.TheViews as views
use Rattle.node_cache.specs.Entries.{Entry, is_of, entry_of, without_pair, promoted}
use Rattle.versions.specs.declared.log.Accepted.{Accepted}
use Rattle.versions.specs.Versions.{since}
use Rattle.book.specs.Walks.{Pair, is_pair, is_kept, pair_at, Visit, Hit, Unit, Leaf, Split, hits_of, all_hits, visited, visit_of, walk, pieces_of, count_at, absent}
use Rattle.book.specs.Play.{to_front, with_hits}
use Rattle.book.specs.Books.{pair_of, held}
use Rattle.book.specs.Hits.{AllHeld}
use Rattle.book.specs.Plans.{IsPlanOf, ArePlansOf}

-- ---- one pair to the front
pair-same : (p q : Pair) → is_pair p q ≡ true → p ≡ q
pair-same p q h = grind (arith, nat_tests)

-- a pair stays kept while a pair goes to the front
kept-stays : (p q : Pair) (pairs : List Pair) → is_kept q pairs ≡ true → is_kept q (to_front p pairs) ≡ true
kept-stays p q pairs there =
    elim (cases_Bool (is_pair q p)) [
      | inl same ↦ ap (λ b. b || is_kept q (filter (λ other. not (is_pair p other)) pairs)) same
      | inr other ↦
          ap (λ b. b || is_kept q (filter (λ other. not (is_pair p other)) pairs)) other
          ∙ any-filter_same (is_pair q) (λ other. not (is_pair p other)) true (λ k h. apart k (pair-same q k h) other) pairs
          ∙ there
    ]
  where
    apart : (k : Pair) → q ≡ k → is_pair q p ≡ false → not (is_pair p k) ≡ true
    apart k same other = grind (arith, nat_tests)

-- the pair of a node and a version
abbrev pair : NodeValue → ℕ → Pair
pair node since = record { node = node; since = since }

held-without : (node : NodeValue) (since : ℕ) (es : List Entry) → held (without_pair node since es) ≡ filter (λ other. not (is_pair (pair node since) other)) (held es)
held-without node since [] = refl
held-without node since (e ∷ es) =
    out (not (is_of node since e)) e (without_pair node since es)
    ∙ ap (λ ps. cond (not (is_of node since e)) (pair_of e ∷ ps) ps) (held-without node since es)
  where
    out : (t : Bool) (e : Entry) (es : List Entry) → held (cond t (e ∷ es) es) ≡ cond t (pair_of e ∷ held es) (held es)
    out true e es = refl
    out false e es = refl

-- the entry of a kept pair is found
found : (node : NodeValue) (since : ℕ) (es : List Entry) → is_kept (pair node since) (held es) ≡ true → (e : Entry) × (entry_of node since es ≡ Some e) × (pair_of e ≡ pair node since)
found node since [] there = absurd (cc)
found node since (e ∷ es) there =
    elim (cases_Bool (is_of node since e)) [
      | inl here ↦ (e, ap (λ b. cond b (Some e) (entry_of node since es)) here, sym (pair-same (pair node since) (pair_of e) here))
      | inr other ↦
          let rest = found node since es (sym (ap (λ b. b || is_kept (pair node since) (held es)) other) ∙ there) in
          (rest.0, ap (λ b. cond b (Some e) (entry_of node since es)) other ∙ rest.1, rest.2)
    ]

-- an entry that goes to the front takes its pair there
pub held-promoted : (node : NodeValue) (since : ℕ) (es : List Entry) → is_kept (pair node since) (held es) ≡ true → held (promoted node since es) ≡ to_front (pair node since) (held es)
held-promoted node since es there =
    let at = found node since es there in
    ap (λ o. held (option_map_or (λ e. e ∷ without_pair node since es) o es)) at.1
    ∙ ap (λ p. p ∷ held (without_pair node since es)) at.2
    ∙ ap (λ ps. pair node since ∷ ps) (held-without node since es)

-- what holds of each entry holds of each after one went to the front
module _ (P : Entry → Type 0) where
  all-found : (node : NodeValue) (since : ℕ) (es : List Entry) (e : Entry) → All P es → entry_of node since es ≡ Some e → P e
  all-found node since [] e all at = absurd (cc)
  all-found node since (f ∷ es) e all at =
      elim (cases_Bool (is_of node since f)) [
        | inl here ↦ (
            let same : f ≡ e = (let k : Some f ≡ Some e = sym (ap (λ b. cond b (Some f) (entry_of node since es)) here) ∙ at in cc) in
            subst P same (All-head P f es all))
        | inr other ↦ all-found node since es e (All-tail P f es all) (sym (ap (λ b. cond b (Some f) (entry_of node since es)) other) ∙ at)
      ]

  -- whether or not the entry is there
  by_entry : (node : NodeValue) (since : ℕ) (es : List Entry) (o : Option Entry) → entry_of node since es ≡ o → All P es → All P (option_map_or (λ e. e ∷ without_pair node since es) o es)
  by_entry node since es None at all = all
  by_entry node since es (Some e) at all = All-cons P e (without_pair node since es) (all-found node since es e all at) (All-filter (λ f. not (is_of node since f)) P es all)

  -- what holds of all entries holds of them in another order
  pub all-promoted : (node : NodeValue) (since : ℕ) (es : List Entry) → All P es → All P (promoted node since es)
  all-promoted node since es all = by_entry node since es (entry_of node since es) refl all

-- ---- hits one after another
-- the pair of each node is among these
abbrev AllAmong : List Accepted → ℕ → List NodeValue → List Pair → Type 0
AllAmong edits v nodes pairs = All (λ node. is_kept (pair_at edits v node) pairs ≡ true) nodes

module _ (edits : List Accepted) (v : ℕ) where
  stays : (nodes : List NodeValue) (q : Pair) (pairs : List Pair) → is_kept q pairs ≡ true → is_kept q (with_hits edits v nodes pairs) ≡ true
  stays [] q pairs there = there
  stays (node ∷ nodes) q pairs there = stays nodes q (to_front (pair_at edits v node) pairs) (kept-stays (pair_at edits v node) q pairs there)

  all-stay : (nodes more : List NodeValue) (pairs : List Pair) → AllAmong edits v more pairs → AllAmong edits v more (with_hits edits v nodes pairs)
  all-stay nodes more pairs all =
      All-weaker (λ node. is_kept (pair_at edits v node) pairs ≡ true) (λ node. is_kept (pair_at edits v node) (with_hits edits v nodes pairs) ≡ true)
      (λ node. stays nodes (pair_at edits v node) pairs) more all

  first-among : (nodes more : List NodeValue) (pairs : List Pair) → AllAmong edits v (nodes ++ more) pairs → AllAmong edits v nodes pairs
  first-among [] more pairs all = All-nil (λ node. is_kept (pair_at edits v node) pairs ≡ true)
  first-among (node ∷ nodes) more pairs all =
      let P : NodeValue → Type 0 = λ node. is_kept (pair_at edits v node) pairs ≡ true in
      All-cons P node nodes (All-head P node (nodes ++ more) all) (first-among nodes more pairs (All-tail P node (nodes ++ more) all))

  rest-among : (nodes more : List NodeValue) (pairs : List Pair) → AllAmong edits v (nodes ++ more) pairs → AllAmong edits v more pairs
  rest-among [] more pairs all = all
  rest-among (node ∷ nodes) more pairs all =
      rest-among nodes more pairs (All-tail (λ node. is_kept (pair_at edits v node) pairs ≡ true) node (nodes ++ more) all)

  -- some nodes' pairs, and then the others', are brought to the front
  pub hits-then : (nodes more : List NodeValue) (before between after : List Pair) → AllAmong edits v (nodes ++ more) before
      → (AllAmong edits v nodes before → between ≡ with_hits edits v nodes before) → (AllAmong edits v more between → after ≡ with_hits edits v more between)
      → after ≡ with_hits edits v (nodes ++ more) before
  hits-then nodes more before between after all first second =
      let one : between ≡ with_hits edits v nodes before = first (first-among nodes more before all) in
      let stay : AllAmong edits v more between = subst (AllAmong edits v more) (sym one) (all-stay nodes more before (rest-among nodes more before all)) in
      second stay ∙ ap (with_hits edits v more) one ∙ sym (fold-append (λ ps node. to_front (pair_at edits v node) ps) before nodes more)

-- ---- the hits of plans
-- the halves of the visit that a split follows
record Halved (extent : Extent) (edits : List Accepted) (v : ℕ) (visit : Visit) (left right : Plan) : Type 0 where
  -- the visit of the left half
  pub first : Visit
  -- the visit of the right half
  pub second : Visit
  -- the hits are those of the left half and then those of the right half
  pub hits_are : hits_of visit ≡ hits_of first ++ hits_of second
  -- the left plan follows the left visit
  pub left_follows : IsPlanOf extent edits v first left
  -- the right plan follows the right visit
  pub right_follows : IsPlanOf extent edits v second right

module _ (extent : Extent) (edits : List Accepted) (v : ℕ) where
  hit-is : (visit : Visit) (node : NodeValue) (sig : Arc SigValue Global) → IsPlanOf extent edits v visit (HitPlan node sig) → hits_of visit ≡ node ∷ []
  hit-is (Hit at) node sig is = ap (λ (n : NodeValue). n ∷ []) (sym is.0)
  hit-is _ node sig is = elim is [ ]

  unit-has_none : (visit : Visit) (node : NodeValue) → IsPlanOf extent edits v visit (UnitPlan node) → hits_of visit ≡ []
  unit-has_none (Unit at) node is = refl
  unit-has_none _ node is = elim is [ ]

  leaf-has_none : (visit : Visit) (node : NodeValue) (rows : List RowValue) → IsPlanOf extent edits v visit (LeafPlan node rows) → hits_of visit ≡ []
  leaf-has_none (Leaf at count) node rows is = refl
  leaf-has_none _ node rows is = elim is [ ]

  halved : (visit : Visit) (node : NodeValue) (left right : Box Plan Global) → IsPlanOf extent edits v visit (views.Split node left right) → Halved extent edits v visit left.value right.value
  halved (Split at one two) node left right is = record { first = one; second = two; hits_are = refl; left_follows = is.2; right_follows = is.3 }
  halved _ node left right is = elim is [ ]

-- what bringing the hits of a plan to the front makes of the pairs, whatever visit it follows
abbrev pub Brought : Extent → List Accepted → ℕ → Plan → List Entry → List Entry → Type 0
Brought extent edits v plan before after =
    (visit : Visit) → IsPlanOf extent edits v visit plan → AllHeld edits v (hits_of visit) before → held after ≡ with_hits edits v (hits_of visit) (held before)

module _ (extent : Extent) (edits : List Accepted) (v : ℕ) (plan : Plan) where
  -- a hit brings its own pair to the front
  pub hit-brought : (node : NodeValue) (sig : Arc SigValue Global) → plan ≡ HitPlan node sig → (now : ℕ) → now ≡ since (low_of node) (high_of node) edits v
      → (before after : List Entry) → after ≡ promoted node now before → Brought extent edits v plan before after
  hit-brought node sig is now now_is before after after_is visit follows all =
      let hits = hit-is extent edits v visit node sig (subst (IsPlanOf extent edits v visit) is follows) in
      let there : AllAmong edits v (node ∷ []) (held before) = subst (λ nodes. AllAmong edits v nodes (held before)) hits all in
      ap held after_is
      ∙ ap (λ n. held (promoted node n before)) now_is
      ∙ held-promoted node (since (low_of node) (high_of node) edits v) before (All-head (λ node. is_kept (pair_at edits v node) (held before) ≡ true) node [] there)
      ∙ ap (λ nodes. with_hits edits v nodes (held before)) (sym hits)

  -- a node without rows brings none
  pub unit-brought : (node : NodeValue) → plan ≡ UnitPlan node → (entries : List Entry) → Brought extent edits v plan entries entries
  unit-brought node is entries visit follows all =
      ap (λ nodes. with_hits edits v nodes (held entries)) (sym (unit-has_none extent edits v visit node (subst (IsPlanOf extent edits v visit) is follows)))

  -- a leaf brings none
  pub leaf-brought : (node : NodeValue) (rows : List RowValue) → plan ≡ LeafPlan node rows → (entries : List Entry) → Brought extent edits v plan entries entries
  leaf-brought node rows is entries visit follows all =
      ap (λ nodes. with_hits edits v nodes (held entries)) (sym (leaf-has_none extent edits v visit node rows (subst (IsPlanOf extent edits v visit) is follows)))

  -- a split brings those of its left half, and then those of its right half
  pub split-brought : (node : NodeValue) (left right : Box Plan Global) → plan ≡ views.Split node left right → (before between after : List Entry)
      → Brought extent edits v left.value before between → Brought extent edits v right.value between after → Brought extent edits v plan before after
  split-brought node left right is before between after one two visit follows all =
      let halves = halved extent edits v visit node left right (subst (IsPlanOf extent edits v visit) is follows) in
      let hits : AllAmong edits v (hits_of halves.first ++ hits_of halves.second) (held before) = subst (λ nodes. AllAmong edits v nodes (held before)) halves.hits_are all in
      hits-then edits v (hits_of halves.first) (hits_of halves.second) (held before) (held between) (held after) hits
      (one halves.first halves.left_follows) (two halves.second halves.right_follows)
      ∙ ap (λ nodes. with_hits edits v nodes (held before)) (sym halves.hits_are)

-- ---- the hits of plans one after another
-- what bringing the hits of some plans to the front, one after another, makes of the pairs
abbrev pub AllBrought : Extent → List Accepted → ℕ → List Plan → List Entry → List Entry → Type 0
AllBrought extent edits v plans before after =
    (visits : List Visit) → ArePlansOf extent edits v visits plans → AllHeld edits v (all_hits visits) before → held after ≡ with_hits edits v (all_hits visits) (held before)

-- the visits that plans and one plan more follow
record WithLast (extent : Extent) (edits : List Accepted) (v : ℕ) (visits : List Visit) (plans : List Plan) (plan : Plan) : Type 0 where
  -- the visits of the first plans
  pub front : List Visit
  -- the visit of the last one
  pub last : Visit
  -- the hits are those of the first plans and then those of the last one
  pub hits_are : all_hits visits ≡ all_hits front ++ hits_of last
  -- the first plans follow the first visits
  pub front_follows : ArePlansOf extent edits v front plans
  -- the last plan follows the last visit
  pub last_follows : IsPlanOf extent edits v last plan

module _ (extent : Extent) (edits : List Accepted) (v : ℕ) where
  with_last : (visits : List Visit) (plans : List Plan) (plan : Plan) → ArePlansOf extent edits v visits (plans ++ plan ∷ []) → WithLast extent edits v visits plans plan
  with_last (visit ∷ []) [] plan are = record { front = []; last = visit; hits_are = append-nil (hits_of visit); front_follows = tt; last_follows = are.0 }
  with_last (visit ∷ visits) (first ∷ plans) plan are =
      let rest = with_last visits plans plan are.1 in
      record {
        front = visit ∷ rest.front;
        last = rest.last;
        hits_are = ap (λ nodes. hits_of visit ++ nodes) rest.hits_are ∙ sym (append_assoc (hits_of visit) (all_hits rest.front) (hits_of rest.last));
        front_follows = (are.0, rest.front_follows);
        last_follows = rest.last_follows;
      }
  with_last [] [] plan are = elim are [ ]
  with_last [] (first ∷ plans) plan are = elim are [ ]
  with_last (visit ∷ other ∷ visits) [] plan are = elim are.1 [ ]

  -- no plan brings none
  pub none-brought : (entries : List Entry) → AllBrought extent edits v [] entries entries
  none-brought entries [] are all = refl
  none-brought entries (visit ∷ visits) are all = elim are [ ]

  -- one plan more brings its own after those of the others
  pub more-brought : (plans : List Plan) (i : ℕ) (plan : Plan) → i < length plans → plan ≡ get_or plans i plan → (before between after : List Entry)
      → AllBrought extent edits v (take i plans) before between → Brought extent edits v plan between after → AllBrought extent edits v (take (i + 1) plans) before after
  more-brought plans i plan within at before between after one two visits are all =
      let more : take (i + 1) plans ≡ take i plans ++ plan ∷ [] = take_more plans i plan within ∙ ap (λ (p : Plan). take i plans ++ p ∷ []) (sym at) in
      let parts = with_last visits (take i plans) plan (subst (ArePlansOf extent edits v visits) more are) in
      let hits : AllAmong edits v (all_hits parts.front ++ hits_of parts.last) (held before) = subst (λ nodes. AllAmong edits v nodes (held before)) parts.hits_are all in
      hits-then edits v (all_hits parts.front) (hits_of parts.last) (held before) (held between) (held after) hits
      (one parts.front parts.front_follows) (two parts.last parts.last_follows)
      ∙ ap (λ nodes. with_hits edits v nodes (held before)) (sym parts.hits_are)

-- ---- the hits of a walk
module _ (edits : List Accepted) (v : ℕ) (pairs : List Pair) where
  none : AllAmong edits v [] pairs
  none = All-nil (λ node. is_kept (pair_at edits v node) pairs ≡ true)

  absent-among : (node : NodeValue) (count : ℕ) (many : Visit) → AllAmong edits v (hits_of many) pairs → AllAmong edits v (hits_of (absent node count many)) pairs
  absent-among node zero many all = none
  absent-among node (suc n) many all =
      elim (nat_le (suc n) 8) as (λ t. AllAmong edits v (hits_of (cond t (Leaf node (suc n)) many)) pairs) [ true ↦ none | false ↦ all ]

  among : (node : NodeValue) (count : ℕ) (many : Visit) → AllAmong edits v (hits_of many) pairs
      → AllAmong edits v (hits_of (cond (is_kept (pair_at edits v node) pairs) (Hit node) (absent node count many))) pairs
  among node count many all =
      elim (cases_Bool (is_kept (pair_at edits v node) pairs)) [
        | inl there ↦ subst (λ t. AllAmong edits v (hits_of (cond t (Hit node) (absent node count many))) pairs) (sym there)
            (All-cons (λ node. is_kept (pair_at edits v node) pairs ≡ true) node [] there none)
        | inr out ↦ subst (λ t. AllAmong edits v (hits_of (cond t (Hit node) (absent node count many))) pairs) (sym out) (absent-among node count many all)
      ]

  visited-among : (height index : ℕ) → AllAmong edits v (hits_of (visited edits v pairs height index)) pairs
  visited-among zero index =
      let node : NodeValue = record { index = index; height = 0 } in
      among node (count_at edits v node) (Leaf node (count_at edits v node)) none
  visited-among (suc height) index =
      let node : NodeValue = record { index = index; height = suc height } in
      let left : Visit = visited edits v pairs height (2 * index) in let right : Visit = visited edits v pairs height (2 * index + 1) in
      among node (count_at edits v node) (Split node left right)
      (All-append (λ node. is_kept (pair_at edits v node) pairs ≡ true) (hits_of left) (hits_of right) (visited-among height (2 * index)) (visited-among height (2 * index + 1)))

  all-among : (nodes : List NodeValue) → AllAmong edits v (all_hits (map (visit_of edits v pairs) nodes)) pairs
  all-among [] = none
  all-among (node ∷ nodes) =
      All-append (λ node. is_kept (pair_at edits v node) pairs ≡ true) (hits_of (visit_of edits v pairs node)) (all_hits (map (visit_of edits v pairs) nodes))
      (visited-among node.height node.index) (all-among nodes)

-- all hits of a walk are pairs that are kept
pub walk-held : (edits : List Accepted) (v : ℕ) (entries : List Entry) (a b : ℕ) → AllHeld edits v (all_hits (walk edits v (held entries) a b)) entries
walk-held edits v entries a b = all-among edits v (held entries) (pieces_of a b)
