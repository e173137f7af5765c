-- The visit of a node, and the plans that follow it.
use Rattle.std.proofs.Common.{◌≡◌, ◌∙◌, ℕ, zero, suc, ◌+◌, ◌*◌, ◌<◌, ◌≤◌, inl, inr, refl, sym, ap, subst, arith, Bool, true, false, cond, List, [], ◌∷◌, length, Option, Some, None, Box, Global}
use Rattle.std.specs.Prelude.{All, ◌||◌, SomeIff}
use Rattle.std.specs.Option.{option_map}
use Rattle.std.proofs.lemmas.Bool.{cases_Bool, cases_lt, lt-leb, le-leb}
use Rattle.std.proofs.lemmas.Bool.Decides.{nat_tests}
use Rattle.std.proofs.lemmas.Option.{same_Some, none-some}
use Rattle.std.proofs.lemmas.List.Elements.{All-head, All-tail}
use Rattle.definitions.specs.Words.{Extent}
use Rattle.definitions.specs.Rows.{RowValue, moves_of}
use Rattle.dyadic.specs.Nodes.{NodeValue, IsNode, low_of, high_of, left_of, right_of}
use Rattle.node_cache.specs.Entries.{Entry, is_of, entry_of, sig_of}
use Rattle.tensor_product.specs.Sigs.{SigValue, StandsFor}
use Rattle.solve.specs.declared.plan.Plan.{Plan, Leaf as LeafPlan}
use Rattle.solve.specs.declared.plan.Plan.TheViews.{Split as SplitPlan}
use Rattle.versions.specs.declared.log.Accepted.{Accepted}
use Rattle.versions.specs.Versions.{LogValue, IsLog, since}
use Rattle.versions.specs.LogNodes.{LogNodeValue}
use Rattle.versions.proofs.Untouched.{untouched-since}
use Rattle.book.specs.Walks.{Pair, Visit, Hit, Unit, Leaf, Split, pair_at, is_kept, count_at, absent, visited, visit_of}
use Rattle.book.specs.Plans.{node_rows, HasSignature, IsPlanOf}
use Rattle.book.specs.Books.{Keeps, AreKept, held}

-- ---- the entry of a pair
-- the signature is that of an entry of the pair
record IsEntryOf (P : Entry → Type 0) (node : NodeValue) (version : ℕ) (sig : SigValue) : Type 0 where
  entry : Entry
  node_is : node ≡ entry.node
  version_is : version ≡ entry.since
  sig_is : entry.sig ≡ sig
  has : P entry

module _ (node : NodeValue) (version : ℕ) where
  abbrev pair : Pair
  pair = record { node = node; since = version }

  found-first : (e : Entry) (entries : List Entry) → is_of node version e ≡ true → sig_of node version (e ∷ entries) ≡ Some e.sig
  found-first e entries here = ap (λ t. option_map (λ (f : Entry). f.sig) (cond t (Some e) (entry_of node version entries))) here

  found-later : (e : Entry) (entries : List Entry) → is_of node version e ≡ false → sig_of node version (e ∷ entries) ≡ sig_of node version entries
  found-later e entries other = ap (λ t. option_map (λ (f : Entry). f.sig) (cond t (Some e) (entry_of node version entries))) other

  kept-first : (e : Entry) (entries : List Entry) → is_of node version e ≡ true → is_kept pair (held (e ∷ entries)) ≡ true
  kept-first e entries here = ap (λ t. t || is_kept pair (held entries)) here

  kept-later : (e : Entry) (entries : List Entry) → is_of node version e ≡ false
      → is_kept pair (held (e ∷ entries)) ≡ is_kept pair (held entries)
  kept-later e entries other = ap (λ t. t || is_kept pair (held entries)) other

  -- a pair with a signature is kept
  found-is_kept : (entries : List Entry) (sig : SigValue) → sig_of node version entries ≡ Some sig → is_kept pair (held entries) ≡ true
  found-is_kept [] sig found = absurd (none-some sig found)
  found-is_kept (e ∷ entries) sig found =
      elim (cases_Bool (is_of node version e)) [
        | inl here ↦ kept-first e entries here
        | inr other ↦ (kept-later e entries other ∙ found-is_kept entries sig (sym (found-later e entries other) ∙ found))
      ]

  unfound-isnt_kept : (entries : List Entry) → sig_of node version entries ≡ None → is_kept pair (held entries) ≡ false
  unfound-isnt_kept [] none = refl
  unfound-isnt_kept (e ∷ entries) none =
      elim (cases_Bool (is_of node version e)) [
        | inl here ↦ absurd (none-some e.sig (sym none ∙ found-first e entries here))
        | inr other ↦ (kept-later e entries other ∙ unfound-isnt_kept entries (sym (found-later e entries other) ∙ none))
      ]

  found-entry : (P : Entry → Type 0) (entries : List Entry) (sig : SigValue) → All P entries → sig_of node version entries ≡ Some sig → IsEntryOf P node version sig
  found-entry P [] sig all found = absurd (none-some sig found)
  found-entry P (e ∷ entries) sig all found =
      elim (cases_Bool (is_of node version e)) [
        | inl here ↦ (
            let same : (node ≡ e.node) × (version ≡ e.since) = same-pair e here in
            record {
              entry = e;
              node_is = same.0;
              version_is = same.1;
              sig_is = same_Some e.sig sig (sym (found-first e entries here) ∙ found);
              has = All-head P e entries all;
            })
        | inr other ↦ found-entry P entries sig (All-tail P e entries all) (sym (found-later e entries other) ∙ found)
      ]
    where
      same-pair : (e : Entry) → is_of node version e ≡ true → (node ≡ e.node) × (version ≡ e.since)
      same-pair e h = grind (arith, nat_tests)

-- ---- visits
module _ (edits : List Accepted) (v : ℕ) (pairs : List Pair) where
  -- what is visited where there are many rows
  abbrev rest : ℕ → ℕ → Visit
  rest zero index = Leaf (record { index = index; height = 0 }) (count_at edits v (record { index = index; height = 0 }))
  rest (suc height) index = Split (record { index = index; height = suc height }) (visited edits v pairs height (2 * index)) (visited edits v pairs height (2 * index + 1))

  abbrev at : ℕ → ℕ → NodeValue
  at height index = record { index = index; height = height }

  abbrev chosen : NodeValue → Bool → ℕ → Visit → Visit
  chosen node kept count many = cond kept (Hit node) (absent node count many)

  visited-is : (height index : ℕ) → visited edits v pairs height index ≡ chosen (at height index) (is_kept (pair_at edits v (at height index)) pairs) (count_at edits v (at height index)) (rest height index)
  visited-is zero index = refl
  visited-is (suc height) index = refl

  visit-is : (node : NodeValue) → visit_of edits v pairs node ≡ chosen node (is_kept (pair_at edits v node) pairs) (count_at edits v node) (rest node.height node.index)
  visit-is node = visited-is node.height node.index

  -- a node whose pair is kept is a hit
  pub visit-hit : (node : NodeValue) → is_kept (pair_at edits v node) pairs ≡ true → visit_of edits v pairs node ≡ Hit node
  visit-hit node kept = visit-is node ∙ ap (λ t. chosen node t (count_at edits v node) (rest node.height node.index)) kept

  visit-absent : (node : NodeValue) → is_kept (pair_at edits v node) pairs ≡ false → visit_of edits v pairs node ≡ absent node (count_at edits v node) (rest node.height node.index)
  visit-absent node other = visit-is node ∙ ap (λ t. chosen node t (count_at edits v node) (rest node.height node.index)) other

  -- another node without rows is visited as one
  pub visit-unit : (node : NodeValue) → is_kept (pair_at edits v node) pairs ≡ false → count_at edits v node ≡ 0 → visit_of edits v pairs node ≡ Unit node
  visit-unit node other none = visit-absent node other ∙ ap (λ n. absent node n (rest node.height node.index)) none

  absent-few : (node : NodeValue) (n : ℕ) (many : Visit) → 0 < n → n ≤ 8 → absent node n many ≡ Leaf node n
  absent-few node zero many some few = absurd (omega arith)
  absent-few node (suc n) many some few = ap (λ t. cond t (Leaf node (suc n)) many) (le-leb (suc n) 8 few)

  absent-many : (node : NodeValue) (n : ℕ) (many : Visit) → 8 < n → absent node n many ≡ many
  absent-many node zero many lots = absurd (omega arith)
  absent-many node (suc n) many lots = ap (λ t. cond t (Leaf node (suc n)) many) (lt-leb (suc n) 8 lots)

  -- another node with at most 8 rows is a leaf
  pub visit-few : (node : NodeValue) → is_kept (pair_at edits v node) pairs ≡ false → 0 < count_at edits v node → count_at edits v node ≤ 8 → visit_of edits v pairs node ≡ Leaf node (count_at edits v node)
  visit-few node other some few = visit-absent node other ∙ absent-few node (count_at edits v node) (rest node.height node.index) some few

  rest-tick : (height index : ℕ) → height ≡ 0 → rest height index ≡ Leaf (at height index) (count_at edits v (at height index))
  rest-tick zero index none = refl
  rest-tick (suc height) index none = absurd (omega arith)

  -- so is a node of one tick, with however many rows
  pub visit-tick : (node : NodeValue) → is_kept (pair_at edits v node) pairs ≡ false → 8 < count_at edits v node → node.height ≡ 0 → visit_of edits v pairs node ≡ Leaf node (count_at edits v node)
  visit-tick node other lots tick =
      visit-absent node other ∙ absent-many node (count_at edits v node) (rest node.height node.index) lots ∙ rest-tick node.height node.index tick

  rest-halved : (height index : ℕ) → 0 < height → rest height index ≡ Split (at height index) (visit_of edits v pairs (left_of (at height index))) (visit_of edits v pairs (right_of (at height index)))
  rest-halved zero index some = absurd (omega arith)
  rest-halved (suc height) index some =
      ap (λ (h : ℕ). Split (at (suc height) index) (visited edits v pairs h (2 * index)) (visited edits v pairs h (2 * index + 1))) (omega arith)

  visit-halved : (node : NodeValue) → is_kept (pair_at edits v node) pairs ≡ false → 8 < count_at edits v node → 0 < node.height
      → visit_of edits v pairs node ≡ Split node (visit_of edits v pairs (left_of node)) (visit_of edits v pairs (right_of node))
  visit-halved node other lots some =
      visit-absent node other ∙ absent-many node (count_at edits v node) (rest node.height node.index) lots ∙ rest-halved node.height node.index some

-- ---- halves
-- a node without a half is of one tick
pub no_half : (r : Option LogNodeValue) (node : NodeValue) (half : LogNodeValue) → SomeIff r (0 < node.height) half → r ≡ None → node.height ≡ 0
no_half r node half is none =
    let not_some : ¬ (0 < node.height) = subst (λ (o : Option LogNodeValue). SomeIff o (0 < node.height) half) none is in
    elim (cases_lt 0 node.height) [ inl some ↦ absurd (not_some some) | inr le ↦ omega (arith, le) ]

-- ---- plans
module _ (extent : Extent) (edits : List Accepted) (v : ℕ) (pairs : List Pair) (node : NodeValue) where
  -- the plan of a leaf has its rows
  pub plan-leaf : (rows : List RowValue) → IsNode node → rows ≡ node_rows edits v node → visit_of edits v pairs node ≡ Leaf node (count_at edits v node)
      → IsPlanOf extent edits v (visit_of edits v pairs node) (LeafPlan node rows)
  plan-leaf rows is rows_are visit =
      subst (λ (w : Visit). IsPlanOf extent edits v w (LeafPlan node rows)) (sym visit) (refl, is, rows_are, ap length (sym rows_are))

  -- the plan of a split has those of its halves
  pub plan-split : (left right : NodeValue) (first second : Box Plan Global) → IsNode node → visit_of edits v pairs node ≡ Split node (visit_of edits v pairs left) (visit_of edits v pairs right)
      → IsPlanOf extent edits v (visit_of edits v pairs left) first.value → IsPlanOf extent edits v (visit_of edits v pairs right) second.value
      → IsPlanOf extent edits v (visit_of edits v pairs node) (SplitPlan node first second)
  plan-split left right first second is visit first_is second_is =
      subst (λ (w : Visit). IsPlanOf extent edits v w (SplitPlan node first second)) (sym visit) (refl, is, first_is, second_is)

module _ (log : LogValue) (entries : List Entry) (v s : ℕ) (node : NodeValue) (same : s ≡ since (low_of node) (high_of node) log.edits v) where
  -- where the cache finds the node's entry, the pair is kept
  pub kept-at : (sig : SigValue) → sig_of node s entries ≡ Some sig → is_kept (pair_at log.edits v node) (held entries) ≡ true
  kept-at sig found = ap (λ (u : ℕ). is_kept (record { node = node; since = u }) (held entries)) (sym same) ∙ found-is_kept node s entries sig found

  -- where it finds none, the pair isn't
  pub not_kept-at : sig_of node s entries ≡ None → is_kept (pair_at log.edits v node) (held entries) ≡ false
  not_kept-at none = ap (λ (u : ℕ). is_kept (record { node = node; since = u }) (held entries)) (sym same) ∙ unfound-isnt_kept node s entries none

  -- the signature of an entry of the node is that of its rows
  pub kept-signature : (sig : SigValue) → IsLog log → AreKept log entries → v ≤ length log.edits → sig_of node s entries ≡ Some sig → HasSignature log.extent log.edits v node sig
  kept-signature sig is kept within found =
      let of : IsEntryOf (Keeps log.extent log.edits) node s sig = found-entry node s (Keeps log.extent log.edits) entries sig kept found in
      let of_entry : HasSignature log.extent log.edits of.entry.since of.entry.node sig = subst (HasSignature log.extent log.edits of.entry.since of.entry.node) of.sig_is of.has.signature in
      let of_node : HasSignature log.extent log.edits of.entry.since node sig = subst (λ (n : NodeValue). HasSignature log.extent log.edits of.entry.since n sig) (sym of.node_is) of_entry in
      let of_version : HasSignature log.extent log.edits s node sig = subst (λ (u : ℕ). HasSignature log.extent log.edits u node sig) (sym of.version_is) of_node in
      let rows : node_rows log.edits s node ≡ node_rows log.edits v node =
      ap (λ (u : ℕ). node_rows log.edits u node) same ∙ sym (untouched-since (low_of node) (high_of node) log is v within) in
      record {
        extent_is = of_version.extent_is;
        stands = subst (λ (rs : List RowValue). StandsFor sig (moves_of rs)) rows of_version.stands;
      }

  -- a node with many rows that isn't kept
  pub halved : sig_of node s entries ≡ None → 8 < count_at log.edits v node → 0 < node.height
      → visit_of log.edits v (held entries) node ≡ Split node (visit_of log.edits v (held entries) (left_of node)) (visit_of log.edits v (held entries) (right_of node))
  halved none lots some = visit-halved log.edits v (held entries) node (not_kept-at none) lots some
