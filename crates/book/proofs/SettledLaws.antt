-- Nodes that are settled, one after another.
use Rattle.std.proofs.Common.{◌≡◌, ◌∙◌, ℕ, ◌+◌, ◌<◌, ◌≤◌, sym, ap, subst, arith, List, [], ◌∷◌, ◌++◌, length, take, get_or, cond, not, true, false, append-nil}
use Rattle.std.specs.Prelude.{map, All}
use Rattle.std.specs.Arc.{arc_value}
use Rattle.std.proofs.lemmas.List.{map_more, length_push, get_or-map, length-map}
use Rattle.std.proofs.lemmas.List.Elements.{filter-append, All-get_or}
use Rattle.std.proofs.lemmas.List.Sums.{fold_push}
use Rattle.dyadic.specs.Nodes.{NodeValue, IsNode, low_of, high_of}
use Rattle.tensor_product.specs.Sigs.{SigValue}
use Rattle.node_cache.specs.Entries.{Entry, CacheValue, kept}
use Rattle.solve.specs.declared.solution.SolvedNode.{SolvedNode}
use Rattle.versions.specs.Versions.{LogValue, IsLog, since}
use Rattle.book.specs.Walks.{Pair, pair_at}
use Rattle.book.specs.Play.{is_past, to_front, settled_nodes, with_settled}
use Rattle.book.specs.Plans.{HasSignature}
use Rattle.book.specs.Books.{Keeps, AreKept, held}
use Rattle.book.proofs.PastLaws.{keeps-settled}
use Rattle.book.proofs.HeldLaws.{held-kept, kept-kept}

-- the nodes that were solved, in their order
abbrev pub nodes_of : List SolvedNode → List NodeValue
nodes_of solved = map (λ s. s.node) solved

-- these nodes are settled at version v, so many of them kept
pub record IsSettledTo (log : LogValue) (v : ℕ) (old : CacheValue) (solved : List SolvedNode) (count : ℕ) (new : CacheValue) : Type 0 where
  -- so many are kept
  pub count_is : count ≡ length (settled_nodes log.edits v (nodes_of solved))
  -- their pairs go to the front, one after another, and past the capacity the last one goes each time
  pub pairs_are : held new.entries ≡ with_settled old.capacity log.edits v (settled_nodes log.edits v (nodes_of solved)) (held old.entries)
  -- each entry has the signature of its rows
  pub are_kept : AreKept log new.entries
  -- the capacity stays
  pub capacity_is : new.capacity ≡ old.capacity

module _ (log : LogValue) (v : ℕ) (old : CacheValue) (solved : List SolvedNode) (i : ℕ) (s : SolvedNode) (within : i < length solved) (at : s ≡ get_or solved i s) where
  more : settled_nodes log.edits v (nodes_of (take (i + 1) solved)) ≡ settled_nodes log.edits v (nodes_of (take i solved)) ++ settled_nodes log.edits v (s.node ∷ [])
  more =
      ap (settled_nodes log.edits v) (map_more (λ (n : SolvedNode). n.node) solved i s within ∙ ap (λ (n : SolvedNode). nodes_of (take i solved) ++ n.node ∷ []) (sym at))
      ∙ filter-append (λ node. not (is_past log.edits node v)) (nodes_of (take i solved)) (s.node ∷ [])

  more-past : is_past log.edits s.node v ≡ true → settled_nodes log.edits v (nodes_of (take (i + 1) solved)) ≡ settled_nodes log.edits v (nodes_of (take i solved))
  more-past past =
      more ∙ ap (λ t. settled_nodes log.edits v (nodes_of (take i solved)) ++ cond (not t) (s.node ∷ []) []) past ∙ append-nil (settled_nodes log.edits v (nodes_of (take i solved)))

  more-recent : is_past log.edits s.node v ≡ false → settled_nodes log.edits v (nodes_of (take (i + 1) solved)) ≡ settled_nodes log.edits v (nodes_of (take i solved)) ++ s.node ∷ []
  more-recent recent = more ∙ ap (λ t. settled_nodes log.edits v (nodes_of (take i solved)) ++ cond (not t) (s.node ∷ []) []) recent

  -- a node that was touched long ago
  pub settled-past : (count : ℕ) (new : CacheValue) → IsSettledTo log v old (take i solved) count new → is_past log.edits s.node v ≡ true
      → IsSettledTo log v old (take (i + 1) solved) count new
  settled-past count new is past =
      let same = sym (more-past past) in
      record {
        count_is = is.count_is ∙ ap length same;
        pairs_are = is.pairs_are ∙ ap (λ nodes. with_settled old.capacity log.edits v nodes (held old.entries)) same;
        are_kept = is.are_kept;
        capacity_is = is.capacity_is;
      }

  -- one that is kept
  module _ (is_log : IsLog log) (back : v ≤ length log.edits) (nodes : All (λ n. IsNode n.node) solved) (signatures : All (λ n. HasSignature log.extent log.edits v n.node (arc_value n.sig)) solved) where
    keeps : is_past log.edits s.node v ≡ false → Keeps log.extent log.edits (record { node = s.node; since = since (low_of s.node) (high_of s.node) log.edits v; sig = arc_value s.sig })
    keeps recent =
        let Is : SolvedNode → Type 0 = λ n. HasSignature log.extent log.edits v n.node (arc_value n.sig) in
        let is_node : IsNode s.node = subst (λ (n : SolvedNode). IsNode n.node) (sym at) (All-get_or (λ (n : SolvedNode). IsNode n.node) solved i s within nodes) in
        keeps-settled log v s.node (arc_value s.sig) is_log back is_node recent (subst Is (sym at) (All-get_or Is solved i s within signatures))

    -- a node that wasn't touched long ago goes to the front with its signature
    pub settled-recent : (from : ℕ) (sig : SigValue) (count : ℕ) (new after : CacheValue) → IsSettledTo log v old (take i solved) count new → is_past log.edits s.node v ≡ false
        → from ≡ since (low_of s.node) (high_of s.node) log.edits v → sig ≡ arc_value s.sig
        → after ≡ record { capacity = new.capacity; entries = kept s.node from sig new.capacity new.entries }
        → IsSettledTo log v old (take (i + 1) solved) (count + 1) after
    settled-recent from sig count new after is recent from_is sig_is took =
        let before : List NodeValue = settled_nodes log.edits v (nodes_of (take i solved)) in
        let entries : List Entry = kept s.node from sig new.capacity new.entries in
        let all = more-recent recent in
        let front : List Pair → List Pair = λ ps. take old.capacity (to_front (pair_at log.edits v s.node) ps) in
        let kept_here : Keeps log.extent log.edits (record { node = s.node; since = from; sig = sig }) =
        subst (λ (n : ℕ). Keeps log.extent log.edits (record { node = s.node; since = n; sig = sig })) (sym from_is)
        (subst (λ (x : SigValue). Keeps log.extent log.edits (record { node = s.node; since = since (low_of s.node) (high_of s.node) log.edits v; sig = x })) (sym sig_is) (keeps recent)) in
        record {
          count_is = ap (λ n. n + 1) is.count_is ∙ sym (length_push before s.node) ∙ ap length (sym all);
          pairs_are = ap (λ (c : CacheValue). held c.entries) took ∙ held-kept s.node from sig new.capacity new.entries
              ∙ ap (λ n. take n (to_front (record { node = s.node; since = from }) (held new.entries))) is.capacity_is
              ∙ ap (λ (n : ℕ). take old.capacity (to_front (record { node = s.node; since = n }) (held new.entries))) from_is ∙ ap front is.pairs_are
              ∙ sym (fold_push (λ ps node. take old.capacity (to_front (pair_at log.edits v node) ps)) (held old.entries) before s.node)
              ∙ ap (λ ns. with_settled old.capacity log.edits v ns (held old.entries)) (sym all);
          are_kept = subst (λ (c : CacheValue). AreKept log c.entries) (sym took) (kept-kept log s.node from sig new.capacity new.entries kept_here is.are_kept);
          capacity_is = ap (λ (c : CacheValue). c.capacity) took ∙ is.capacity_is;
        }

-- what is settled are nodes
pub nodes-settled : (solved : List SolvedNode) (nodes : List NodeValue) → nodes_of solved ≡ nodes → All IsNode nodes → All (λ s. IsNode s.node) solved
nodes-settled solved nodes are all = λ k d within.
    let missed : All IsNode (nodes_of solved) = subst (All IsNode) (sym are) all in
    subst IsNode (get_or-map (λ (s : SolvedNode). s.node) solved k d d.node within) (missed k d.node (omega (arith, within, length-map solved (λ (s : SolvedNode). s.node))))
