-- What plans miss, and how much they have, is what the visits that they follow say.
use Rattle.std.proofs.Common.{◌≡◌, ◌∙◌, ℕ, ◌+◌, refl, sym, ap, List, [], ◌∷◌, ◌++◌, length, map}
use Rattle.std.specs.Prelude.{All, sum_by}
use Rattle.std.proofs.lemmas.List.{map-append, length-append, length-map}
use Rattle.std.proofs.lemmas.List.Sums.{sum_by-cons}
use Rattle.std.proofs.lemmas.List.Elements.{All-nil, All-cons, All-append}
use Rattle.definitions.specs.Words.{Extent}
use Rattle.dyadic.specs.Nodes.{NodeValue, IsNode}
use Rattle.versions.specs.declared.log.Accepted.{Accepted}
use Rattle.solve.specs.Plans as plans
use Rattle.solve.specs.Plans.{node_of, missed, all_missed}
use Rattle.solve.specs.declared.plan.Plan.{Plan, Hit as HitPlan, Unit as UnitPlan, Leaf as LeafPlan, Split' as SplitPlan}
use Rattle.book.specs.Walks.{Visit, Hit, Unit, Leaf, Split, hits_of, misses_of, exps_of, all_hits, all_misses}
use Rattle.book.specs.Plans.{IsPlanOf, ArePlansOf}

-- a plan and a visit tell the same
record Agree (visit : Visit) (plan : Plan) : Type 0 where
  missed_are : map node_of (missed plan) ≡ misses_of visit
  hits_are : plans.hits_of plan ≡ length (hits_of visit)
  exps_are : plans.exps_of plan ≡ exps_of visit
  nodes : All IsNode (misses_of visit)

module _ (extent : Extent) (edits : List Accepted) (v : ℕ) where
  agree : (visit : Visit) (plan : Plan) → IsPlanOf extent edits v visit plan → Agree visit plan
  agree (Hit at) (HitPlan node sig) is = record { missed_are = refl; hits_are = refl; exps_are = refl; nodes = All-nil IsNode }
  agree (Unit at) (UnitPlan node) is = record { missed_are = refl; hits_are = refl; exps_are = refl; nodes = All-nil IsNode }
  agree (Leaf at count) (LeafPlan node rows) is = record {
    missed_are = ap (λ (n : NodeValue). n ∷ []) is.0;
    hits_are = refl;
    exps_are = sym is.3;
    nodes = All-cons IsNode at [] is.1 (All-nil IsNode);
  }
  agree (Split at first second) (SplitPlan node p left q right) is =
      let one = agree first left is.2 in let two = agree second right is.3 in
      record {
        missed_are =
            map-append node_of (missed left ++ missed right) (SplitPlan node p left q right ∷ [])
            ∙ ap (λ nodes. nodes ++ node ∷ []) (map-append node_of (missed left) (missed right))
            ∙ ap (λ nodes. nodes ++ map node_of (missed right) ++ node ∷ []) one.missed_are
            ∙ ap (λ nodes. misses_of first ++ nodes ++ node ∷ []) two.missed_are
            ∙ ap (λ (n : NodeValue). misses_of first ++ misses_of second ++ n ∷ []) is.0;
        hits_are = ap (λ n. n + plans.hits_of right) one.hits_are ∙ ap (λ n. length (hits_of first) + n) two.hits_are ∙ sym (length-append (hits_of first) (hits_of second));
        exps_are = ap (λ n. n + plans.exps_of right) one.exps_are ∙ ap (λ n. exps_of first + n) two.exps_are;
        nodes =
            All-append IsNode (misses_of first ++ misses_of second) (at ∷ []) (All-append IsNode (misses_of first) (misses_of second) one.nodes two.nodes)
            (All-cons IsNode at [] is.1 (All-nil IsNode));
      }
  agree _ _ is = elim is [ ]

  -- the nodes that plans miss are those of their visits, in order
  pub missed-are : (visits : List Visit) (ps : List Plan) → ArePlansOf extent edits v visits ps → map node_of (all_missed ps) ≡ all_misses visits
  missed-are [] [] are = refl
  missed-are (visit ∷ visits) (plan ∷ ps) are =
      map-append node_of (missed plan) (all_missed ps)
      ∙ ap (λ nodes. nodes ++ map node_of (all_missed ps)) (agree visit plan are.0).missed_are
      ∙ ap (λ nodes. misses_of visit ++ nodes) (missed-are visits ps are.1)
  missed-are _ _ are = elim are [ ]

  -- as many hits
  pub hits-are : (visits : List Visit) (ps : List Plan) → ArePlansOf extent edits v visits ps → sum_by plans.hits_of ps ≡ length (all_hits visits)
  hits-are [] [] are = refl
  hits-are (visit ∷ visits) (plan ∷ ps) are =
      sum_by-cons plans.hits_of plan ps
      ∙ ap (λ n. n + sum_by plans.hits_of ps) (agree visit plan are.0).hits_are
      ∙ ap (λ n. length (hits_of visit) + n) (hits-are visits ps are.1)
      ∙ sym (length-append (hits_of visit) (all_hits visits))
  hits-are _ _ are = elim are [ ]

  -- as many misses
  pub misses-are : (visits : List Visit) (ps : List Plan) → ArePlansOf extent edits v visits ps → length (all_missed ps) ≡ length (all_misses visits)
  misses-are visits ps are = sym (length-map (all_missed ps) node_of) ∙ ap length (missed-are visits ps are)

  -- as many rows to exponentiate
  pub exps-are : (visits : List Visit) (ps : List Plan) → ArePlansOf extent edits v visits ps → sum_by plans.exps_of ps ≡ sum_by exps_of visits
  exps-are [] [] are = refl
  exps-are (visit ∷ visits) (plan ∷ ps) are =
      sum_by-cons plans.exps_of plan ps
      ∙ ap (λ n. n + sum_by plans.exps_of ps) (agree visit plan are.0).exps_are
      ∙ ap (λ n. exps_of visit + n) (exps-are visits ps are.1)
      ∙ sym (sum_by-cons exps_of visit visits)
  exps-are _ _ are = elim are [ ]

  -- all that is missed are nodes
  pub misses-are_nodes : (visits : List Visit) (ps : List Plan) → ArePlansOf extent edits v visits ps → All IsNode (all_misses visits)
  misses-are_nodes [] [] are = All-nil IsNode
  misses-are_nodes (visit ∷ visits) (plan ∷ ps) are =
      All-append IsNode (misses_of visit) (all_misses visits) (agree visit plan are.0).nodes (misses-are_nodes visits ps are.1)
  misses-are_nodes _ _ are = elim are [ ]
