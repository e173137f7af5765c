-- The visits of the pieces of an interval, one after another.
use Rattle.std.proofs.Common.{◌≡◌, ◌∙◌, ℕ, ◌+◌, ◌<◌, ◌≤◌, sym, ap, subst, arith, List, [], ◌∷◌, ◌++◌, length, take, get_or}
use Rattle.std.specs.Prelude.{map, sum_by}
use Rattle.std.specs.List.{AllZip}
use Rattle.std.proofs.lemmas.List.{map_more, take-map}
use Rattle.std.proofs.lemmas.List.Sums.{sum_by_push, sum_by-take-le}
use Rattle.dyadic.specs.Nodes.{NodeValue}
use Rattle.solve.specs.declared.plan.Plan.{Plan}
use Rattle.book.specs.Walks.{Visit, visits_of}

AllZip-push : (R : Visit → Plan → Type 0) (visits : List Visit) (plans : List Plan) (visit : Visit) (plan : Plan) → AllZip R visits plans → R visit plan
    → AllZip R (visits ++ visit ∷ []) (plans ++ plan ∷ [])
AllZip-push R [] [] visit plan all last = (last, tt)
AllZip-push R [] (p ∷ plans) visit plan all last = absurd all
AllZip-push R (w ∷ visits) [] visit plan all last = absurd all
AllZip-push R (w ∷ visits) (p ∷ plans) visit plan all last = (all.0, AllZip-push R visits plans visit plan all.1 last)

module _ (visit : NodeValue → Visit) (nodes : List NodeValue) (i : ℕ) (node : NodeValue) (within : i < length nodes) (at : node ≡ get_or nodes i node) where
  visits-more : map visit (take (i + 1) nodes) ≡ map visit (take i nodes) ++ visit node ∷ []
  visits-more = map_more visit nodes i node within ∙ ap (λ (n : NodeValue). map visit (take i nodes) ++ visit n ∷ []) (sym at)

  -- one plan more
  pub plans-more : (R : Visit → Plan → Type 0) (plans : List Plan) (plan : Plan) → AllZip R (map visit (take i nodes)) plans → R (visit node) plan → AllZip R (map visit (take (i + 1) nodes)) (plans ++ plan ∷ [])
  plans-more R plans plan all last = subst (λ visits. AllZip R visits (plans ++ plan ∷ [])) (sym visits-more) (AllZip-push R (map visit (take i nodes)) plans (visit node) plan all last)

  -- one node more adds its own visits
  pub count-more : sum_by visits_of (map visit (take (i + 1) nodes)) ≡ sum_by visits_of (map visit (take i nodes)) + visits_of (visit node)
  count-more = ap (sum_by visits_of) visits-more ∙ sum_by_push visits_of (map visit (take i nodes)) (visit node)

  -- so far there are no more visits than in all
  pub count-within : sum_by visits_of (map visit (take i nodes)) + visits_of (visit node) ≤ sum_by visits_of (map visit nodes)
  count-within =
      let all : map visit (take (i + 1) nodes) ≡ take (i + 1) (map visit nodes) = sym (take-map visit (i + 1) nodes) in
      omega (arith, count-more, ap (sum_by visits_of) all, sum_by-take-le visits_of (map visit nodes) (i + 1))
