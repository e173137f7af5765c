-- What a look that isn't refused gives.
use Rattle.std.proofs.Common.{◌≡◌, ◌∙◌, ℕ, ◌-◌, ◌/◌, ◌^◌, ◌<◌, ◌≤◌, refl, sym, ap, subst, arith, cond, List, [], ◌∷◌, length, inl, inr, Option, Some, None, map, Vec, Global}
use Rattle.std.specs.Prelude.{All, min, sum_by, slice_get, unwrap_or}
use Rattle.std.specs.Option.{IsSomeAnd}
use Rattle.std.proofs.Math.Nat.{div-mul-le_self, mul-le-mul_right}
use Rattle.std.proofs.lemmas.Nat.{le-div, pow_pos}
use Rattle.std.proofs.lemmas.Bool.{cases_Bool}
use Rattle.std.proofs.lemmas.Option.{slice_get_cases}
use Rattle.std.proofs.lemmas.List.Elements.{All-get_or}
use Rattle.definitions.specs.Words.{Extent}
use Rattle.definitions.specs.Rows.{rounded, moves_of}
use Rattle.definitions.specs.Signature.{weight, limit}
use Rattle.dyadic.specs.Nodes.{NodeValue, IsNode}
use Rattle.solve.specs.Plans as plans
use Rattle.solve.specs.Plans.{IsValid, total_weight, node_of, all_missed}
use Rattle.solve.specs.Works.{WorkValue, IsRefusedBy}
use Rattle.solve.specs.declared.plan.Plan.{Plan}
use Rattle.solve.specs.declared.fault.WorkFault.{WorkFault}
use Rattle.solve.specs.declared.fault.WorkFault.TheVariants.{Plan as NotValid, Overflow as Heavy}
use Rattle.versions.specs.declared.log.Accepted.{Accepted}
use Rattle.node_cache.specs.Entries.{Entry}
use Rattle.versions.specs.Versions.{LogValue, rows_at}
use Rattle.book.specs.declared.query.Query.{Query}
use Rattle.book.specs.declared.query.Allowed.{Allowed}
use Rattle.book.specs.declared.query.Allowed.TheVariants as allowed
use Rattle.book.specs.declared.step.LookReply.{LookReply}
use Rattle.book.specs.declared.step.LookReply.TheVariants.{Found, Overflow}
use Rattle.book.specs.Walks.{Pair, Visit, all_hits, all_misses, exps_of}
use Rattle.book.specs.Plans.{ArePlansOf}
use Rattle.book.specs.Play.{State, PendingLook, looked_version, looked_rows, look_refusal, look_walk, look_reply, refused_by, fits_from, found, with_hits, pending_look, pending_with, after_found, after_looking, unless_refused}
use Rattle.book.specs.declared.planning.Planned.{Planned}
use Rattle.book.specs.declared.planning.Planned.TheVariants.{Refused, Plans}
use Rattle.book.specs.Books.{IsPendingOr, held}
use Rattle.book.specs.Looks.{IsQuery, AllowsSignatures, IsWorkOf, IsPlanned}
use Rattle.book.specs.VersionRows.{AreVersionRows}
use Rattle.book.proofs.LookLaws.{unrefused}
use Rattle.book.proofs.CountLaws.{few-hits, few-misses, few-exps}
use Rattle.book.proofs.HitLaws.{AllBrought, walk-held}
use Rattle.book.proofs.MissLaws.{missed-are, hits-are, misses-are, exps-are, misses-are_nodes}
use Rattle.book.proofs.PieceLaws.{pieces_of-adjoin}
use Rattle.book.proofs.PlanLaws.{plans-each, plans-valid, plans-stand, plans-weigh}

-- the state that a look sees
abbrev pub looked_state : List Accepted → List Entry → List (Option PendingLook) → State
looked_state edits entries pending = record { edits = edits; pairs = held entries; pending = pending }

-- ---- the ends of an interval
rounded-forward : (r a b : ℕ) → a ≤ b → rounded r a ≤ rounded r b
rounded-forward r a b le =
    let step : ℕ = 2 ^ (16 - r) in
    mul-le-mul_right step (le-div (a / step) b step (pow_pos (16 - r)) (omega (arith, div-mul-le_self a step)))

-- ---- states and replies
module _ (session : ℕ) (q : Query) (state : State) where
  -- a refused look changes no state
  pub after-refused : (reply : LookReply) → look_refusal state.edits q ≡ Some reply → after_looking session q state ≡ state
  after-refused reply is = ap (λ refusal. unless_refused refusal state (after_found session q state)) is

  after-answered : look_refusal state.edits q ≡ None → after_looking session q state ≡ after_found session q state
  after-answered none = ap (λ refusal. unless_refused refusal state (after_found session q state)) none

  -- the hits go to the front, and what is missed is pending
  pub state-answered : (pairs : List Pair) (pending : List (Option PendingLook)) (nodes : List NodeValue) → look_refusal state.edits q ≡ None
      → pairs ≡ with_hits state.edits (looked_version state.edits q) (all_hits (look_walk state q)) state.pairs → nodes ≡ all_misses (look_walk state q)
      → pending ≡ pending_with session (pending_look (looked_version state.edits q) nodes) state.pending
      → record state { pairs = pairs; pending = pending } ≡ after_looking session q state
  state-answered pairs pending nodes none pairs_are nodes_are pending_is =
      ap (λ (ps : List Pair). record state { pairs = ps; pending = pending }) pairs_are
      ∙ ap (λ (ls : List (Option PendingLook)). record state { pairs = (after_found session q state).pairs; pending = ls })
      (pending_is ∙ ap (λ (ns : List NodeValue). pending_with session (pending_look (looked_version state.edits q) ns) state.pending) nodes_are)
      ∙ sym (after-answered none)

-- the reply to a refused look is its refusal
pub reply-refused : (state : State) (q : Query) (reply : LookReply) → look_refusal state.edits q ≡ Some reply → look_reply state q ≡ reply
reply-refused state q reply is = ap (λ refusal. unwrap_or refusal (found state q)) is

reply-answered : (state : State) (q : Query) → look_refusal state.edits q ≡ None → look_reply state q ≡ found state q
reply-answered state q none = ap (λ refusal. unwrap_or refusal (found state q)) none

-- ---- works
-- a weight that isn't refused fits
allowed-fits : (extent : Extent) (a : Allowed) (w : ℕ) → AllowsSignatures extent a → refused_by a w ≡ None → w ^ extent.depth ≤ limit
allowed-fits extent (allowed.Pair a b) w allows none = absurd (cc)
allowed-fits extent (allowed.Level k) w allows none = absurd (cc)
allowed-fits extent (allowed.Fits factors) w allows none =
    elim (cases_Bool (fits_from 1 factors w)) [
      | inl fits ↦ allows w fits
      | inr fails ↦ (let some : Some (Overflow w) ≡ None = sym (ap (λ t. cond t None (Some (Overflow w))) fails) ∙ none in absurd (cc))
    ]

none-breaks : {X : Type 0} (P : X → Type 0) (xs : List X) (i : ℕ) → All P xs → IsSomeAnd (slice_get xs i) (λ x. ¬ (P x)) → ⊥
none-breaks P xs i all breaks =
    elim (slice_get_cases xs i).1 [
      | inl at ↦ subst (λ o. IsSomeAnd o (λ x. ¬ (P x))) at.2 breaks (subst P at.3 (All-get_or P xs i at.0 at.1 all))
      | inr past ↦ subst (λ o. IsSomeAnd o (λ x. ¬ (P x))) past.1 breaks
    ]

-- valid plans whose weight fits aren't refused
pub not_refused : (extent : Extent) (ps : List Plan) (fault : WorkFault) → All (IsValid extent) ps → total_weight ps ^ extent.depth ≤ limit → IsRefusedBy extent ps fault → ⊥
not_refused extent ps (NotValid at) valid fits is = none-breaks (IsValid extent) ps at valid is.1
not_refused extent ps (Heavy w) valid fits is = omega (arith, fits, subst (λ (n : ℕ). limit < n ^ extent.depth) is.1 is.2)

-- ---- what a look gives that isn't refused
-- the plans of such a look
pub record IsAnswered (extent : Extent) (state : State) (q : Query) (ps : List Plan) : Type 0 where
  -- the query has its form
  pub query : IsQuery q
  -- what it allows has a signature
  pub allows : AllowsSignatures extent q.allowed
  -- the look isn't refused
  pub unrefused : look_refusal state.edits q ≡ None
  -- the plans follow its walk
  pub are : ArePlansOf extent state.edits (looked_version state.edits q) (look_walk state q) ps
  -- the rows of its version are in order, of the extent, and few enough
  pub rows : AreVersionRows extent (rows_at state.edits (looked_version state.edits q))

-- such plans follow from what is known of the planning
pub planned-answered : (extent : Extent) (state : State) (q : Query) (planned : Planned) (plans : Vec Plan Global) → planned ≡ Plans plans → IsPlanned extent state q planned → IsQuery q
    → AllowsSignatures extent q.allowed → (looked_version state.edits q ≤ length state.edits → AreVersionRows extent (rows_at state.edits (looked_version state.edits q)))
    → IsAnswered extent state q plans.items
planned-answered extent state q planned plans is is_planned query allows rows =
    let known = subst (IsPlanned extent state q) is is_planned in
    record { query = query; allows = allows; unrefused = known.0; are = known.1; rows = rows (unrefused state.edits q known.0).0 }

-- a look whose plans are refused is refused with that reply
pub planned-refused : (extent : Extent) (state : State) (q : Query) (planned : Planned) (reply : LookReply) → planned ≡ Refused reply → IsPlanned extent state q planned
    → look_refusal state.edits q ≡ Some reply
planned-refused extent state q planned reply is is_planned = subst (IsPlanned extent state q) is is_planned

module _ (extent : Extent) (state : State) (q : Query) (ps : List Plan) (is : IsAnswered extent state q ps) where
  abbrev edits : List Accepted
  edits = state.edits

  abbrev v : ℕ
  v = looked_version state.edits q

  abbrev from : ℕ
  from = rounded q.r q.from

  abbrev to : ℕ
  to = rounded q.r q.to

  from-to : from ≤ to
  from-to = rounded-forward q.r q.from q.to is.query.forward

  to-within : to ≤ 2 ^ 32
  to-within = omega (arith, is.query.end, div-mul-le_self q.to (2 ^ (16 - q.r)))

  -- all plans are valid
  pub valid : All (IsValid extent) ps
  valid = plans-valid extent edits v state.pairs from to ps is.rows.order is.rows.moves is.are

  -- their weight fits
  pub fits : total_weight ps ^ extent.depth ≤ limit
  fits =
      let weighs : total_weight ps ≡ weight (moves_of (looked_rows edits q)) =
      plans-weigh extent edits v state.pairs from to ps is.rows.order is.rows.moves is.are (pieces_of-adjoin from to from-to to-within) in
      subst (λ (w : ℕ). w ^ extent.depth ≤ limit) (sym weighs)
      (allowed-fits extent q.allowed (weight (moves_of (looked_rows edits q))) is.allows (unrefused edits q is.unrefused).1)

  -- the work of these plans is that of the query
  pub work-of : (given : WorkValue) → given ≡ record { extent = extent; version = v; plans = ps } → IsWorkOf extent state q given
  work-of given is_it =
      subst (IsWorkOf extent state q) (sym is_it)
      (record {
        extent_is = refl;
        version_is = refl;
        plans = is.are;
        each = plans-each extent edits v state.pairs from to ps is.rows.order is.rows.moves is.are;
        whole = plans-stand extent edits v state.pairs from to ps is.rows.order is.rows.moves is.are (pieces_of-adjoin from to from-to to-within);
      })

  -- the counts fit
  pub found-reply : (hits misses exps : ℕ) → hits ≡ min (sum_by plans.hits_of ps) (2 ^ 64 - 1) → misses ≡ min (length (all_missed ps)) (2 ^ 64 - 1)
      → exps ≡ min (sum_by plans.exps_of ps) (2 ^ 64 - 1) → Found v hits misses exps ≡ look_reply state q
  found-reply hits misses exps hits_is misses_is exps_is =
      let visits : List Visit = look_walk state q in
      let hits_are : hits ≡ length (all_hits visits) = omega (arith, hits_is, hits-are extent edits v visits ps is.are, few-hits edits v state.pairs from to) in
      let misses_are : misses ≡ length (all_misses visits) = omega (arith, misses_is, misses-are extent edits v visits ps is.are, few-misses edits v state.pairs from to) in
      let exps_are : exps ≡ sum_by exps_of visits =
      omega (arith, exps_is, exps-are extent edits v visits ps is.are, few-exps edits v state.pairs from to is.rows.order from-to to-within is.rows.few) in
      ap (λ (n : ℕ). Found v n misses exps) hits_are ∙ ap (λ (n : ℕ). Found v (length (all_hits visits)) n exps) misses_are
      ∙ ap (λ (n : ℕ). Found v (length (all_hits visits)) (length (all_misses visits)) n) exps_are
      ∙ sym (reply-answered state q is.unrefused)

  -- what is missed
  pub missed-nodes : (nodes : List NodeValue) → nodes ≡ map node_of (all_missed ps) → nodes ≡ all_misses (look_walk state q)
  missed-nodes nodes are = are ∙ missed-are extent edits v (look_walk state q) ps is.are

  -- the look that waits is of a version that there is, and of nodes
  pub missed-pending : (nodes : List NodeValue) → nodes ≡ map node_of (all_missed ps) → IsPendingOr edits (pending_look v nodes)
  missed-pending nodes are = pending-of nodes (subst (All IsNode) (sym (missed-nodes nodes are)) (misses-are_nodes extent edits v (look_walk state q) ps is.are))
    where
      pending-of : (nodes : List NodeValue) → All IsNode nodes → IsPendingOr edits (pending_look v nodes)
      pending-of [] all = tt
      pending-of (node ∷ nodes) all = record { version = (unrefused edits q is.unrefused).0; nodes = all }

-- the hits of the plans go to the front
pub hits-in_front : (extent : Extent) (edits : List Accepted) (before after : List Entry) (pending : List (Option PendingLook)) (q : Query) (ps : List Plan)
    → IsAnswered extent (looked_state edits before pending) q ps
    → (log : LogValue) (version : ℕ) (plans : List Plan) → log ≡ record { extent = extent; edits = edits } → version ≡ looked_version edits q → plans ≡ ps
    → AllBrought log.extent log.edits version plans before after
    → held after ≡ with_hits edits (looked_version edits q) (all_hits (look_walk (looked_state edits before pending) q)) (held before)
hits-in_front extent edits before after pending q ps is log version plans log_is version_is plans_are brought =
    let v : ℕ = looked_version edits q in
    let of_log : AllBrought extent edits version plans before after = subst (λ (log : LogValue). AllBrought log.extent log.edits version plans before after) log_is brought in
    let of_version : AllBrought extent edits v plans before after = subst (λ (n : ℕ). AllBrought extent edits n plans before after) version_is of_log in
    let of_plans : AllBrought extent edits v ps before after = subst (λ (plans : List Plan). AllBrought extent edits v plans before after) plans_are of_version in
    of_plans (look_walk (looked_state edits before pending) q) is.are (walk-held edits v before (rounded q.r q.from) (rounded q.r q.to))
