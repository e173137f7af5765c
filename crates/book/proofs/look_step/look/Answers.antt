use Rattle.std.proofs.Common.{◌≡◌, ◌∙◌, ℕ, ◌-◌, ◌^◌, ◌≤◌, ◌++◌, ◌∷◌, [], sym, ap, subst, arith, length, List, Some, map, set}
use Rattle.std.specs.Prelude.{All, unwrap_or, min, sum_by}
use Rattle.std.proofs.lemmas.List.Elements.{All-set}
use Rattle.definitions.specs.Words.{Extent}
use Rattle.definitions.specs.Signature.{limit}
use Rattle.solve.specs.Plans.{IsValid, node_of, hits_of, all_missed, exps_of, total_weight}
use Rattle.solve.specs.Works.{WorkValue}
use Rattle.solve.specs.declared.plan.Plan.{Plan}
use Rattle.versions.specs.Versions.{LogValue}
use Rattle.book.specs.declared.step.LookReply.{LookReply}
use Rattle.book.specs.declared.step.LookReply.TheVariants.{Found}
use Rattle.book.specs.declared.step.Step.{Step}
use Rattle.book.specs.declared.step.Step.TheVariants.{Looked}
use Rattle.book.specs.Play.{look_refusal, pending_look, pending_with, looked_version}
use Rattle.book.specs.Books.{held, IsPendingOr}
use Rattle.book.proofs.LookLaws.{unrefused, refused-never_found}
use Rattle.book.proofs.LookingLaws.{looked_state, IsAnswered, planned-answered, planned-refused, valid, fits, work-of, found-reply, missed-nodes, missed-pending, hits-in_front, after-refused, state-answered, reply-refused}
use Rattle.book.proofs.look_step.look.Given as given
use Rattle.book.proofs.look_step.look.Goals as goal
use Rattle.book.proofs.look_step.look.Goals.{In-Refused, In-Plans}

pub returns-in_err-reply-clause-at_most : goal.returns-in_err-reply-clause-at_most
returns-in_err-reply-clause-at_most g c = c.in_err-reply.ensures.at_most c.args.pending.now.items

pub returns-in_err-missed-clause-at_most : goal.returns-in_err-missed-clause-at_most
returns-in_err-missed-clause-at_most g c = c.in_ok-reply.ensures.at_most c.args.pending.now.items

-- ---- a refused look
refusal : (g : given.Over) (c : In-Refused g) → look_refusal c.args.stream.now.edits c.args.q ≡ Some c.in-Refused.reply
refusal g c =
    let state = looked_state c.args.stream.now.edits c.args.cache.now.entries c.args.pending.now.items in
    planned-refused c.args.stream.now.extent state c.args.q c.in_ok-reply.field-0 c.in-Refused.reply c.in-Refused.is (c.in_ok-reply.ensures.planned state.pending)

pub refused-requires : goal.refused-requires
refused-requires g c = refused-never_found c.args.stream.now.edits c.args.q c.in-Refused.reply (refusal g (goal.at.refused-requires g c).In-Refused)

pub returns-in-Refused-clause-look : goal.returns-in-Refused-clause-look
returns-in-Refused-clause-look g c =
    let state = looked_state c.args.stream.now.edits c.args.cache.now.entries c.args.pending.now.items in
    c.refused.ensures c.args.stream.now.extent state c.args.q (refusal g (goal.at.returns-in-Refused-clause-look g c).In-Refused)

pub returns-in-Refused-clause-state : goal.returns-in-Refused-clause-state
returns-in-Refused-clause-state g c =
    let state = looked_state c.args.stream.now.edits c.args.cache.now.entries c.args.pending.now.items in
    sym (after-refused c.args.session c.args.q state c.in-Refused.reply (refusal g (goal.at.returns-in-Refused-clause-state g c).In-Refused))

pub returns-in-Refused-clause-history : goal.returns-in-Refused-clause-history
returns-in-Refused-clause-history g c =
    let state = looked_state c.args.stream.now.edits c.args.cache.now.entries c.args.pending.now.items in
    c.push_reserved.ensures.items ∙ ap (λ (items : List Step). items ++ Looked c.args.session c.args.q c.in-Refused.reply ∷ []) c.in_ok-reserve.ensures.items
    ∙ ap (λ (reply : LookReply). c.args.history.now.items ++ Looked c.args.session c.args.q reply ∷ [])
    (sym (reply-refused state c.args.q c.in-Refused.reply (refusal g (goal.at.returns-in-Refused-clause-history g c).In-Refused)))

pub returns-in-Refused-clause-at_most : goal.returns-in-Refused-clause-at_most
returns-in-Refused-clause-at_most g c = c.in_ok-reply.ensures.at_most c.args.pending.now.items

-- ---- a look that isn't refused
answered : (g : given.Over) (c : In-Plans g)
    → IsAnswered c.args.stream.now.extent (looked_state c.args.stream.now.edits c.args.cache.now.entries c.args.pending.now.items) c.args.q c.in-Plans.plans.items
answered g c =
    let state = looked_state c.args.stream.now.edits c.args.cache.now.entries c.args.pending.now.items in
    planned-answered c.args.stream.now.extent state c.args.q c.in_ok-reply.field-0 c.in-Plans.plans c.in-Plans.is (c.in_ok-reply.ensures.planned state.pending)
    c.requires.query c.requires.allowed c.in_ok-reply.ensures.rows

pub bring_hits-requires-clause-version : goal.bring_hits-requires-clause-version
bring_hits-requires-clause-version g c =
    let is = answered g (goal.at.bring_hits-requires-clause-version g c).In-Plans in
    let version : c.unwrap_or-version.result ≡ looked_version c.args.stream.now.edits c.args.q = c.unwrap_or-version.ensures ∙ ap (unwrap_or c.args.q.version) c.version.ensures in
    omega (arith, version, (unrefused c.args.stream.now.edits c.args.q is.unrefused).0, ap (λ (log : LogValue). length log.edits) c.log-log.ensures)

pub work_of-work-requires-clause-valid : goal.work_of-work-requires-clause-valid
work_of-work-requires-clause-valid g c =
    let state = looked_state c.args.stream.now.edits c.args.cache.now.entries c.args.pending.now.items in
    subst (λ (extent : Extent). All (IsValid extent) c.in-Plans.plans.items) (sym (c.shape.ensures.value ∙ ap (λ (log : LogValue). log.extent) c.log-log.ensures))
    (valid c.args.stream.now.extent state c.args.q c.in-Plans.plans.items (answered g (goal.at.work_of-work-requires-clause-valid g c).In-Plans))

pub work_of-work-requires-clause-fits : goal.work_of-work-requires-clause-fits
work_of-work-requires-clause-fits g c =
    let state = looked_state c.args.stream.now.edits c.args.cache.now.entries c.args.pending.now.items in
    subst (λ (extent : Extent). total_weight c.in-Plans.plans.items ^ extent.depth ≤ limit) (sym (c.shape.ensures.value ∙ ap (λ (log : LogValue). log.extent) c.log-log.ensures))
    (fits c.args.stream.now.extent state c.args.q c.in-Plans.plans.items (answered g (goal.at.work_of-work-requires-clause-fits g c).In-Plans))

-- ---- what it leaves
version : (g : given.Over) (c : goal.After-push_reserved-2 g) → c.unwrap_or-version.result ≡ looked_version c.args.stream.now.edits c.args.q
version g c = c.unwrap_or-version.ensures ∙ ap (unwrap_or c.args.q.version) c.version.ensures

work : (g : given.Over) (c : goal.After-push_reserved-2 g)
    → c.work_of-work.result ≡ record { extent = c.args.stream.now.extent; version = looked_version c.args.stream.now.edits c.args.q; plans = c.in-Plans.plans.items }
work g c =
    let of : Extent → ℕ → WorkValue = λ extent n. record { extent = extent; version = n; plans = c.in-Plans.plans.items } in
    c.work_of-work.ensures ∙ ap (λ (extent : Extent). of extent c.unwrap_or-version.result) (c.shape.ensures.value ∙ ap (λ (log : LogValue). log.extent) c.log-log.ensures)
    ∙ ap (of c.args.stream.now.extent) (version g c)

missed : (g : given.Over) (c : goal.After-push_reserved-2 g) → c.in_ok-missed.missed.items ≡ map node_of (all_missed c.in-Plans.plans.items)
missed g c = c.in_ok-missed.ensures ∙ ap (λ (plans : List Plan). map node_of (all_missed plans)) c.deref.ensures.value

pending : (g : given.Over) (c : goal.After-push_reserved-2 g) → c.pending_of.result ≡ pending_look (looked_version c.args.stream.now.edits c.args.q) c.in_ok-missed.missed.items
pending g c = c.pending_of.ensures ∙ ap (λ (n : ℕ). pending_look n c.in_ok-missed.missed.items) (version g c)

pub returns-clause-look : goal.returns-clause-look
returns-clause-look g c =
    let state = looked_state c.args.stream.now.edits c.args.cache.now.entries c.args.pending.now.items in
    let is = answered g (goal.at.returns-clause-look g c).In-Plans in
    (is.unrefused, work-of c.args.stream.now.extent state c.args.q c.in-Plans.plans.items is c.work_of-work.result (work g c))

pub returns-clause-state : goal.returns-clause-state
returns-clause-state g c =
    let extent = c.args.stream.now.extent in let edits = c.args.stream.now.edits in let q = c.args.q in let plans = c.in-Plans.plans.items in
    let before = c.args.cache.now.entries in let after = c.bring_hits.new.cache.entries in let looks = c.args.pending.now.items in
    let is = answered g (goal.at.returns-clause-state g c).In-Plans in
    state-answered c.args.session q (looked_state edits before looks) (held after) (set looks (c.args.session - 1) c.pending_of.result) c.in_ok-missed.missed.items is.unrefused
    (hits-in_front extent edits before after looks q plans is c.log-log.result.now c.unwrap_or-version.result c.deref-2.result.now c.log-log.ensures (version g c) c.deref-2.ensures.value c.bring_hits.ensures.pairs)
    (missed-nodes extent (looked_state edits before looks) q plans is c.in_ok-missed.missed.items (missed g c)) (ap (λ look. pending_with c.args.session look looks) (pending g c))

pub returns-clause-history : goal.returns-clause-history
returns-clause-history g c =
    let state = looked_state c.args.stream.now.edits c.args.cache.now.entries c.args.pending.now.items in
    let hits = c.hits.ensures ∙ ap (λ (w : WorkValue). min (sum_by hits_of w.plans) (2 ^ 64 - 1)) (work g c) in
    let misses = c.misses.ensures ∙ ap (λ (w : WorkValue). min (length (all_missed w.plans)) (2 ^ 64 - 1)) (work g c) in
    let exps = c.exps.ensures ∙ ap (λ (w : WorkValue). min (sum_by exps_of w.plans) (2 ^ 64 - 1)) (work g c) in
    let is = answered g (goal.at.returns-clause-history g c).In-Plans in
    c.push_reserved-2.ensures.items
    ∙ ap (λ (items : List Step). items ++ Looked c.args.session c.args.q (Found c.unwrap_or-version.result c.hits.result c.misses.result c.exps.result) ∷ []) c.in_ok-reserve.ensures.items
    ∙ ap (λ (n : ℕ). c.args.history.now.items ++ Looked c.args.session c.args.q (Found n c.hits.result c.misses.result c.exps.result) ∷ []) (version g c)
    ∙ ap (λ (reply : LookReply). c.args.history.now.items ++ Looked c.args.session c.args.q reply ∷ [])
    (found-reply c.args.stream.now.extent state c.args.q c.in-Plans.plans.items is c.hits.result c.misses.result c.exps.result hits misses exps)

pub returns-clause-looks : goal.returns-clause-looks
returns-clause-looks g c =
    let state = looked_state c.args.stream.now.edits c.args.cache.now.entries c.args.pending.now.items in
    let is = answered g (goal.at.returns-clause-looks g c).In-Plans in
    All-set (IsPendingOr state.edits) state.pending (c.args.session - 1) c.pending_of.result
    (subst (IsPendingOr state.edits) (sym (pending g c)) (missed-pending c.args.stream.now.extent state c.args.q c.in-Plans.plans.items is c.in_ok-missed.missed.items (missed g c)))
    c.requires.looks

pub returns-clause-ticks : goal.returns-clause-ticks
returns-clause-ticks g c = c.in_ok-reply.ensures.ticks c.args.pending.now.items

pub returns-clause-at_most : goal.returns-clause-at_most
returns-clause-at_most g c = c.in_ok-reply.ensures.at_most c.args.pending.now.items
