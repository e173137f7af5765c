use Rattle.std.proofs.Common.{◌≡◌, ◌+◌, ◌≤◌, subst, OnOk, IfOk}
use Rattle.versions.specs.Versions.{LogValue}
use Rattle.book.specs.Books.{held}
use Rattle.book.specs.Looks.{IsPlanned, look_visits}
use Rattle.book.proofs.planning.planned_look.Goals as goal

pub returns-in_default-clause-planned : goal.returns-in_default-clause-planned
returns-in_default-clause-planned g c pending =
    subst (λ (log : LogValue). IfOk c.planned_at.result (IsPlanned log.extent (record { edits = log.edits; pairs = held c.args.cache.now.entries; pending = pending }) c.args.q.now))
    c.log-log.ensures (c.planned_at.ensures.planned pending)

pub returns-in_default-clause-ticks : goal.returns-in_default-clause-ticks
returns-in_default-clause-ticks g c pending =
    subst (λ (log : LogValue). OnOk c.planned_at.result (c.planned_at.new.steps ≡ c.args.steps.now + look_visits (record { edits = log.edits; pairs = held c.args.cache.now.entries; pending = pending }) c.args.q.now))
    c.log-log.ensures (c.planned_at.ensures.ticks pending)

pub returns-in_default-clause-at_most : goal.returns-in_default-clause-at_most
returns-in_default-clause-at_most g c pending =
    subst (λ (log : LogValue). (c.args.steps.now ≤ c.planned_at.new.steps) × (c.planned_at.new.steps ≤ c.args.steps.now + look_visits (record { edits = log.edits; pairs = held c.args.cache.now.entries; pending = pending }) c.args.q.now))
    c.log-log.ensures (c.planned_at.ensures.at_most pending)

pub returns-clause-planned : goal.returns-clause-planned
returns-clause-planned g c pending =
    subst (λ (log : LogValue). IfOk c.planned_at-2.result (IsPlanned log.extent (record { edits = log.edits; pairs = held c.args.cache.now.entries; pending = pending }) c.args.q.now))
    c.log-log.ensures (c.planned_at-2.ensures.planned pending)

pub returns-clause-ticks : goal.returns-clause-ticks
returns-clause-ticks g c pending =
    subst (λ (log : LogValue). OnOk c.planned_at-2.result (c.planned_at-2.new.steps ≡ c.args.steps.now + look_visits (record { edits = log.edits; pairs = held c.args.cache.now.entries; pending = pending }) c.args.q.now))
    c.log-log.ensures (c.planned_at-2.ensures.ticks pending)

pub returns-clause-at_most : goal.returns-clause-at_most
returns-clause-at_most g c pending =
    subst (λ (log : LogValue). (c.args.steps.now ≤ c.planned_at-2.new.steps) × (c.planned_at-2.new.steps ≤ c.args.steps.now + look_visits (record { edits = log.edits; pairs = held c.args.cache.now.entries; pending = pending }) c.args.q.now))
    c.log-log.ensures (c.planned_at-2.ensures.at_most pending)
