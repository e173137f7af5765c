use Rattle.std.proofs.Common.{◌∙◌, ap, ap₂, sym, subst, List}
use Rattle.std.specs.Prelude.{map}
use Rattle.std.proofs.lemmas.List.{take_all}
use Rattle.definitions.specs.Words.{Extent}
use Rattle.versions.specs.declared.log.Accepted.{Accepted}
use Rattle.versions.specs.Versions.{LogValue, IsLog}
use Rattle.book.specs.Play.{State, session_of}
use Rattle.session.proofs.orders.outcome_of.Goals as goal

abbrev log_with : Extent → List Accepted → LogValue
log_with extent edits = record { extent = extent; edits = edits }

pub returns-clause-outcome : goal.returns-clause-outcome
returns-clause-outcome c = record {
  transcripts = c.requires.shows;
  order =
      c.loop-taken.invariant
      ∙ ap (map session_of) (take_all c.loop-taken.taken-index c.history-taken-items.result.now c.loop-taken-test.false)
      ∙ ap (map session_of) c.history-taken-items.ensures;
  edits = c.into_edits-edits.ensures.value ∙ ap (λ (state : State). state.edits) (sym c.requires.state);
}

pub returns-clause-order : goal.returns-clause-order
returns-clause-order c =
    c.loop-taken.invariant
    ∙ ap (map session_of) (take_all c.loop-taken.taken-index c.history-taken-items.result.now c.loop-taken-test.false)
    ∙ ap (map session_of) c.history-taken-items.ensures

pub returns-clause-log : goal.returns-clause-log
returns-clause-log c = subst IsLog (ap₂ log_with c.requires.extent (sym c.into_edits-edits.ensures.value)) c.into_edits-edits.ensures.log

pub returns-clause-members : goal.returns-clause-members
returns-clause-members c = c.requires.members
