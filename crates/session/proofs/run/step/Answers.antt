use Rattle.std.proofs.Common.{◌≡◌, ◌∙◌, ◌+◌, ◌-◌, ◌≤◌, refl, sym, ap, subst, arith, [], ◌∷◌, Option, Some, OnOk}
use Rattle.std.specs.Prelude.{slice_index_or}
use Rattle.std.proofs.lemmas.Result.{on_ok_weaker}
use Rattle.definitions.specs.Words.{Extent}
use Rattle.versions.specs.Versions.{IsEdit}
use Rattle.script_reader.specs.Script.{IsAsk}
use Rattle.script_reader.specs.declared.command.Command.TheVariants.{Edit, Ask}
use Rattle.book.specs.Play.{Request, Editing, Looking, Settling}
use Rattle.book.specs.Books.{BookValue, state_of}
use Rattle.session.specs.declared.asked.Asked.{Asked}
use Rattle.session.specs.Play.{next_request, of_session, asked_by, query_for, looked}
use Rattle.session.specs.Runs.{IsAfter, order_of, run_of, units_of}
use Rattle.session.proofs.RunLaws.{order-push}
use Rattle.session.proofs.ReadyLaws.{is_ready, has_places, is_pending_solved, next-settles, next-commands, next-dues, is_command, read-command, run-after}
use Rattle.session.proofs.run.step.Given as given
use Rattle.session.proofs.run.step.Goals as goal
use Rattle.session.proofs.run.step.Goals.{In-Edit, In-Ask, Then-pending}

pub pending-requires : goal.pending-requires
pending-requires g c = (is_ready c.args.script.now c.args.run.now c.args.session c.sessions-sessions.ensures.script c.requires.run c.requires.next.has).of_book

-- ---- a settle
pub settle_step-requires-clause-ready : goal.settle_step-requires-clause-ready
settle_step-requires-clause-ready g c = is_ready c.args.script.now c.args.run.now c.args.session c.sessions-sessions.ensures.script c.requires.run c.requires.next.has

pub settle_step-requires-clause-places : goal.settle_step-requires-clause-places
settle_step-requires-clause-places g c = has_places c.args.script.now c.args.run.now c.args.session c.sessions-sessions.ensures.script c.requires.run c.requires.next.has

pub settle_step-requires-clause-settled : goal.settle_step-requires-clause-settled
settle_step-requires-clause-settled g c =
    is_pending_solved c.args.script.now c.args.run.now c.args.session c.sessions-sessions.ensures.script c.requires.run c.requires.next.has (sym c.pending.ensures ∙ c.if-pending.true)

settles : (g : given.Over) (c : Then-pending g) → next_request c.args.script.now.extent c.args.session (run_of c.args.script.now c.args.run.now.book) ≡ Some (Settling c.args.session)
settles g c = next-settles c.args.script.now c.args.run.now c.args.session c.sessions-sessions.ensures.script c.requires.run c.requires.next.has (sym c.pending.ensures ∙ c.if-pending.true)

pub returns-then-pending-clause-run : goal.returns-then-pending-clause-run
returns-then-pending-clause-run g c =
    on_ok_weaker c.settle_step.result
    (run-after c.args.script.now c.args.run.now c.args.session c.sessions-sessions.ensures.script c.requires.run c.requires.next.has c.args.run.now.book.extent (Settling c.args.session) [] c.settle_step.new.run
    c.requires.run.extent refl (settles g (goal.at.returns-then-pending-clause-run g c).Then-pending) refl)
    c.settle_step.ensures

pub returns-then-pending-clause-ticks : goal.returns-then-pending-clause-ticks
returns-then-pending-clause-ticks g c =
    let none = ap (units_of (state_of c.args.run.now.book)) (settles g (goal.at.returns-then-pending-clause-ticks g c).Then-pending) in
    on_ok_weaker c.settle_step.result (λ _. omega (arith, none)) c.settle_step.ensures

-- ---- an edit
edit-at : (g : given.Over) (c : In-Edit g)
    → Edit c.in-Edit.edit ≡ slice_index_or (of_session c.args.session c.args.script.now.sessions) (slice_index_or c.args.run.now.taken.items (c.args.session - 1) 0) (Edit c.in-Edit.edit)
edit-at g c =
    read-command c.args.script.now c.args.run.now c.args.session c.sessions-sessions.ensures.script c.requires.run c.requires.next.has
    c.sessions-sessions.result.now c.index-sessions-at.result c.list-commands.result.now c.index-next.result.now c.index-commands-next.result (Edit c.in-Edit.edit) (sym c.pending.ensures ∙ c.if-pending.false)
    c.sessions-sessions.ensures.value c.index-sessions-at.is c.list-commands.ensures c.index-next.ensures c.index-commands-next.is c.in-Edit.is

edits : (g : given.Over) (c : In-Edit g) → next_request c.args.script.now.extent c.args.session (run_of c.args.script.now c.args.run.now.book) ≡ Some (Editing c.args.session c.in-Edit.edit)
edits g c =
    next-commands c.args.script.now c.args.run.now c.args.session c.sessions-sessions.ensures.script c.requires.run c.requires.next.has (Edit c.in-Edit.edit)
    (sym c.pending.ensures ∙ c.if-pending.false) (edit-at g c)

pub edit_step-requires-clause-edit : goal.edit_step-requires-clause-edit
edit_step-requires-clause-edit g c =
    subst (λ (e : Extent). IsEdit e c.in-Edit.edit) (sym c.requires.run.extent)
    (is_command c.args.script.now c.args.run.now c.args.session c.sessions-sessions.ensures.script c.requires.run c.requires.next.has (Edit c.in-Edit.edit)
    (sym c.pending.ensures ∙ c.if-pending.false) (edit-at g (goal.at.edit_step-requires-clause-edit g c).In-Edit))

pub returns-in-Edit-clause-run : goal.returns-in-Edit-clause-run
returns-in-Edit-clause-run g c =
    on_ok_weaker c.edit_step.result
    (run-after c.args.script.now c.args.run.now c.args.session c.sessions-sessions.ensures.script c.requires.run c.requires.next.has c.args.run.now.book.extent (Editing c.args.session c.in-Edit.edit) _
    c.edit_step.new.run c.requires.run.extent refl (edits g (goal.at.returns-in-Edit-clause-run g c).In-Edit)
    (next-dues c.args.script.now c.args.run.now c.args.session c.sessions-sessions.ensures.script c.requires.run c.requires.next.has (Edit c.in-Edit.edit) (Editing c.args.session c.in-Edit.edit)
    (sym c.pending.ensures ∙ c.if-pending.false) (edit-at g (goal.at.returns-in-Edit-clause-run g c).In-Edit) refl))
    c.edit_step.ensures

pub returns-in-Edit-clause-ticks : goal.returns-in-Edit-clause-ticks
returns-in-Edit-clause-ticks g c =
    let none = ap (units_of (state_of c.args.run.now.book)) (edits g (goal.at.returns-in-Edit-clause-ticks g c).In-Edit) in
    on_ok_weaker c.edit_step.result (λ _. omega (arith, none)) c.edit_step.ensures

-- ---- a look
ask-at : (g : given.Over) (c : In-Ask g)
    → Ask c.in-Ask.ask ≡ slice_index_or (of_session c.args.session c.args.script.now.sessions) (slice_index_or c.args.run.now.taken.items (c.args.session - 1) 0) (Ask c.in-Ask.ask)
ask-at g c =
    read-command c.args.script.now c.args.run.now c.args.session c.sessions-sessions.ensures.script c.requires.run c.requires.next.has
    c.sessions-sessions.result.now c.index-sessions-at.result c.list-commands.result.now c.index-next.result.now c.index-commands-next.result (Ask c.in-Ask.ask) (sym c.pending.ensures ∙ c.if-pending.false)
    c.sessions-sessions.ensures.value c.index-sessions-at.is c.list-commands.ensures c.index-next.ensures c.index-commands-next.is c.in-Ask.is

looks : (g : given.Over) (c : In-Ask g) (asked : Asked) → asked ≡ asked_by c.in-Ask.ask
    → next_request c.args.script.now.extent c.args.session (run_of c.args.script.now c.args.run.now.book) ≡ Some (Looking c.args.session (query_for c.args.script.now.extent asked))
looks g c asked is =
    next-commands c.args.script.now c.args.run.now c.args.session c.sessions-sessions.ensures.script c.requires.run c.requires.next.has (Ask c.in-Ask.ask)
    (sym c.pending.ensures ∙ c.if-pending.false) (ask-at g c)
    ∙ ap (λ (a : Asked). Some (Looking c.args.session (query_for c.args.script.now.extent a))) (sym is)

pub look_step-requires-clause-ask : goal.look_step-requires-clause-ask
look_step-requires-clause-ask g c κs lives =
    subst (λ (asked : Asked). IsAsk asked.ask) (sym c.asked_by.ensures)
    (is_command c.args.script.now c.args.run.now c.args.session c.sessions-sessions.ensures.script c.requires.run c.requires.next.has (Ask c.in-Ask.ask)
    (sym c.pending.ensures ∙ c.if-pending.false) (ask-at g (goal.at.look_step-requires-clause-ask g c).In-Ask))

pub returns-in-Ask-clause-run : goal.returns-in-Ask-clause-run
returns-in-Ask-clause-run g c =
    on_ok_weaker c.look_step.result
    (run-after c.args.script.now c.args.run.now c.args.session c.sessions-sessions.ensures.script c.requires.run c.requires.next.has c.args.script.now.extent
    (Looking c.args.session (query_for c.args.script.now.extent c.asked_by.result)) _ c.look_step.new.run refl refl (looks g (goal.at.returns-in-Ask-clause-run g c).In-Ask c.asked_by.result c.asked_by.ensures)
    (ap (λ (asked : Asked). looked c.args.script.now.extent (state_of c.args.run.now.book) asked.wanted (query_for c.args.script.now.extent asked) ∷ []) c.asked_by.ensures
    ∙ next-dues c.args.script.now c.args.run.now c.args.session c.sessions-sessions.ensures.script c.requires.run c.requires.next.has (Ask c.in-Ask.ask)
    (Looking c.args.session (query_for c.args.script.now.extent c.asked_by.result)) (sym c.pending.ensures ∙ c.if-pending.false) (ask-at g (goal.at.returns-in-Ask-clause-run g c).In-Ask) refl))
    (subst (λ (e : Extent). OnOk c.look_step.result (IsAfter e c.args.session (Looking c.args.session (query_for e c.asked_by.result)) (looked e (state_of c.args.run.now.book) c.asked_by.result.wanted (query_for e c.asked_by.result) ∷ []) c.args.run.now c.look_step.new.run)) c.requires.basis
    c.look_step.ensures.after)

pub returns-in-Ask-clause-order : goal.returns-in-Ask-clause-order
returns-in-Ask-clause-order g c =
    on_ok_weaker c.look_step.result
    (λ (after : IsAfter c.args.basis.now c.args.session (Looking c.args.session (query_for c.args.basis.now c.asked_by.result)) (looked c.args.basis.now (state_of c.args.run.now.book) c.asked_by.result.wanted (query_for c.args.basis.now c.asked_by.result) ∷ []) c.args.run.now c.look_step.new.run).
    ap (λ (b : BookValue). order_of b) after.book ∙ order-push c.args.run.now.book c.args.session (Looking c.args.session (query_for c.args.basis.now c.asked_by.result)) refl)
    c.look_step.ensures.after

-- the request by the script's shape
shaped : (g : given.Over) (c : In-Ask g) (asked : Asked) → asked ≡ asked_by c.in-Ask.ask → (shape : Extent) → shape ≡ c.args.script.now.extent
    → Some (Looking c.args.session (query_for shape asked)) ≡ next_request c.args.script.now.extent c.args.session (run_of c.args.script.now c.args.run.now.book)
shaped g c asked by shape is = ap (λ (e : Extent). Some (Looking c.args.session (query_for e asked))) is ∙ sym (looks g c asked by)

pub returns-in-Ask-clause-ticks : goal.returns-in-Ask-clause-ticks
returns-in-Ask-clause-ticks g c =
    subst (λ (o : Option Request). OnOk c.look_step.result (c.look_step.new.steps ≡ c.args.steps.now + units_of (state_of c.args.run.now.book) o))
    (shaped g (goal.at.returns-in-Ask-clause-ticks g c).In-Ask c.asked_by.result c.asked_by.ensures c.args.basis.now c.requires.basis) c.look_step.ensures.ticks

pub returns-in-Ask-clause-at_most : goal.returns-in-Ask-clause-at_most
returns-in-Ask-clause-at_most g c =
    subst (λ (o : Option Request). (c.args.steps.now ≤ c.look_step.new.steps) × (c.look_step.new.steps ≤ c.args.steps.now + units_of (state_of c.args.run.now.book) o))
    (shaped g (goal.at.returns-in-Ask-clause-at_most g c).In-Ask c.asked_by.result c.asked_by.ensures c.args.basis.now c.requires.basis) c.look_step.ensures.at_most
