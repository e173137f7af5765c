use Rattle.std.proofs.Common.{sym, refl, subst, arith}
use Rattle.turnstile.specs.Passes.{view}
use Rattle.definitions.specs.Words.{Extent}
use Rattle.versions.specs.Versions.{IsEdit}
use Rattle.script_reader.specs.declared.command.Command.TheVariants.{Edit}
use Rattle.book.specs.Play.{Editing}
use Rattle.session.proofs.ServingLaws.{adds-units, can-step, after-edit}
use Rattle.session.proofs.serve.serve_edit.Goals as goal

pub edit-requires-clause-steps : goal.edit-requires-clause-steps
edit-requires-clause-steps g c =
    let was = c.requires.served in
    can-step c.args.script.now (view c.args.pass.now) was.0 was.1 was.2 c.shape-shape.ensures.script (Edit c.args.edit.now) was.3

pub edit-requires-clause-free : goal.edit-requires-clause-free
edit-requires-clause-free g c = c.requires.served.2.served.free

pub edit-requires-clause-edit : goal.edit-requires-clause-edit
edit-requires-clause-edit g c = subst (λ (e : Extent). IsEdit e c.args.edit.now) (sym c.requires.served.2.served.extent) c.requires.edit

pub returns-clause-served : goal.returns-clause-served
returns-clause-served g c taken answers serving next =
    let did = c.in_ok-edit.ensures.adds in
    after-edit c.args.script.now (view c.args.pass.now) taken answers serving (view c.edit.new.pass) did.0 c.args.edit.now c.in_ok-edit.field-0 c.shape-shape.ensures.script next did.1 did.2

pub returns-clause-units : goal.returns-clause-units
returns-clause-units g c =
    let was = c.requires.served in
    let did = c.in_ok-edit.ensures.adds in
    let can = can-step c.args.script.now (view c.args.pass.now) was.0 was.1 was.2 c.shape-shape.ensures.script (Edit c.args.edit.now) was.3 in
    omega (arith, adds-units (view c.args.pass.now) (view c.edit.new.pass) did.0 (Editing (view c.args.pass.now).label c.args.edit.now) can refl did.1)
