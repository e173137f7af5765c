use Rattle.std.proofs.Common.{sym, subst}
use Rattle.script_reader.specs.declared.command.Command.{Command}
use Rattle.session.specs.Play.{Asks}
use Rattle.session.proofs.serve.serve_command.Goals as goal

pub returns-in-Ask-clause-served : goal.returns-in-Ask-clause-served
returns-in-Ask-clause-served g c taken answers serving next =
    c.serve_ask.ensures.served taken answers c.args.command.now serving next (subst (λ (command : Command). Asks command c.asked_by.result) (sym c.in-Ask.is) c.asked_by.ensures)
