use Rattle.std.proofs.Common.{◌+◌, sym, subst, List}
use base.Growing.{prefix_trans}
use Rattle.turnstile.specs.Passes.{view}
use Rattle.session.specs.declared.answer.Answer.{Answer}
use Rattle.session.specs.Serving.{IsServing}
use Rattle.session.proofs.ServeLaws.{still-on, next-at, units-on}
use Rattle.session.proofs.serve.serve.Goals as goal

pub serve_command-requires-clause-served : goal.serve_command-requires-clause-served
serve_command-requires-clause-served g c κs within =
    let before = c.loop-command.invariant in (
      c.loop-command.command-index,
      c.loop-command.transcript,
      before.serving,
      next-at c.args.script.now (view c.args.pass.now) (view c.loop-command.pass) before.still before.serving.session c.sessions-sessions.result.now c.label.result c.index-sessions-label.result
          c.list-commands.result.now c.loop-command.command-index c.command-item.result c.sessions-sessions.ensures.value c.label.ensures c.index-sessions-label.is c.list-commands.ensures
          c.loop-command-test.true c.command-item.is,
    )

pub loop-command-preserved : goal.loop-command-preserved
loop-command-preserved g c =
    let script = c.args.script.now in
    let v = view c.args.pass.now in
    let w = view c.loop-command.pass in
    let u = view c.serve_command.new.pass in
    let index = c.loop-command.command-index in
    let before = c.loop-command.invariant in
    let did = c.in_ok-answer.ensures in
    let next =
    next-at script v w before.still before.serving.session c.sessions-sessions.result.now c.label.result c.index-sessions-label.result c.list-commands.result.now index c.command-item.result
    c.sessions-sessions.ensures.value c.label.ensures c.index-sessions-label.is c.list-commands.ensures c.loop-command-test.true c.command-item.is
    in
    record {
      idle = did.idle;
      still = still-on v w u before.still did.still;
      serving = subst (λ (transcript : List Answer). IsServing script u (index + 1) transcript) (sym c.in_ok-push.ensures.ok) (did.served index c.loop-command.transcript before.serving next);
      kept = prefix_trans v.own w.own u.own before.kept did.kept;
      ticks = units-on v w u c.args.steps.now c.loop-command.steps c.serve_command.new.steps before.still before.ticks did.ticks;
    }
