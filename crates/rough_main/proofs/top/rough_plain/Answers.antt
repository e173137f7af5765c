use Rattle.std.proofs.Common.{subst}
use Rattle.command_line.specs.declared.wish.Wish.{Wish}
use Rattle.rough_main.specs.Calls.{IsCall}
use Rattle.rough_main.proofs.top.rough_plain.Goals as goal

pub returns-clause-call : goal.returns-clause-call
returns-clause-call g c = λ order.
    subst (λ (wish : Wish). IsCall wish order c.write_reply.result
    (record { told = g.S.Source.left c.args.source.now; faults = g.S.Source.faults c.args.source.now })
    (record { told = g.S.Source.left c.reply_plain.new.source; faults = g.S.Source.faults c.reply_plain.new.source })
    (record { told = g.O.Sink.written c.args.sink.now; faults = g.O.Sink.faults c.args.sink.now })
    (record { told = g.O.Sink.written c.write_reply.new.sink; faults = g.O.Sink.faults c.write_reply.new.sink })) c.in-Ok.ensures.wish
    (c.write_reply.ensures.call c.in-Ok.wish order _ _ (c.reply_plain.ensures order))
