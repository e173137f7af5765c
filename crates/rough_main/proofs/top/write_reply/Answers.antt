use Rattle.std.proofs.Common.{◌∙◌, ℕ, List, Err, Result, sym, ap, subst}
use Rattle.std.specs.Io.KnownBytes.{Appends}
use Rattle.rough_io.specs.Transfers.{AddsPrefix}
use Rattle.rough_io.specs.declared.source.ReceiveFault.{ReceiveFault}
use Rattle.rough_main.specs.declared.reply.Reply.{Reply}
use Rattle.rough_main.specs.Calls.{Port, IsCall}
use Rattle.rough_main.specs.Made.{IsMade}
use Rattle.rough_main.proofs.CallLaws.{call-read_failed, call-without_memory, call-written, call-write_failed}
use Rattle.rough_main.proofs.top.write_reply.Goals as goal

pub returns-in-Ok-send-clause-call : goal.returns-in-Ok-send-clause-call
returns-in-Ok-send-clause-call g c = λ wish order source taken made.
    let before : Port = record { told = g.O.Sink.written c.args.sink.now; faults = g.O.Sink.faults c.args.sink.now } in
    let after : Port = record { told = g.O.Sink.written c.send.new.sink; faults = g.O.Sink.faults c.send.new.sink } in
    subst (λ (status : ℕ). IsCall wish order status source taken before after) (sym c.code-in-Ok-send.ensures)
    (call-written wish order c.in-Ok.reply source taken before after
    (subst (λ (m : Result Reply ReceiveFault). IsMade wish order m source taken) c.in-Ok.is made)
    (subst (λ (xs : List ℕ). Appends (g.O.Sink.written c.args.sink.now) (g.O.Sink.written c.send.new.sink) xs) c.deref.ensures.value c.in-Ok-send.ensures.all) c.in-Ok-send.ensures.cause)

pub returns-clause-call : goal.returns-clause-call
returns-clause-call g c = λ wish order source taken made.
    let before : Port = record { told = g.O.Sink.written c.args.sink.now; faults = g.O.Sink.faults c.args.sink.now } in
    let after : Port = record { told = g.O.Sink.written c.send.new.sink; faults = g.O.Sink.faults c.send.new.sink } in
    subst (λ (status : ℕ). IsCall wish order status source taken before after) (sym c.code-in-Err.ensures)
    (call-write_failed wish order c.in-Ok.reply source taken before after
    (subst (λ (m : Result Reply ReceiveFault). IsMade wish order m source taken) c.in-Ok.is made)
    (subst (λ (xs : List ℕ). AddsPrefix xs (g.O.Sink.written c.args.sink.now) (g.O.Sink.written c.send.new.sink)) c.deref.ensures.value c.in-Err.ensures.prefix) c.in-Err.ensures.cause)

pub returns-in-Err-Failed-clause-call : goal.returns-in-Err-Failed-clause-call
returns-in-Err-Failed-clause-call g c = λ wish order source taken made.
    let before : Port = record { told = g.O.Sink.written c.args.sink.now; faults = g.O.Sink.faults c.args.sink.now } in
    subst (λ (status : ℕ). IsCall wish order status source taken before before) (sym c.code.ensures)
    (call-read_failed wish order source taken before
    (subst (λ (m : Result Reply ReceiveFault). IsMade wish order m source taken) (c.in-Err-Failed.is ∙ ap (λ (f : ReceiveFault). Err f) (rw c.in-Err-Failed.is at c.in-Err-Failed.field-0-is)) made))

pub returns-in-Err-Memory-clause-call : goal.returns-in-Err-Memory-clause-call
returns-in-Err-Memory-clause-call g c = λ wish order source taken made.
    let before : Port = record { told = g.O.Sink.written c.args.sink.now; faults = g.O.Sink.faults c.args.sink.now } in
    subst (λ (status : ℕ). IsCall wish order status source taken before before) (sym c.code-in-Err-Memory.ensures)
    (call-without_memory wish order source taken before
    (subst (λ (m : Result Reply ReceiveFault). IsMade wish order m source taken) (c.in-Err-Memory.is ∙ ap (λ (f : ReceiveFault). Err f) (rw c.in-Err-Memory.is at c.in-Err-Memory.field-0-is)) made))
