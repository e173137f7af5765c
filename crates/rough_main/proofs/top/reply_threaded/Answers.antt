use Rattle.std.proofs.Common.{◌≡◌, ℕ, List, [], Result, sym, ap, subst}
use Rattle.command_line.specs.declared.wish.Wish.{Wish}
use Rattle.script_reader.specs.declared.fault.ScriptFault.{ScriptFault}
use Rattle.script_reader.specs.Script.{ScriptValue, parse}
use Rattle.session.specs.Logarithms.{LogarithmsExpand}
use Rattle.session.specs.Versions.{VersionsNeverFall}
use Rattle.rough_main.specs.Statuses.{code_of}
use Rattle.rough_main.specs.declared.reply.Reply.{Reply}
use Rattle.rough_main.specs.Due.{IsReply, IsLegalFor, script_reply, due_reply, capacity_of, reads_script}
use Rattle.rough_main.specs.Calls.{Port}
use Rattle.rough_main.specs.Made.{IsReceived}
use Rattle.rough_main.proofs.CallLaws.{threaded-is_read, decided-parse, made-read, made-short, script-lawful}
use Rattle.rough_main.proofs.top.reply_threaded.Goals as goal

pub returns-in-Ok : goal.returns-in-Ok
returns-in-Ok g c =
    let wish : Wish = c.args.wish.now in
    let reply : Reply = c.in-Ok.reply in
    let source : Port = record { told = g.S.Source.left c.args.source.now; faults = g.S.Source.faults c.args.source.now } in
    let taken : Port = record { told = g.S.Source.left c.read_source.new.source; faults = g.S.Source.faults c.read_source.new.source } in
    let received : List ℕ = c.in_ok-bytes.bytes.items in
    let receipt : IsReceived received source taken = c.in_ok-bytes.ensures.received in
    let same : c.deref.result.now ≡ received = c.deref.ensures.value in
    let made : (order : List ℕ) × IsLegalFor c.in-Threads.capacity order (parse received) × IsReply (code_of reply.status) reply.text.items (script_reply c.in-Threads.form c.in-Threads.capacity order (parse received)) =
    subst (λ (xs : List ℕ). (order : List ℕ) × IsLegalFor c.in-Threads.capacity order (parse xs) × IsReply (code_of reply.status) reply.text.items (script_reply c.in-Threads.form c.in-Threads.capacity order (parse xs))) same
    c.in-Ok.ensures.reply in
    let order : List ℕ = made.0 in
    let capacity : capacity_of wish ≡ c.in-Threads.capacity = ap capacity_of c.in-Threads.is in
    let due : IsReply (code_of reply.status) reply.text.items (due_reply wish received order) =
    subst (λ (x : Wish). IsReply (code_of reply.status) reply.text.items (due_reply x received order)) (sym c.in-Threads.is) made.2 in
    let logarithms : LogarithmsExpand (parse received) = subst (λ (xs : List ℕ). LogarithmsExpand (parse xs)) same c.in-Ok.ensures.logarithms in
    let versions : VersionsNeverFall (parse received) = subst (λ (xs : List ℕ). VersionsNeverFall (parse xs)) same c.in-Ok.ensures.versions in (
      order,
      (λ bytes told.
          subst (λ (n : ℕ). IsLegalFor n order (parse bytes)) (sym capacity)
          (subst (λ (s : Result ScriptValue ScriptFault). IsLegalFor c.in-Threads.capacity order s) (sym (decided-parse bytes received (receipt.decided bytes told))) made.1)),
      made-read wish order reply received source taken (threaded-is_read wish c.requires.threaded) receipt due (script-lawful wish received (ap reads_script c.in-Threads.is) logarithms versions),
    )

pub returns : goal.returns
returns g c =
    let wish : Wish = c.args.wish.now in (
      [],
      (λ bytes told. tt),
      made-short wish [] c.in_ok-bytes.bytes.items (record { told = g.S.Source.left c.args.source.now; faults = g.S.Source.faults c.args.source.now })
          (record { told = g.S.Source.left c.read_source.new.source; faults = g.S.Source.faults c.read_source.new.source })
          (threaded-is_read wish c.requires.threaded) c.in_ok-bytes.ensures.received,
    )
