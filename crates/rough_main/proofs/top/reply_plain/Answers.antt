use Rattle.std.proofs.Common.{◌≡◌, ◌∙◌, ℕ, List, Result, Ok, Err, IfOk, sym, ap, subst}
use Rattle.command_line.specs.declared.wish.Wish.{Wish}
use Rattle.words.specs.declared.memory.Memory.{Memory as NoMemory}
use Rattle.rough_io.specs.declared.source.ReceiveFault.TheVariants.{Memory}
use Rattle.script_reader.specs.Script.{parse}
use Rattle.cbh_calc.specs.Elements.{moves_in}
use Rattle.session.specs.Logarithms.{LogarithmsExpand}
use Rattle.session.specs.Versions.{VersionsNeverFall}
use Rattle.rough_main.specs.Statuses.{code_of}
use Rattle.rough_main.specs.declared.reply.Reply.{Reply}
use Rattle.rough_main.specs.Elements.{ProductExpands}
use Rattle.rough_main.specs.Due.{IsReply, words_reply, script_reply, elements_reply, generated_reply, due_reply, unread_reply, reads_script}
use Rattle.rough_main.specs.Calls.{Port}
use Rattle.rough_main.specs.Made.{IsMade}
use Rattle.rough_main.proofs.CallLaws.{made-without_memory, made-unread, made-short, made-read, script-lawful, elements-lawful, of-made}
use Rattle.rough_main.proofs.top.reply_plain.Goals.{in-Refused, in-Gen, in-Given+in_ok-bytes-in-Given, in-Cbh+in_ok-bytes-in-Cbh}
use Rattle.rough_main.proofs.top.reply_plain.Goals as goal

-- what each reply is holds of the one that was made
made-is : (P : Reply → Type 0) (made result : Result Reply NoMemory) (reply : Reply) → made ≡ result → made ≡ Ok reply → IfOk result P → P reply
made-is P made result reply same is each = subst (λ (r : Result Reply NoMemory). IfOk r P) (sym same ∙ is) each

pub returns-in-Ok : goal.returns-in-Ok
returns-in-Ok g c = λ order.
    let wish : Wish = c.args.wish.now in
    let reply : Reply = c.in-Ok.reply in
    let source : Port = record { told = g.S.Source.left c.args.source.now; faults = g.S.Source.faults c.args.source.now } in
    elim c.match-wish.branch [
      | in-Refused w ↦
          subst (λ (s : _). IsMade wish order (Ok reply) source (record { told = g.S.Source.left s; faults = g.S.Source.faults s })) (sym w.source-is)
          (made-unread wish order reply words_reply source (ap unread_reply w.in-Refused.is) (made-is _ _ _ reply w.made-is c.in-Ok.is w.reply_to_refused-made.ensures))
      | in-Gen w ↦
          subst (λ (s : _). IsMade wish order (Ok reply) source (record { told = g.S.Source.left s; faults = g.S.Source.faults s })) (sym w.source-is)
          (made-unread wish order reply (generated_reply w.in-Gen.n w.in-Gen.capacity) source (ap unread_reply w.in-Gen.is)
          (made-is _ _ _ reply w.made-is c.in-Ok.is w.reply_generated-made.ensures))
      | in-Given+in_ok-bytes-in-Given w ↦
          let received : List ℕ = w.in_ok-bytes-in-Given.bytes.items in
          let same : w.deref.result.now ≡ received = w.deref.ensures.value in
          let written : IsReply (code_of reply.status) reply.text.items (script_reply w.in-Given.form w.in-Given.capacity w.list.result.now (parse w.deref.result.now)) =
          made-is _ _ _ reply w.made-is c.in-Ok.is w.reply_in_order-made.ensures.reply in
          let given : IsReply (code_of reply.status) reply.text.items (script_reply w.in-Given.form w.in-Given.capacity w.in-Given.order (parse received)) =
          subst (λ (xs : List ℕ). IsReply (code_of reply.status) reply.text.items (script_reply w.in-Given.form w.in-Given.capacity w.in-Given.order (parse xs))) same
          (subst (λ (o : List ℕ). IsReply (code_of reply.status) reply.text.items (script_reply w.in-Given.form w.in-Given.capacity o (parse w.deref.result.now))) w.list.ensures written) in
          let due : IsReply (code_of reply.status) reply.text.items (due_reply wish received order) =
          subst (λ (x : Wish). IsReply (code_of reply.status) reply.text.items (due_reply x received order)) (sym w.in-Given.is) given in
          let logarithms : LogarithmsExpand (parse received) = subst (λ (xs : List ℕ). LogarithmsExpand (parse xs)) same (of-made _ _ _ reply w.made-is c.in-Ok.is w.reply_in_order-made.ensures.logarithms) in
          let versions : VersionsNeverFall (parse received) = subst (λ (xs : List ℕ). VersionsNeverFall (parse xs)) same (of-made _ _ _ reply w.made-is c.in-Ok.is w.reply_in_order-made.ensures.versions) in
          subst (λ (s : _). IsMade wish order (Ok reply) source (record { told = g.S.Source.left s; faults = g.S.Source.faults s })) (sym w.source-is)
          (made-read wish order reply received source (record { told = g.S.Source.left w.read_source.new.source; faults = g.S.Source.faults w.read_source.new.source })
          (ap unread_reply w.in-Given.is) w.in_ok-bytes-in-Given.ensures.received due (script-lawful wish received (ap reads_script w.in-Given.is) logarithms versions))
      | in-Cbh+in_ok-bytes-in-Cbh w ↦
          let received : List ℕ = w.in_ok-bytes-in-Cbh.bytes.items in
          let same : w.deref-in-Cbh.result.now ≡ received = w.deref-in-Cbh.ensures.value in
          let written : IsReply (code_of reply.status) reply.text.items (elements_reply (moves_in w.deref-in-Cbh.result.now)) =
          made-is _ _ _ reply w.made-is c.in-Ok.is w.reply_to_elements-made.ensures.reply in
          let due : IsReply (code_of reply.status) reply.text.items (due_reply wish received order) =
          subst (λ (x : Wish). IsReply (code_of reply.status) reply.text.items (due_reply x received order)) (sym w.in-Cbh.is)
          (subst (λ (xs : List ℕ). IsReply (code_of reply.status) reply.text.items (elements_reply (moves_in xs))) same written) in
          let product : ProductExpands (moves_in received) = subst (λ (xs : List ℕ). ProductExpands (moves_in xs)) same (of-made _ _ _ reply w.made-is c.in-Ok.is w.reply_to_elements-made.ensures.expands) in
          subst (λ (s : _). IsMade wish order (Ok reply) source (record { told = g.S.Source.left s; faults = g.S.Source.faults s })) (sym w.source-is)
          (made-read wish order reply received source (record { told = g.S.Source.left w.read_source-in-Cbh.new.source; faults = g.S.Source.faults w.read_source-in-Cbh.new.source })
          (ap unread_reply w.in-Cbh.is) w.in_ok-bytes-in-Cbh.ensures.received due (elements-lawful wish received w.in-Cbh.is product))
    ]

pub returns-in-Err : goal.returns-in-Err
returns-in-Err g c = λ order.
    let wish : Wish = c.args.wish.now in
    let source : Port = record { told = g.S.Source.left c.args.source.now; faults = g.S.Source.faults c.args.source.now } in
    elim c.match-wish.branch [
      | in-Refused w ↦
          subst (λ (s : _). IsMade wish order (Err Memory) source (record { told = g.S.Source.left s; faults = g.S.Source.faults s })) (sym w.source-is)
          (made-without_memory wish order source)
      | in-Gen w ↦
          subst (λ (s : _). IsMade wish order (Err Memory) source (record { told = g.S.Source.left s; faults = g.S.Source.faults s })) (sym w.source-is)
          (made-without_memory wish order source)
      | in-Given+in_ok-bytes-in-Given w ↦
          subst (λ (s : _). IsMade wish order (Err Memory) source (record { told = g.S.Source.left s; faults = g.S.Source.faults s })) (sym w.source-is)
          (made-short wish order w.in_ok-bytes-in-Given.bytes.items source (record { told = g.S.Source.left w.read_source.new.source; faults = g.S.Source.faults w.read_source.new.source })
          (ap unread_reply w.in-Given.is) w.in_ok-bytes-in-Given.ensures.received)
      | in-Cbh+in_ok-bytes-in-Cbh w ↦
          subst (λ (s : _). IsMade wish order (Err Memory) source (record { told = g.S.Source.left s; faults = g.S.Source.faults s })) (sym w.source-is)
          (made-short wish order w.in_ok-bytes-in-Cbh.bytes.items source (record { told = g.S.Source.left w.read_source-in-Cbh.new.source; faults = g.S.Source.faults w.read_source-in-Cbh.new.source })
          (ap unread_reply w.in-Cbh.is) w.in_ok-bytes-in-Cbh.ensures.received)
    ]
