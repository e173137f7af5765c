use Rattle.std.proofs.Common.{◌≡◌, ℕ, sym, subst, List, [], Option, None, Result, Ok}
use Rattle.std.proofs.lemmas.Result.{IfOk-weaker}
use Rattle.command_line.specs.declared.wish.Form.{Form}
use Rattle.script_reader.specs.declared.fault.ScriptFault.{ScriptFault}
use Rattle.script_reader.specs.Script.{ScriptValue, parse}
use Rattle.session.specs.Logarithms.{LogarithmsExpand}
use Rattle.session.specs.Versions.{VersionsNeverFall}
use Rattle.session.specs.Play.{due_outcome, illegal_place}
use Rattle.rough_main.specs.Statuses.{code_of}
use Rattle.rough_main.specs.declared.reply.Reply.{Reply}
use Rattle.rough_main.specs.Due.{IsLegalFor, IsReply, answered, script_reply, unless_illegal}
use Rattle.rough_main.proofs.CallLaws.{on-success, of-each}
use Rattle.rough_main.proofs.reply.reply_on_threads.Goals as goal

-- the answers in a legal order are the reply that is due
legal-reply : (form : Form) (spelled : Result ScriptValue ScriptFault) (script : ScriptValue) (capacity : ℕ) (order : List ℕ) (status : ℕ) (text : List ℕ)
    → spelled ≡ Ok script → illegal_place capacity script order ≡ None → IsReply status text (answered form capacity script order)
    → IsLegalFor capacity order spelled × IsReply status text (script_reply form capacity order spelled)
legal-reply form spelled script capacity order status text accepted legal written =
    subst (λ (s : Result ScriptValue ScriptFault). IsLegalFor capacity order s × IsReply status text (script_reply form capacity order s)) (sym accepted)
    (legal, subst (λ (place : Option ℕ). IsReply status text (unless_illegal place (answered form capacity script order))) (sym legal) written)

pub returns-in_ok-ran-in-Ok-clause-reply : goal.returns-in_ok-ran-in-Ok-clause-reply
returns-in_ok-ran-in-Ok-clause-reply g c =
    let form : Form = c.args.form in
    let capacity : ℕ = c.args.capacity in
    let script : ScriptValue = c.in-Ok.script in
    let spelled : Result ScriptValue ScriptFault = parse c.args.bytes.now in
    let order : List ℕ = c.in_ok-ran-in-Ok.ran.outcome.order.items in
    IfOk-weaker c.reply_with.result (λ (reply : Reply). IsReply (code_of reply.status) reply.text.items (answered form capacity script order))
    (λ (reply : Reply). (order : List ℕ) × IsLegalFor capacity order spelled × IsReply (code_of reply.status) reply.text.items (script_reply form capacity order spelled))
    (λ reply written.
    let due : IsLegalFor capacity order spelled × IsReply (code_of reply.status) reply.text.items (script_reply form capacity order spelled) =
    legal-reply form spelled script capacity order (code_of reply.status) reply.text.items c.in-Ok.ensures.read c.in_ok-ran-in-Ok.ensures.legal written in
    (order, due.0, due.1))
    (c.reply_with.ensures (due_outcome capacity script order) c.in_ok-ran-in-Ok.ensures.outcome)

pub returns-in_ok-ran-in-Ok-clause-logarithms : goal.returns-in_ok-ran-in-Ok-clause-logarithms
returns-in_ok-ran-in-Ok-clause-logarithms g c = on-success c.reply_with.result (subst LogarithmsExpand (sym c.in-Ok.ensures.read) c.logarithms_expand.ensures)

pub returns-in_ok-ran-in-Ok-clause-versions : goal.returns-in_ok-ran-in-Ok-clause-versions
returns-in_ok-ran-in-Ok-clause-versions g c = on-success c.reply_with.result (subst VersionsNeverFall (sym c.in-Ok.ensures.read) c.versions_never_fall.ensures)

pub returns-in-Err-clause-reply : goal.returns-in-Err-clause-reply
returns-in-Err-clause-reply g c =
    let spelled : Result ScriptValue ScriptFault = parse c.args.bytes.now in
    IfOk-weaker c.refusal.result _
    (λ (reply : Reply). (order : List ℕ) × IsLegalFor c.args.capacity order spelled × IsReply (code_of reply.status) reply.text.items (script_reply c.args.form c.args.capacity order spelled))
    (λ reply is.
    subst (λ (s : Result ScriptValue ScriptFault). (order : List ℕ) × IsLegalFor c.args.capacity order s × IsReply (code_of reply.status) reply.text.items (script_reply c.args.form c.args.capacity order s))
    (sym (c.in-Err.ensures.refused is.0)) ([], tt, is.1))
    c.refusal.ensures

pub returns-in-Err-clause-logarithms : goal.returns-in-Err-clause-logarithms
returns-in-Err-clause-logarithms g c = of-each c.refusal.result _ (LogarithmsExpand (parse c.args.bytes.now)) (λ reply is. subst LogarithmsExpand (sym (c.in-Err.ensures.refused is.0)) tt) c.refusal.ensures

pub returns-in-Err-clause-versions : goal.returns-in-Err-clause-versions
returns-in-Err-clause-versions g c = of-each c.refusal.result _ (VersionsNeverFall (parse c.args.bytes.now)) (λ reply is. subst VersionsNeverFall (sym (c.in-Err.ensures.refused is.0)) tt) c.refusal.ensures
