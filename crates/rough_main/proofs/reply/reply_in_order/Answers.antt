use Rattle.std.proofs.Common.{sym, subst, Result, IfOk}
use Rattle.std.proofs.lemmas.Result.{IfOk-weaker}
use Rattle.script_reader.specs.declared.fault.ScriptFault.{ScriptFault}
use Rattle.script_reader.specs.Script.{ScriptValue, parse}
use Rattle.session.specs.Logarithms.{LogarithmsExpand}
use Rattle.session.specs.Versions.{VersionsNeverFall}
use Rattle.rough_main.specs.Statuses.{code_of}
use Rattle.rough_main.specs.declared.reply.Reply.{Reply}
use Rattle.rough_main.specs.Due.{IsReply, script_reply}
use Rattle.rough_main.proofs.CallLaws.{on-success, of-each}
use Rattle.rough_main.proofs.reply.reply_in_order.Goals as goal

pub returns-in-Ok-clause-reply : goal.returns-in-Ok-clause-reply
returns-in-Ok-clause-reply c =
    subst (λ (s : Result ScriptValue ScriptFault). IfOk c.reply_ordered.result (λ (reply : Reply). IsReply (code_of reply.status) reply.text.items (script_reply c.args.form c.args.capacity c.args.order.now s)))
    (sym c.in-Ok.ensures.read) c.reply_ordered.ensures

pub returns-in-Ok-clause-logarithms : goal.returns-in-Ok-clause-logarithms
returns-in-Ok-clause-logarithms c = on-success c.reply_ordered.result (subst LogarithmsExpand (sym c.in-Ok.ensures.read) c.logarithms_expand.ensures)

pub returns-in-Ok-clause-versions : goal.returns-in-Ok-clause-versions
returns-in-Ok-clause-versions c = on-success c.reply_ordered.result (subst VersionsNeverFall (sym c.in-Ok.ensures.read) c.versions_never_fall.ensures)

pub returns-in-Err-clause-reply : goal.returns-in-Err-clause-reply
returns-in-Err-clause-reply c =
    IfOk-weaker c.refusal.result _ (λ (reply : Reply). IsReply (code_of reply.status) reply.text.items (script_reply c.args.form c.args.capacity c.args.order.now (parse c.args.bytes.now)))
    (λ reply is. subst (λ (s : Result ScriptValue ScriptFault). IsReply (code_of reply.status) reply.text.items (script_reply c.args.form c.args.capacity c.args.order.now s)) (sym (c.in-Err.ensures.refused is.0)) is.1)
    c.refusal.ensures

pub returns-in-Err-clause-logarithms : goal.returns-in-Err-clause-logarithms
returns-in-Err-clause-logarithms c = of-each c.refusal.result _ (LogarithmsExpand (parse c.args.bytes.now)) (λ reply is. subst LogarithmsExpand (sym (c.in-Err.ensures.refused is.0)) tt) c.refusal.ensures

pub returns-in-Err-clause-versions : goal.returns-in-Err-clause-versions
returns-in-Err-clause-versions c = of-each c.refusal.result _ (VersionsNeverFall (parse c.args.bytes.now)) (λ reply is. subst VersionsNeverFall (sym (c.in-Err.ensures.refused is.0)) tt) c.refusal.ensures
