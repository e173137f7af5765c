use Rattle.std.proofs.Common.{◌≡◌, sym, ap, subst, Option, IfOk, ℕ}
use Rattle.session.specs.Play.{due_outcome, illegal_place}
use Rattle.rough_main.specs.Statuses.{code_of}
use Rattle.rough_main.specs.declared.reply.Reply.{Reply}
use Rattle.rough_main.specs.Due.{DueReply, IsReply, answered, unless_illegal}
use Rattle.rough_main.proofs.reply.reply_ordered.Goals as goal

pub returns-in-Ok : goal.returns-in-Ok
returns-in-Ok c =
    let script = c.args.script.now in let order = c.args.order.now in
    let due : answered c.args.form c.args.capacity script order ≡ unless_illegal (illegal_place c.args.capacity script order) (answered c.args.form c.args.capacity script order) =
    ap (λ (place : Option ℕ). unless_illegal place (answered c.args.form c.args.capacity script order)) (sym c.in-Ok.ensures.legal) in
    subst (λ (d : DueReply). IfOk c.reply_with.result (λ (reply : Reply). IsReply (code_of reply.status) reply.text.items d)) due
    (c.reply_with.ensures (due_outcome c.args.capacity script order) c.in-Ok.ensures.outcome)
