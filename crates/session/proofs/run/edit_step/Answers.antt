use Rattle.std.proofs.Common.{sym, refl, None, ◌-◌, get_or}
use Rattle.std.proofs.lemmas.List.{set-get_or}
use Rattle.book.specs.Play.{Editing}
use Rattle.session.specs.declared.answer.Answer.TheVariants as answers
use Rattle.session.proofs.StepLaws.{after-command, free-after_edit}
use Rattle.session.proofs.run.edit_step.Goals as goal

pub returns : goal.returns
returns c =
    let run = c.args.run.now in let session = c.args.session in let edit = c.args.edit.now in
    let kept = get_or run.solved.items (session - 1) None in
    after-command run.book.extent session (Editing session edit) run _ c.requires.places c.in_ok-reply.ensures.ok refl
    (answers.Edit c.in_ok-reply.reply) _ c.in_ok-reply.ensures.reply tt
    c.index_mut-2.result.now c.index_mut-2.ensures.value refl
    c.index_mut.result.now c.push.new.self c.index_mut.ensures.value c.in_ok-push.ensures.ok refl
    kept (sym (set-get_or run.solved.items (session - 1) None)) (free-after_edit session edit run.book c.edit.new.self kept c.requires.free c.in_ok-reply.ensures.ok)
