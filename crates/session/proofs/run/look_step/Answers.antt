use Rattle.std.proofs.Common.{refl}
use Rattle.book.specs.Play.{Looking}
use Rattle.session.specs.Play.{query_for}
use Rattle.session.proofs.StepLaws.{after-command}
use Rattle.session.proofs.run.look_step.Goals as goal

pub returns-clause-after : goal.returns-clause-after
returns-clause-after g c =
    let session = c.args.session in let known = c.in_ok-answer.ensures in
    after-command c.args.basis.now session (Looking session (query_for c.args.basis.now c.args.asked.now)) c.args.run.now _ c.requires.places known.book refl
    c.in_ok-answer.answer _ known.shows known.members
    c.index_mut-3.result.now c.index_mut-3.ensures.value refl
    c.index_mut-2.result.now c.push.new.self c.index_mut-2.ensures.value c.in_ok-push.ensures.ok refl
    c.in_ok-answer.solved refl known.solved
