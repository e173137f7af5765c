use Rattle.std.proofs.Common.{◌≡◌, ◌++◌, ◌∙◌, ◌+◌, ℕ, List, ap, arith, string_bytes, codes}
use Rattle.std.proofs.lemmas.List.{append_assoc}
use Rattle.std.proofs.lemmas.Grind.{common_steps}
use Rattle.std.specs.Fmt.{decimal}
use Rattle.session.specs.Answers.{ShowsEach}
use Rattle.answers.specs.Text.{answers_text}
use Rattle.answers.proofs.NumberedTexts.{numbered-more}
use Rattle.answers.proofs.text.push_sessions.Goals as goal

pub loop-before-preserved : goal.loop-before-preserved
loop-before-preserved c =
    numbered-more (ShowsEach c.args.hall.now) (λ s dues. codes "session " ++ decimal s ++ codes "\n" ++ answers_text c.args.hall.now 1 dues) c.args.transcripts.now c.loop-before.before c.index-transcripts-before.result
    (string_bytes c.args.text.now) (string_bytes c.loop-before.text) (string_bytes c.push_answers.new.text)
    c.loop-before-test.true c.index-transcripts-before.is c.loop-before.invariant
    (λ dues each.
    let line : string_bytes c.writeln.new.self ≡ string_bytes c.loop-before.text ++ (codes "session " ++ decimal (c.loop-before.before + 1) ++ codes "\n") = grind (arith, common_steps) in
    c.in_ok-push_answers.ensures dues (rw c.list.ensures each)
    ∙ ap (λ (t : List ℕ). t ++ answers_text c.args.hall.now 1 dues) line
    ∙ append_assoc (string_bytes c.loop-before.text) (codes "session " ++ decimal (c.loop-before.before + 1) ++ codes "\n") (answers_text c.args.hall.now 1 dues))
