use Rattle.std.proofs.Common.{◌≡◌, ◌++◌, ◌∙◌, ℕ, List, ap, arith, string_bytes, codes}
use Rattle.std.proofs.lemmas.Grind.{common_steps}
use Rattle.std.specs.Fmt.{decimal}
use Rattle.scaled_tensor.specs.Tensors.{coefficient}
use Rattle.answers.specs.Text.{look_text, levels_text, log_levels_text}
use Rattle.answers.proofs.LevelTexts.{signature-shown, logarithm-shown}
use Rattle.answers.proofs.text.push_answer.Goals as goal

pub returns-in_ok-push_levels-in-Sig : goal.returns-in_ok-push_levels-in-Sig
returns-in_ok-push_levels-in-Sig c =
    let written : string_bytes c.push_levels.new.text ≡ string_bytes c.args.text.now ++ (decimal c.args.number ++ look_text (codes "sig") c.in-Sig.reply ++ levels_text c.in-Sig.tensor.extent (coefficient c.in-Sig.tensor)) = grind (arith, common_steps) in
    λ due shows. written ∙ ap (λ (t : List ℕ). string_bytes c.args.text.now ++ t) (signature-shown c.args.hall.now c.args.number c.in-Sig.reply c.in-Sig.tensor due (rw c.in-Sig.is at shows))

pub returns-in_ok-push_log_levels-in-Log : goal.returns-in_ok-push_log_levels-in-Log
returns-in_ok-push_log_levels-in-Log c =
    let written : string_bytes c.push_log_levels.new.text ≡ string_bytes c.args.text.now ++ (decimal c.args.number ++ look_text (codes "log") c.in-Log.reply ++ log_levels_text c.args.hall.now c.in-Log.lie) = grind (arith, common_steps) in
    λ due shows. written ∙ ap (λ (t : List ℕ). string_bytes c.args.text.now ++ t) (logarithm-shown c.args.hall.now c.args.number c.in-Log.reply c.in-Log.lie due (rw c.in-Log.is at shows))
