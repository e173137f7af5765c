use Rattle.std.proofs.Common.{◌∙◌, List, ap, codes}
use Rattle.std.proofs.lemmas.Result.{IfOk-weaker}
use Rattle.serde_json.specs.Data.{Data}
use Rattle.answers.specs.Json.{look_json}
use Rattle.answers.proofs.JsonLevels.{signature-told}
use Rattle.answers.proofs.json_text.answer_value.Goals as goal

pub returns-in_ok-levels-in-Sig : goal.returns-in_ok-levels-in-Sig
returns-in_ok-levels-in-Sig c =
    IfOk-weaker c.look_value.result _ _ (λ value is due shows. is
    ∙ ap (λ (levels : List Data). look_json c.args.number (codes "sig") c.in-Sig.reply levels) c.in_ok-levels-in-Sig.ensures
    ∙ signature-told c.args.hall.now c.args.number c.in-Sig.reply c.in-Sig.tensor due (rw c.in-Sig.is at shows)) c.look_value.ensures
