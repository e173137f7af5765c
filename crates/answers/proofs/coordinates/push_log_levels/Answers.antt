use Rattle.std.proofs.Common.{string_bytes}
use Rattle.answers.specs.Text.{log_level_text}
use Rattle.answers.proofs.LevelTexts.{levels-more}
use Rattle.answers.proofs.coordinates.push_log_levels.Goals as goal

pub loop-before-preserved : goal.loop-before-preserved
loop-before-preserved c =
    levels-more (log_level_text c.args.hall.now c.terms-terms.result.now) (string_bytes c.args.text.now) (string_bytes c.loop-before.text) (string_bytes c.push_log_level.new.text)
    c.loop-before.before c.loop-before.invariant c.in_ok-push_log_level.ensures
