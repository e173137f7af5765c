use Rattle.std.proofs.Common.{arith, lit<, Some}
use Rattle.std.proofs.lemmas.Str.Pattern.{split_once_first}
use Rattle.command_line.proofs.SettingLaws.{joined_first}
use Rattle.command_line.proofs.setting.split_value.Goals as goal

pub returns-in_ok-valued_named-in-Some : goal.returns-in_ok-valued_named-in-Some
returns-in_ok-valued_named-in-Some c =
    let cut = split_once_first 61 c.args.word.now (Some (c.in-Some.name, c.in-Some.value)) c.in-Some.ensures.cases (lit< tt) in
    (joined_first c.args.word.now c.in-Some.name.now c.in-Some.value.now _ _ c.requires cut.0 cut.1 cut.2 c.in_ok-valued_named-in-Some.ensures, omega arith)
