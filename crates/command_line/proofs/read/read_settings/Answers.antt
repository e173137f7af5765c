use Rattle.std.proofs.Common.{◌≡◌, map, string_bytes, Global, subst, sym, arith}
use Rattle.std.proofs.lemmas.Grind.{common_steps}
use Rattle.command_line.specs.Settings.{settings_in}
use Rattle.command_line.specs.Wishes.{IsInRange, wish_in}
use Rattle.command_line.proofs.RangesOfWish.{wish_is_in_range}
use Rattle.command_line.proofs.read.read_settings.Goals as goal

pub returns-clause-range : goal.returns-clause-range
returns-clause-range c =
    let is : c.wish.result ≡ wish_in (settings_in (map (string_bytes {Z = Global}) c.args.words.now)) = grind (arith, common_steps) in
    subst IsInRange (sym is) (wish_is_in_range (map (string_bytes {Z = Global}) c.args.words.now))
