-- The options that stand in the words so far, with those that follow.
use Rattle.std.specs.Prelude.{◌++◌, List, Option, Some, None, filter_map, option_to_list}
use Rattle.command_line.specs.declared.gathered.Gathered.{Gathered}
use Rattle.command_line.specs.declared.setting.Setting.{Setting}
use Rattle.command_line.specs.declared.wish.Wish.{Wish}
use Rattle.command_line.specs.declared.wish.Wish.TheVariants.{Refused}
use Rattle.command_line.specs.Wishes.{order_at, capacity_at, form_at, count_at, wish_at}

-- the wish of options that were given, and of those that follow them
abbrev pub wish_after : Gathered → Option (List Setting) → Wish
wish_after gathered (Some settings) =
    wish_at (option_to_list gathered.order ++ filter_map order_at settings) (option_to_list gathered.capacity ++ filter_map capacity_at settings)
    (option_to_list gathered.form ++ filter_map form_at settings) (option_to_list gathered.count ++ filter_map count_at settings)
wish_after gathered None = Refused
