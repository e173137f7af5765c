-- The options that stand in the words of a command line, with their values.
use Rattle.std.specs.Prelude.{ℕ, ◌==◌, if◌then◌else◌, List, [], ◌∷◌, codes, Option, Some, None, option_map, option_and_then}
use Rattle.std.specs.List.{list_any, before_first, after_first}
use Rattle.std.specs.Str.{bytes_eq}
use Rattle.words.specs.Capacities.{most_capacity}
use Rattle.command_line.specs.declared.setting.Valued.{Valued}
use Rattle.command_line.specs.declared.setting.Valued.TheVariants as valued
use Rattle.command_line.specs.declared.setting.Setting.{Setting}
use Rattle.command_line.specs.declared.setting.Setting.TheVariants as setting
use Rattle.command_line.specs.Values.{number_in, order_in}

-- the option with a value that has this name
abbrev pub valued_named : List ℕ → Option Valued
valued_named name =
    if bytes_eq name (codes "--order") then Some valued.Order
    else if bytes_eq name (codes "--cache") then Some valued.Cache
    else if bytes_eq name (codes "--gen") then Some valued.Gen
    else None

-- the option at this value, where the value is of its form and in its range
abbrev pub setting_at : Valued → List ℕ → Option Setting
setting_at valued.Order value = option_map setting.Order (order_in value)
setting_at valued.Cache value = option_map setting.Cache (number_in most_capacity value)
setting_at valued.Gen value = option_map setting.Gen (number_in 10000 value)

-- what a word is: an option with all that belongs to it, if it is right, or a name whose value is the next word
pub data Kind : Type 0 where
  Whole : Option Setting → Kind
  Name : Valued → Kind

-- what a word without `=` is, from the option that it names
abbrev pub kind_alone : Option Valued → Kind
kind_alone (Some name) = Name name
kind_alone None = Whole None

-- `--json`, a name with `=` and a value, or a name
abbrev pub kind_of : List ℕ → Kind
kind_of word =
    if bytes_eq word (codes "--json") then Whole (Some setting.Json)
    else if list_any (λ c. c == 61) word
    then Whole (option_and_then (λ name. setting_at name (after_first (λ c. c == 61) word)) (valued_named (before_first (λ c. c == 61) word)))
    else kind_alone (valued_named word)

-- a setting before others, where all are right
abbrev pub before : Option Setting → Option (List Setting) → Option (List Setting)
before (Some setting) settings = option_map (λ others. setting ∷ others) settings
before None settings = None

-- the options from left to right, where each word is a part of one and each value is right
abbrev pub settings_in : List (List ℕ) → Option (List Setting)
settings_in [] = Some []
settings_in (word ∷ []) = elim (kind_of word) [ Whole setting ↦ before setting (Some []) | Name name ↦ None ]
settings_in (word ∷ next ∷ words) =
    elim (kind_of word) [
      | Whole setting ↦ before setting (settings_in (next ∷ words))
      | Name name ↦ before (setting_at name next) (settings_in words)
    ]
