-- The numbers of the wish of words are in their ranges.
use Rattle.std.proofs.Common.{ℕ, ◌≤◌, ◌==◌, Bool, true, false, List, [], ◌∷◌, Option, Some, None, IfSome, arith}
use Rattle.std.specs.Prelude.{if◌then◌else◌, option_map, option_and_then, filter_map, codes}
use Rattle.std.specs.List.{list_any, before_first, after_first}
use Rattle.std.specs.Str.{bytes_eq}
use Rattle.std.proofs.lemmas.Grind.{common_steps}
use Rattle.words.specs.Capacities.{most_capacity}
use Rattle.command_line.specs.declared.setting.Valued.{Valued}
use Rattle.command_line.specs.declared.setting.Valued.TheVariants as valued
use Rattle.command_line.specs.declared.setting.Setting.{Setting}
use Rattle.command_line.specs.declared.setting.Setting.TheVariants as setting
use Rattle.command_line.specs.declared.wish.Form.{Form}
use Rattle.command_line.specs.declared.wish.Wish.{Wish}
use Rattle.command_line.specs.declared.wish.Wish.TheVariants as wishes
use Rattle.command_line.specs.Values.{number_in, order_in}
use Rattle.command_line.specs.Settings.{Kind, valued_named, setting_at, kind_alone, kind_of, before, settings_in}
use Rattle.command_line.specs.Settings.Kind.{Whole, Name}
use Rattle.command_line.specs.Wishes.{order_at, capacity_at, count_at, first_or, chosen, wish_in, IsCount, IsInRange}

-- a number that a value spells is in its range
number_within : (most : ℕ) (value : List ℕ) → IfSome (number_in most value) (λ number. (1 ≤ number) × (number ≤ most))
number_within most value = grind (arith, common_steps)

-- the first of some counts, if there is one
abbrev IsFirstCount : List ℕ → Type 0
IsFirstCount [] = Unit {0}
IsFirstCount (count ∷ counts) = IsCount count

-- the numbers of options, if all words were right
abbrev IsWithin : Option (List Setting) → Type 0
IsWithin (Some settings) = IsFirstCount (filter_map count_at settings)
IsWithin None = Unit {0}

order_within : (order : Option (List ℕ)) (settings : Option (List Setting)) → IsWithin settings → IsWithin (before (option_map setting.Order order) settings)
order_within (Some order) (Some settings) within = within
order_within (Some order) None within = tt
order_within None settings within = tt

cache_within : (capacity : Option ℕ) (settings : Option (List Setting)) → IsWithin settings → IsWithin (before (option_map setting.Cache capacity) settings)
cache_within (Some capacity) (Some settings) within = within
cache_within (Some capacity) None within = tt
cache_within None settings within = tt

count_within : (count : Option ℕ) (settings : Option (List Setting)) → IfSome count IsCount → IsWithin settings → IsWithin (before (option_map setting.Gen count) settings)
count_within (Some count) (Some settings) is within = is
count_within (Some count) None is within = tt
count_within None settings is within = tt

-- an option with its value before others
value_within : (name : Valued) (value : List ℕ) (settings : Option (List Setting)) → IsWithin settings → IsWithin (before (setting_at name value) settings)
value_within valued.Order value settings within = order_within (order_in value) settings within
value_within valued.Cache value settings within = cache_within (number_in most_capacity value) settings within
value_within valued.Gen value settings within = count_within (number_in 10000 value) settings (number_within 10000 value) within

json_within : (settings : Option (List Setting)) → IsWithin settings → IsWithin (before (Some setting.Json) settings)
json_within (Some settings) within = within
json_within None within = tt

-- what a word is by itself before others
abbrev KeepsWithin : Kind → Type 0
KeepsWithin (Whole setting) = (settings : Option (List Setting)) → IsWithin settings → IsWithin (before setting settings)
KeepsWithin (Name name) = Unit {0}

either_kind : (test : Bool) (kind other : Kind) → KeepsWithin kind → KeepsWithin other → KeepsWithin (if test then kind else other)
either_kind true kind other keeps keeps_other = keeps
either_kind false kind other keeps keeps_other = keeps_other

joined_keeps : (name : Option Valued) (value : List ℕ) → KeepsWithin (Whole (option_and_then (λ name. setting_at name value) name))
joined_keeps (Some name) value = value_within name value
joined_keeps None value = λ settings within. tt

alone_keeps : (name : Option Valued) → KeepsWithin (kind_alone name)
alone_keeps (Some name) = tt
alone_keeps None = λ settings within. tt

kind_keeps : (word : List ℕ) → KeepsWithin (kind_of word)
kind_keeps word =
    either_kind (bytes_eq word (codes "--json")) _ _ json_within
    (either_kind (list_any (λ c. c == 61) word) _ _ (joined_keeps (valued_named (before_first (λ c. c == 61) word)) (after_first (λ c. c == 61) word)) (alone_keeps (valued_named word)))

-- the first option of a list of words
last_within : (kind : Kind) → KeepsWithin kind → IsWithin (elim kind [ Whole setting ↦ before setting (Some []) | Name name ↦ None ])
last_within (Whole setting) keeps = keeps (Some []) tt
last_within (Name name) keeps = tt

first_within : (kind : Kind) (next : List ℕ) (more after : Option (List Setting)) → KeepsWithin kind → IsWithin more → IsWithin after →
    IsWithin (elim kind [ Whole setting ↦ before setting more | Name name ↦ before (setting_at name next) after ])
first_within (Whole setting) next more after keeps within within_after = keeps more within
first_within (Name name) next more after keeps within within_after = value_within name next after within_after

settings_within : (words : List (List ℕ)) → IsWithin (settings_in words)
settings_within [] = tt
settings_within (word ∷ []) = last_within (kind_of word) (kind_keeps word)
settings_within (word ∷ next ∷ words) =
    first_within (kind_of word) next (settings_in (next ∷ words)) (settings_in words) (kind_keeps word) (settings_within (next ∷ words)) (settings_within words)

-- the wish of options
chosen_within : (orders : List (List ℕ)) (capacity : ℕ) (written : Form) (counts : List ℕ) → IsFirstCount counts → IsInRange (chosen orders capacity written counts)
chosen_within orders capacity written (count ∷ counts) is = is
chosen_within (order ∷ orders) capacity written [] is = tt
chosen_within [] capacity written [] is = tt

wish_or_refused : (test : Bool) (wish : Wish) → IsInRange wish → IsInRange (if test then wish else wishes.Refused)
wish_or_refused true wish is = is
wish_or_refused false wish is = tt

wish_within : (settings : Option (List Setting)) → IsWithin settings → IsInRange (wish_in settings)
wish_within (Some settings) within = wish_or_refused _ _ (chosen_within (filter_map order_at settings) _ _ (filter_map count_at settings) within)
wish_within None within = tt

-- the wish of the options in words
pub wish_is_in_range : (words : List (List ℕ)) → IsInRange (wish_in (settings_in words))
wish_is_in_range words = wish_within (settings_in words) (settings_within words)
