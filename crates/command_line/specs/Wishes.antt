-- What a command line wishes.
use Rattle.std.specs.Prelude.{◌≤◌, ℕ, Bool, false, ◌&&◌, ◌||◌, nat_le, if◌then◌else◌, List, [], ◌∷◌, length, filter_map, codes, Option, Some, None}
use Rattle.std.specs.Str.{bytes_eq}
use Rattle.command_line.specs.declared.setting.Setting.{Setting}
use Rattle.command_line.specs.declared.setting.Setting.TheVariants.{Order, Cache, Json, Gen}
use Rattle.command_line.specs.declared.wish.Form.{Form}
use Rattle.command_line.specs.declared.wish.Form.TheVariants as form
use Rattle.command_line.specs.declared.wish.Wish.{Wish}
use Rattle.command_line.specs.declared.wish.Wish.TheVariants as wishes
use Rattle.command_line.specs.Settings.{settings_in}

-- the value of `--order`, if the option is it
abbrev pub order_at : Setting → Option (List ℕ)
order_at (Order order) = Some order
order_at _ = None

-- the value of `--cache`, if the option is it
abbrev pub capacity_at : Setting → Option ℕ
capacity_at (Cache capacity) = Some capacity
capacity_at _ = None

-- the form that `--json` asks for, if the option is it
abbrev pub form_at : Setting → Option Form
form_at Json = Some form.Json
form_at _ = None

-- the value of `--gen`, if the option is it
abbrev pub count_at : Setting → Option ℕ
count_at (Gen count) = Some count
count_at _ = None

-- an option with these values stands at most once
abbrev pub at_most_one : {X : Type 0} → List X → Bool
at_most_one values = nat_le (length values) 1

-- an option with these values does not stand
abbrev pub is_absent : {X : Type 0} → List X → Bool
is_absent values = nat_le (length values) 0

-- the value of an option, or another where it does not stand
abbrev pub first_or : {X : Type 0} → X → List X → X
first_or other [] = other
first_or other (value ∷ values) = value

-- the wish of a command line that is not refused
abbrev pub chosen : List (List ℕ) → ℕ → Form → List ℕ → Wish
chosen orders capacity written (count ∷ counts) = wishes.Gen count capacity
chosen (order ∷ orders) capacity written [] = wishes.Given order capacity written
chosen [] capacity written [] = wishes.Threads capacity written

-- each option stands at most once, and `--gen` not beside `--order` or `--json`
abbrev pub are_compatible : List (List ℕ) → List ℕ → List Form → List ℕ → Bool
are_compatible orders capacities forms counts =
    at_most_one orders && at_most_one capacities && at_most_one forms && at_most_one counts && (is_absent counts || (is_absent orders && is_absent forms))

-- the wish of options that stand with these values
abbrev pub wish_at : List (List ℕ) → List ℕ → List Form → List ℕ → Wish
wish_at orders capacities forms counts =
    if are_compatible orders capacities forms counts
    then chosen orders (first_or 4096 capacities) (first_or form.Text forms) counts
    else wishes.Refused

-- the wish of options in a list, where all words were right
abbrev pub wish_in : Option (List Setting) → Wish
wish_in (Some settings) = wish_at (filter_map order_at settings) (filter_map capacity_at settings) (filter_map form_at settings) (filter_map count_at settings)
wish_in None = wishes.Refused

-- the words are the one word `--cbh`
abbrev pub asks_product : List (List ℕ) → Bool
asks_product (word ∷ []) = bytes_eq word (codes "--cbh")
asks_product _ = false

-- the wish of the words: `--cbh` stands alone, and options are read from left to right
abbrev pub wish_of : List (List ℕ) → Wish
wish_of words = if asks_product words then wishes.Cbh else wish_in (settings_in words)

-- a count of generated commands is from 1 to 10000
abbrev pub IsCount : ℕ → Type 0
IsCount count = (1 ≤ count) × (count ≤ 10000)

-- the count of a wish, where it has one, is in its range
abbrev pub IsInRange : Wish → Type 0
IsInRange (wishes.Gen count capacity) = IsCount count
IsInRange _ = Unit {0}
