-- The words of a content line, and the tests that they meet, each with its reason.
use Rattle.std.specs.Prelude.{ℕ, ◌-◌, ◌^◌, Bool, if◌then◌else◌, List, [], ◌∷◌, map, slice_index_or, Option, Some, None, is_some, unwrap_or, ℤ, pos}
use Rattle.std.specs.List.{list_all}
use Rattle.spellings.specs.Numbers.{plain_up_to, whole_of, tick_up_to}
use Rattle.script_reader.specs.declared.fault.Reason.{Reason}

-- the i-th word, from 0
abbrev pub field : ℕ → List (List ℕ) → List ℕ
field i words = slice_index_or words i []

-- ---- tests, each with at most one reason
-- a reason, unless the test holds
abbrev pub unless : Bool → Reason → Option Reason
unless holds reason = if holds then None else Some reason

-- the first reason of several
abbrev pub first_of : List (Option Reason) → Option Reason
first_of [] = None
first_of (None ∷ tests) = first_of tests
first_of (Some reason ∷ tests) = Some reason

-- ---- numbers, times and entries
-- a plain number of at most 32 bits
unfoldable pub is_number : List ℕ → Bool
is_number word = is_some (plain_up_to (2 ^ 32 - 1) word)

-- the number of a version, of at most 64 bits
unfoldable pub is_version : List ℕ → Bool
is_version word = is_some (plain_up_to (2 ^ 64 - 1) word)

-- a time whose tick is within the bound
unfoldable pub is_tick : ℕ → List ℕ → Bool
is_tick most word = is_some (tick_up_to most word)

-- the tick of a time, 0 where there is none
unfoldable pub tick_or_zero : ℕ → List ℕ → ℕ
tick_or_zero most word = unwrap_or (tick_up_to most word) 0

-- whether each word is a time whose tick is within the bound
unfoldable pub are_ticks : ℕ → List (List ℕ) → Bool
are_ticks most words = list_all (is_tick most) words

-- the ticks of times
abbrev pub ticks_of : ℕ → List (List ℕ) → List ℕ
ticks_of most words = map (tick_or_zero most) words

-- whether each word is a whole number in range
unfoldable pub are_entries : List (List ℕ) → Bool
are_entries words = list_all (λ word. is_some (whole_of word)) words

-- the whole numbers that words spell
abbrev pub entries_of : List (List ℕ) → List ℤ
entries_of words = map (λ word. unwrap_or (whole_of word) (pos 0)) words
