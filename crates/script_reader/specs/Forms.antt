-- The forms of content lines: for each of them where it may stand, what its words are, and what it says.
use Rattle.std.specs.Prelude.{ℕ, ◌+◌, ◌-◌, ◌^◌, Bool, true, ◌&&◌, ◌||◌, ◌==◌, nat_lt, nat_le, if◌then◌else◌, List, [], ◌∷◌, ◌++◌, drop, length, codes, Option, Some, None, is_some, is_none}
use Rattle.std.specs.Str.{bytes_eq}
use Rattle.definitions.specs.Words.{Extent}
use Rattle.definitions.specs.Rows.{rounded}
use Rattle.spellings.specs.Numbers.{value_of}
use Rattle.spellings.specs.Names.{is_name}
use Rattle.versions.specs.declared.edit.Edit.TheVariants as edits
use Rattle.watches.specs.declared.interval.Interval.{Interval}
use Rattle.script_reader.specs.declared.command.Ask.{Ask}
use Rattle.script_reader.specs.declared.command.Command.{Command}
use Rattle.script_reader.specs.declared.command.Command.TheVariants as commands
use Rattle.script_reader.specs.declared.command.Kind.{Kind}
use Rattle.script_reader.specs.declared.command.Kind.TheVariants as kinds
use Rattle.script_reader.specs.declared.said.Said.{Said}
use Rattle.script_reader.specs.declared.said.Said.TheVariants as sayings
use Rattle.script_reader.specs.declared.tally.Tally.{Tally}
use Rattle.script_reader.specs.declared.keyword.Keyword.{Keyword}
use Rattle.script_reader.specs.declared.keyword.Keyword.TheVariants.{Shape, Session, Watch, Append, Correct, Remove, Sig, Log, Parts}
use Rattle.script_reader.specs.declared.fault.Reason.{Reason}
use Rattle.script_reader.specs.declared.fault.Reason.TheVariants as reasons
use Rattle.script_reader.specs.Fields.{field, unless, first_of, is_number, is_version, is_tick, tick_or_zero, are_ticks, ticks_of, are_entries, entries_of}
use Rattle.script_reader.specs.Coordinates.{is_count, lie_move}
use Rattle.script_reader.specs.Limits.{named, total_words}

-- a form of line, in the order in which a line is judged
pub record Form : Type 0 where
  -- where it may stand
  pub may_stand : Tally → Bool
  -- how many words it has, at the shape named so far
  pub has_words : Extent → List (List ℕ) → Bool
  -- the tests of its fields from left to right
  pub fields : List (List ℕ) → List (Option Reason)
  -- the tests of its values
  pub values : Tally → List (List ℕ) → List (Option Reason)
  -- what it says, where all tests hold
  pub says : Extent → List (List ℕ) → Said

-- the first reason of a line of this form
abbrev pub form_reason : Form → Tally → List (List ℕ) → Option Reason
form_reason form before words =
    first_of (unless (form.may_stand before) reasons.Place
    ∷ unless (form.has_words (named before.shape) words) reasons.Fields
    ∷ first_of (form.fields words)
    ∷ first_of (form.values before words)
    ∷ [])

-- ---- the shape, and the opening of a session
-- the extent that a shape line names
abbrev pub extent_of : List (List ℕ) → Extent
extent_of words = record { width = value_of (field 1 words); depth = value_of (field 2 words) }

-- a shape line, which stands first and once
abbrev pub shape_form : Form
shape_form = record {
  may_stand = λ before. is_none before.shape;
  has_words = λ extent words. length words == 3;
  fields = λ words. unless (is_number (field 1 words)) reasons.Number ∷ unless (is_number (field 2 words)) reasons.Number ∷ [];
  values = λ before words.
      unless (nat_le 1 (extent_of words).width && nat_le (extent_of words).width 12) reasons.Width
      ∷ unless (nat_le 1 (extent_of words).depth && nat_le (extent_of words).depth 8) reasons.Depth
      ∷ unless (nat_le (total_words (extent_of words)) 2000) reasons.Words
      ∷ [];
  says = λ extent words. sayings.Shape (extent_of words);
}

-- a session line, which has the next number
abbrev pub session_form : Form
session_form = record {
  may_stand = λ before. is_some before.shape;
  has_words = λ extent words. length words == 2;
  fields = λ words. unless (is_number (field 1 words)) reasons.Number ∷ [];
  values = λ before words. unless (value_of (field 1 words) == before.sessions + 1 && nat_le (value_of (field 1 words)) 16) reasons.Session ∷ [];
  says = λ extent words. sayings.Session;
}

-- ---- edits
-- commands stand after the first session line
abbrev pub is_opened : Tally → Bool
is_opened before = nat_lt 0 before.sessions

-- an append line, whose words from the fourth on are the coordinates of a Lie element
abbrev pub append_form : Form
append_form = record {
  may_stand = is_opened;
  has_words = λ extent words. is_count extent (length (drop 3 words));
  fields = λ words.
      unless (is_name (field 1 words)) reasons.Name
      ∷ unless (is_tick (2 ^ 32 - 1) (field 2 words)) reasons.Time
      ∷ unless (are_entries (drop 3 words)) reasons.Number
      ∷ [];
  values = λ before words. [];
  says = λ extent words. sayings.Command (commands.Edit (edits.Append (field 1 words) (tick_or_zero (2 ^ 32 - 1) (field 2 words)) (lie_move extent (entries_of (drop 3 words)))));
}

-- a correct line, whose words from the third on are the coordinates of a Lie element
abbrev pub correct_form : Form
correct_form = record {
  may_stand = is_opened;
  has_words = λ extent words. is_count extent (length (drop 2 words));
  fields = λ words. unless (is_name (field 1 words)) reasons.Name ∷ unless (are_entries (drop 2 words)) reasons.Number ∷ [];
  values = λ before words. [];
  says = λ extent words. sayings.Command (commands.Edit (edits.Correct (field 1 words) (lie_move extent (entries_of (drop 2 words)))));
}

-- a remove line
abbrev pub remove_form : Form
remove_form = record {
  may_stand = is_opened;
  has_words = λ extent words. length words == 2;
  fields = λ words. unless (is_name (field 1 words)) reasons.Name ∷ [];
  values = λ before words. [];
  says = λ extent words. sayings.Command (commands.Edit (edits.Remove (field 1 words)));
}

-- ---- intervals at a resolution
-- the tick where the interval of a line begins
abbrev pub from_of : List (List ℕ) → ℕ
from_of words = tick_or_zero (2 ^ 32) (field 1 words)

-- the tick where it ends
abbrev pub to_of : List (List ℕ) → ℕ
to_of words = tick_or_zero (2 ^ 32) (field 2 words)

-- the resolution
abbrev pub resolution_of : List (List ℕ) → ℕ
resolution_of words = value_of (field 3 words)

-- the tests of the fields: two times and a number
abbrev pub interval_fields : List (List ℕ) → List (Option Reason)
interval_fields words =
    unless (is_tick (2 ^ 32) (field 1 words)) reasons.Time
    ∷ unless (is_tick (2 ^ 32) (field 2 words)) reasons.Time
    ∷ unless (is_number (field 3 words)) reasons.Number
    ∷ []

-- the tests of their values
abbrev pub interval_values : List (List ℕ) → List (Option Reason)
interval_values words = unless (nat_le (from_of words) (to_of words)) reasons.Interval ∷ unless (nat_le (resolution_of words) 16) reasons.Resolution ∷ []

-- the interval of a line, with both ends rounded down
abbrev pub watched : List (List ℕ) → Interval
watched words = record { from = rounded (resolution_of words) (from_of words); to = rounded (resolution_of words) (to_of words) }

-- a line that watches an interval, one of at most 64
abbrev pub watch_form : Form
watch_form = record {
  may_stand = λ before. is_some before.shape;
  has_words = λ extent words. length words == 4;
  fields = interval_fields;
  values = λ before words. interval_values words ++ unless (nat_lt before.watches 64) reasons.Watches ∷ [];
  says = λ extent words. sayings.Watch (watched words);
}

-- ---- queries
-- four words, or six of which the fifth is `at`
abbrev pub has_query_fields : List (List ℕ) → Bool
has_query_fields words = length words == 4 || (length words == 6 && bytes_eq (field 4 words) (codes "at"))

-- the version that a query line names
abbrev pub version_of : List (List ℕ) → Option ℕ
version_of words = if length words == 4 then None else Some (value_of (field 5 words))

-- the query of a line
abbrev pub ask_of : Kind → List (List ℕ) → Ask
ask_of kind words = record {
  kind = kind;
  from = from_of words;
  to = to_of words;
  r = resolution_of words;
  version = version_of words;
}

-- a line that asks for this
abbrev pub query_form : Kind → Form
query_form kind = record {
  may_stand = is_opened;
  has_words = λ extent words. has_query_fields words;
  fields = λ words. interval_fields words ++ unless (length words == 4 || is_version (field 5 words)) reasons.Number ∷ [];
  values = λ before words. interval_values words;
  says = λ extent words. sayings.Command (commands.Ask (ask_of kind words));
}

-- ---- the logarithms of a partition
-- whether none of these ticks exceeds the next one, nor `from` the first
abbrev pub rises_from : ℕ → List ℕ → Bool
rises_from from [] = true
rises_from from (to ∷ ticks) = nat_le from to && rises_from to ticks

-- what is asked of an interval, at a resolution and a version
abbrev pub query_over : ℕ → ℕ → Kind → ℕ → ℕ → Command
query_over r version kind from to = commands.Ask (record { kind = kind; from = from; to = to; r = r; version = Some version })

-- the logarithm of each interval that these ticks end, the first of which begins at `from`; and then the signature from `start` to the last tick
abbrev pub queries_from : ℕ → ℕ → ℕ → ℕ → List ℕ → List Command
queries_from r version start from [] = query_over r version kinds.Sig start from ∷ []
queries_from r version start from (to ∷ ticks) = query_over r version kinds.Log from to ∷ queries_from r version start to ticks

-- the logarithm of each interval between these ticks, and then the signature of all of them together
abbrev pub partition_queries : ℕ → ℕ → List ℕ → List Command
partition_queries r version [] = []
partition_queries r version (start ∷ ticks) = queries_from r version start start ticks

-- a line that asks for the logarithms of a partition into 1 to 64 intervals, whose words from the fourth on are the times between them
abbrev pub parts_form : Form
parts_form = record {
  may_stand = is_opened;
  has_words = λ extent words. nat_le 5 (length words) && nat_le (length words) 68;
  fields = λ words.
      unless (is_number (field 1 words)) reasons.Number
      ∷ unless (is_version (field 2 words)) reasons.Number
      ∷ unless (are_ticks (2 ^ 32) (drop 3 words)) reasons.Time
      ∷ [];
  values = λ before words.
      unless (rises_from 0 (ticks_of (2 ^ 32) (drop 3 words))) reasons.Interval
      ∷ unless (nat_le (value_of (field 1 words)) 16) reasons.Resolution
      ∷ [];
  says = λ extent words. sayings.Commands (partition_queries (value_of (field 1 words)) (value_of (field 2 words)) (ticks_of (2 ^ 32) (drop 3 words)));
}

-- ---- all forms
-- the keyword that a word is
abbrev pub keyword_of : List ℕ → Option Keyword
keyword_of word =
    if bytes_eq word (codes "shape") then Some Shape
    else if bytes_eq word (codes "session") then Some Session
    else if bytes_eq word (codes "watch") then Some Watch
    else if bytes_eq word (codes "append") then Some Append
    else if bytes_eq word (codes "correct") then Some Correct
    else if bytes_eq word (codes "remove") then Some Remove
    else if bytes_eq word (codes "sig") then Some Sig
    else if bytes_eq word (codes "log") then Some Log
    else if bytes_eq word (codes "parts") then Some Parts
    else None

-- the form of the lines that begin with a keyword
abbrev pub form_of : Keyword → Form
form_of Shape = shape_form
form_of Session = session_form
form_of Watch = watch_form
form_of Append = append_form
form_of Correct = correct_form
form_of Remove = remove_form
form_of Sig = query_form kinds.Sig
form_of Log = query_form kinds.Log
form_of Parts = parts_form
