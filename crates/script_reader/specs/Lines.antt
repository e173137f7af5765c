-- What a content line says, and what is wrong with it: both depend on the line and on the content lines before it, and on nothing else.
use Rattle.std.specs.Prelude.{ℕ, Bool, nat_le, ◌==◌, ◌&&◌, ◌||◌, List, [], ◌∷◌, fold, Option, Some, None}
use Rattle.std.specs.List.{list_all}
use Rattle.definitions.specs.Words.{Extent}
use Rattle.spellings.specs.Lines.{words_in}
use Rattle.script_reader.specs.declared.said.Said.{Said}
use Rattle.script_reader.specs.declared.tally.Tally.{Tally}
use Rattle.script_reader.specs.declared.keyword.Keyword.{Keyword}
use Rattle.script_reader.specs.declared.fault.Reason.{Reason}
use Rattle.script_reader.specs.declared.fault.Reason.TheVariants as reasons
use Rattle.script_reader.specs.Fields.{field, unless, first_of}
use Rattle.script_reader.specs.Limits.{named, commands_of, nothing_said, with_said, limit_reason}
use Rattle.script_reader.specs.Forms.{form_reason, keyword_of, form_of}

-- the keyword of a content line
abbrev pub keyword_in : List ℕ → Option Keyword
keyword_in line = keyword_of (field 0 (words_in line))

-- what words with this keyword say, at the extent named so far
abbrev pub said_by : Extent → Option Keyword → List (List ℕ) → Option Said
said_by extent None words = None
said_by extent (Some keyword) words = Some ((form_of keyword).says extent words)

-- what a content line says, at the extent named so far
abbrev pub said_in : Extent → List ℕ → Option Said
said_in extent line = said_by extent (keyword_in line) (words_in line)

-- ---- the tally of content lines
-- the tally after what a line says, if it says something
abbrev pub with_some : Tally → Option Said → Tally
with_some before None = before
with_some before (Some said) = with_said before said

-- what content lines say, counted
abbrev pub tally : List (List ℕ) → Tally
tally lines = fold (λ before line. with_some before (said_in (named before.shape) line)) nothing_said lines

-- ---- the reasons of a content line
-- printable, or a tab
abbrev pub is_allowed_byte : ℕ → Bool
is_allowed_byte c = c == 9 || (nat_le 32 c && nat_le c 126)

-- the reasons of words with this keyword: those of the form, and then the limits on what they say
abbrev pub keyword_reason : Option Keyword → Tally → List (List ℕ) → Option Reason
keyword_reason None before words = Some reasons.Keyword
keyword_reason (Some keyword) before words =
    first_of (form_reason (form_of keyword) before words
    ∷ limit_reason before (commands_of ((form_of keyword).says (named before.shape) words))
    ∷ [])

-- why a content line is bad, after content lines with this tally
abbrev pub reason_after : Tally → List ℕ → Option Reason
reason_after before line =
    first_of (unless (list_all is_allowed_byte line) reasons.Byte ∷ keyword_reason (keyword_in line) before (words_in line) ∷ [])

-- why a content line is bad, after the content lines before it
abbrev pub reason_of : List (List ℕ) → List ℕ → Option Reason
reason_of earlier line = reason_after (tally earlier) line
