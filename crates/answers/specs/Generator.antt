-- The generated script, and the summary of its run.
use Rattle.std.specs.Prelude.{ℕ, zero, suc, ◌+◌, ◌-◌, ◌*◌, ◌/◌, ◌%◌, ◌^◌, ◌==◌, nat_lt, if◌then◌else◌, List, [], ◌∷◌, ◌++◌, map, filter, flat_map, length, codes, sum_by, None, ℤ, pos, negsuc, ◌+ℤ◌, ◌-ℤ◌}
use Rattle.std.specs.Fmt.{decimal}
use Rattle.definitions.specs.Words.{Extent, up_to, words_of}
use Rattle.definitions.specs.Moves.{plain}
use Rattle.versions.specs.declared.edit.Edit.TheVariants as edit
use Rattle.script_reader.specs.declared.command.Command.{Command}
use Rattle.script_reader.specs.declared.command.Command.TheVariants as commands
use Rattle.script_reader.specs.declared.command.Kind.{Kind}
use Rattle.script_reader.specs.declared.command.Kind.TheVariants as kinds
use Rattle.script_reader.specs.Script.{ScriptValue}
use Rattle.book.specs.declared.step.LookReply.{LookReply}
use Rattle.book.specs.declared.step.LookReply.TheVariants.{Found}
use Rattle.session.specs.Play.{Due, Edited, Valued, Logged, Refused, DueOutcome}

-- the numbers that a script of n commands draws: n itself, and then each from the one before
abbrev pub draw : ℕ → ℕ → ℕ
draw n zero = n
draw n (suc i) = (75 * draw n i + 74) % 65537

-- the two entries that a number gives, from -3 to 3
abbrev pub entries_from : ℕ → List ℤ
entries_from z = (pos (z % 7) -ℤ pos 3) ∷ (pos (z / 7 % 7) -ℤ pos 3) ∷ []

-- the name of the row that the command i appends: r and i in decimals
abbrev pub row_name : ℕ → List ℕ
row_name i = codes "r" ++ decimal i

-- signatures and logarithms in turn
abbrev pub kind_at : ℕ → Kind
kind_at i = if i / 8 % 2 == 0 then kinds.Sig else kinds.Log

-- of each eight commands six append a row, one corrects the first of these, and one is a query from 0 to at most 64
abbrev pub command_from : ℕ → ℕ → Command
command_from z i =
    if nat_lt (i % 8) 6 then commands.Edit (edit.Append (row_name i) (64 * z) (plain 4 (entries_from z)))
    else if i % 8 == 6 then commands.Edit (edit.Correct (row_name (i - 6)) (plain 4 (entries_from z)))
    else commands.Ask (record { kind = kind_at i; from = 0; to = 65536 * (1 + z % 64); r = 16; version = None })

-- command i, which draws the number after those of the commands before
abbrev pub command_at : ℕ → ℕ → Command
command_at n i = command_from (draw n (suc i)) i

-- the numbers of the commands of a session, from 0 to 3: each fourth one
abbrev pub numbers_of : ℕ → ℕ → List ℕ
numbers_of n session = filter (λ i. i % 4 == session) (map (λ i. i - 1) (up_to n))

-- the script of n commands, in turn of four sessions, of width 2 and depth 4, with no watches
abbrev pub generated : ℕ → ScriptValue
generated n = record {
  extent = record { width = 2; depth = 4 };
  sessions = map (λ session. map (command_at n) (numbers_of n session)) (0 ∷ 1 ∷ 2 ∷ 3 ∷ []);
  watches = [];
}

-- ---- the summary
-- the sum of whole numbers
abbrev pub int_sum : List ℤ → ℤ
int_sum [] = pos 0
int_sum (x ∷ xs) = x +ℤ int_sum xs

-- the sum of the numerators that are printed: those of a signature from level 1 on, or the Hall coordinates
abbrev pub value_sum : Extent → Due → ℤ
value_sum extent (Edited reply) = pos 0
value_sum extent (Valued reply series) = int_sum (map series (flat_map (words_of extent.width) (up_to extent.depth)))
value_sum extent (Logged reply terms) = int_sum (map (λ t. t.factor) terms)
value_sum extent (Refused reply) = pos 0

-- the counts of a value: hits, misses, and rows that were exponentiated
abbrev pub hits_in : LookReply → ℕ
hits_in (Found version hits misses exps) = hits
hits_in _ = 0

-- the nodes with rows that weren't kept
abbrev pub misses_in : LookReply → ℕ
misses_in (Found version hits misses exps) = misses
misses_in _ = 0

-- the rows that were exponentiated
abbrev pub exps_in : LookReply → ℕ
exps_in (Found version hits misses exps) = exps
exps_in _ = 0

-- a count of the reply, where the answer has a value; 0 for edits and refusals
abbrev pub counted : (LookReply → ℕ) → Due → ℕ
counted count (Edited reply) = 0
counted count (Valued reply series) = count reply
counted count (Logged reply terms) = count reply
counted count (Refused reply) = 0

-- the answers of all sessions, one session after another
abbrev pub all_dues : DueOutcome → List Due
all_dues outcome = flat_map (λ dues. dues) outcome.transcripts

-- a whole number modulo m, from 0 to m - 1
abbrev pub int_mod : ℤ → ℕ → ℕ
int_mod (pos n) m = n % m
int_mod (negsuc n) m = (m - (suc n) % m) % m

-- the lines of the summary, each a word and a number in decimals; the sum of numerators modulo 2^64
abbrev pub summary_text : ℕ → Extent → DueOutcome → List ℕ
summary_text n extent outcome =
    codes "gen " ++ decimal n
    ++ codes "\nsteps " ++ decimal (length outcome.order)
    ++ codes "\nversions " ++ decimal (length outcome.edits)
    ++ codes "\nhits " ++ decimal (sum_by (counted hits_in) (all_dues outcome))
    ++ codes "\nmisses " ++ decimal (sum_by (counted misses_in) (all_dues outcome))
    ++ codes "\nexps " ++ decimal (sum_by (counted exps_in) (all_dues outcome))
    ++ codes "\nsum " ++ decimal (int_mod (int_sum (map (value_sum extent) (all_dues outcome))) (2 ^ 64))
    ++ codes "\n"
