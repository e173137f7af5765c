-- The text that a run writes. Numbers are decimal; each line ends with a line feed.
use Rattle.std.specs.Prelude.{ℕ, zero, suc, ◌*◌, ◌==◌, if◌then◌else◌, List, [], ◌∷◌, ◌++◌, map, flat_map, length, codes, ℤ, pos}
use Rattle.std.specs.List.{join_with_byte}
use Rattle.std.specs.Fmt.{decimal, signed_decimal}
use Rattle.definitions.specs.Words.{Extent, up_to, words_of, factorial}
use Rattle.definitions.specs.Logarithm.{lcm_to}
use Rattle.definitions.specs.Hall.{hall_list, degree, text_of}
use Rattle.definitions.specs.declared.member.Member.{Member}
use Rattle.lie_bracket.specs.declared.term.Term.{Term}
use Rattle.versions.specs.declared.edit.EditReply.TheVariants.{Done, NameTaken, NoRow}
use Rattle.book.specs.declared.step.LookReply.{LookReply}
use Rattle.book.specs.declared.step.LookReply.TheVariants.{Found, NoVersion, Pair, Level, Overflow}
use Rattle.watches.specs.declared.interval.Interval.{Interval}
use Rattle.session.specs.Play.{Due, Edited, Valued, Logged, Refused, DueOutcome}
use Rattle.answers.specs.Watched.{numbers_text, watches_text}

-- the letters in round brackets, with commas between
abbrev pub word_text : List ℕ → List ℕ
word_text word = codes "(" ++ join_with_byte 44 (map decimal word) ++ codes ")"

-- a coefficient and what it belongs to; nothing where it is 0
abbrev pub term_text : List ℕ → ℤ → List ℕ
term_text name (pos zero) = []
term_text name value = codes " " ++ name ++ codes "=" ++ signed_decimal value

-- the words of k letters in lexicographic order, with their numerators over k!
abbrev pub level_text : Extent → (List ℕ → ℤ) → ℕ → List ℕ
level_text extent series k =
    codes "level " ++ decimal k ++ codes " over " ++ decimal (factorial k)
    ++ flat_map (λ word. term_text (word_text word) (series word)) (words_of extent.width k)
    ++ codes "\n"

-- the levels from 1 on; level 0 is always 1
abbrev pub levels_text : Extent → (List ℕ → ℤ) → List ℕ
levels_text extent series = flat_map (level_text extent series) (up_to extent.depth)

-- ---- logarithms
-- the text of a member of the Hall set and its coordinate, where it has degree k
abbrev pub coordinate_text : List Member → ℕ → Term → List ℕ
coordinate_text hall k t = if degree hall t.number == k then codes " " ++ text_of hall t.number ++ codes "=" ++ signed_decimal t.factor else []

-- the members of degree k by rising number, with their coordinates over k k! lcm_to k
abbrev pub log_level_text : Extent → List Term → ℕ → List ℕ
log_level_text extent terms k =
    codes "level " ++ decimal k ++ codes " over " ++ decimal (k * (factorial k * lcm_to k))
    ++ flat_map (coordinate_text (hall_list extent.width extent.depth) k) terms
    ++ codes "\n"

-- the levels of a logarithm from 1 to the depth
abbrev pub log_levels_text : Extent → List Term → List ℕ
log_levels_text extent terms = flat_map (log_level_text extent terms) (up_to extent.depth)

-- ---- answers
-- the reply to a query of this kind
abbrev pub look_text : List ℕ → LookReply → List ℕ
look_text kind (Found version hits misses exps) =
    codes " " ++ kind ++ codes " version " ++ decimal version ++ codes " hits " ++ decimal hits ++ codes " misses " ++ decimal misses ++ codes " exps " ++ decimal exps ++ codes "\n"
look_text kind (NoVersion version) = codes " no-version " ++ decimal version ++ codes "\n"
look_text kind (Pair a b) = codes " growth " ++ decimal a ++ codes " " ++ decimal b ++ codes "\n"
look_text kind (Level k) = codes " growth-level " ++ decimal k ++ codes "\n"
look_text kind (Overflow weight) = codes " overflow " ++ decimal weight ++ codes "\n"

-- the answer to the command of number c
abbrev pub answer_text : Extent → ℕ → Due → List ℕ
answer_text extent c (Edited (Done version)) = decimal c ++ codes " done " ++ decimal version ++ codes "\n"
answer_text extent c (Edited (NameTaken version)) = decimal c ++ codes " name-taken " ++ decimal version ++ codes "\n"
answer_text extent c (Edited (NoRow version)) = decimal c ++ codes " no-row " ++ decimal version ++ codes "\n"
answer_text extent c (Valued reply series) = decimal c ++ look_text (codes "sig") reply ++ levels_text extent series
answer_text extent c (Logged reply terms) = decimal c ++ look_text (codes "log") reply ++ log_levels_text extent terms
answer_text extent c (Refused reply) = decimal c ++ look_text [] reply

-- answers whose commands are numbered from c
abbrev pub answers_text : Extent → ℕ → List Due → List ℕ
answers_text extent c [] = []
answers_text extent c (due ∷ dues) = answer_text extent c due ++ answers_text extent (suc c) dues

-- sessions that are numbered from s
abbrev pub sessions_text : Extent → ℕ → List (List Due) → List ℕ
sessions_text extent s [] = []
sessions_text extent s (dues ∷ sessions) = codes "session " ++ decimal s ++ codes "\n" ++ answers_text extent 1 dues ++ sessions_text extent (suc s) sessions

-- the whole text: the shape, each session with its answers, the session of each step in order, the last version, and the watches
abbrev pub outcome_text : Extent → List Interval → DueOutcome → List ℕ
outcome_text extent watches outcome =
    codes "shape " ++ decimal extent.width ++ codes " " ++ decimal extent.depth ++ codes "\n"
    ++ sessions_text extent 1 outcome.transcripts
    ++ codes "order " ++ numbers_text outcome.order ++ codes "\n"
    ++ codes "versions " ++ decimal (length outcome.edits) ++ codes "\n"
    ++ watches_text outcome.edits 1 watches
