-- The JSON that a run writes: one object, whose keys are in the order of their bytes.
use Rattle.std.specs.Prelude.{ℕ, zero, suc, ◌*◌, ◌==◌, if◌then◌else◌, List, [], ◌∷◌, ◌++◌, map, flat_map, length, codes, ℤ, pos}
use Rattle.std.specs.Fmt.{decimal, signed_decimal}
use Rattle.definitions.specs.Words.{Extent, up_to, words_of, factorial}
use Rattle.definitions.specs.Logarithm.{lcm_to}
use Rattle.definitions.specs.Hall.{hall_list, degree, text_of}
use Rattle.definitions.specs.declared.member.Member.{Member}
use Rattle.lie_bracket.specs.declared.term.Term.{Term}
use Rattle.serde_json.specs.Data.{unsigned, Data, number, string, array, object, Members, no_members, member}
use Rattle.serde_json.specs.View.{items_of}
use Rattle.serde_json.specs.Written.{compact_text}
use Rattle.versions.specs.declared.log.Accepted.{Accepted}
use Rattle.watches.specs.declared.interval.Interval.{Interval}
use Rattle.watches.specs.Watches.{touching}
use Rattle.versions.specs.declared.edit.EditReply.TheVariants.{Done, NameTaken, NoRow}
use Rattle.book.specs.declared.step.LookReply.{LookReply}
use Rattle.book.specs.declared.step.LookReply.TheVariants.{Found, NoVersion, Pair, Level, Overflow}
use Rattle.session.specs.Play.{Due, Edited, Valued, Logged, Refused, DueOutcome}
use Rattle.answers.specs.Text.{word_text}

-- a number that is no text
abbrev pub natural : ℕ → Data
natural n = number (unsigned n)

-- an array
abbrev pub list : List Data → Data
list items = array (items_of items)

-- a coefficient beside what it belongs to, both as text; nothing where it is 0
abbrev pub term_json : List ℕ → ℤ → List Data
term_json name (pos zero) = []
term_json name value = list (string name ∷ string (signed_decimal value) ∷ []) ∷ []

-- the terms of a level, and the denominator that they are over
abbrev pub level_json : ℕ → List Data → Data
level_json denominator terms = object (member (codes "over") (string (decimal denominator)) (member (codes "terms") (list terms) no_members))

-- the words of k letters with their coefficients, over k!
abbrev pub signature_level : Extent → (List ℕ → ℤ) → ℕ → Data
signature_level extent series k = level_json (factorial k) (flat_map (λ word. term_json (word_text word) (series word)) (words_of extent.width k))

-- the levels of a signature from 1 to the depth, each over k!
abbrev pub signature_levels : Extent → (List ℕ → ℤ) → List Data
signature_levels extent series = map (signature_level extent series) (up_to extent.depth)

-- a coordinate, where its member has degree k
abbrev pub coordinate_json : List Member → ℕ → Term → List Data
coordinate_json hall k t = if degree hall t.number == k then list (string (text_of hall t.number) ∷ string (signed_decimal t.factor) ∷ []) ∷ [] else []

-- the members of degree k with their coordinates, over k k! lcm_to k
abbrev pub logarithm_level : Extent → List Term → ℕ → Data
logarithm_level extent terms k = level_json (k * (factorial k * lcm_to k)) (flat_map (coordinate_json (hall_list extent.width extent.depth) k) terms)

-- the levels of a logarithm from 1 to the depth
abbrev pub logarithm_levels : Extent → List Term → List Data
logarithm_levels extent terms = map (logarithm_level extent terms) (up_to extent.depth)

-- ---- watches
-- the versions that touched a watched interval, where these edits were accepted
abbrev pub watch_json : List Accepted → Interval → Data
watch_json edits watch = list (map natural (touching watch.from watch.to edits))

-- ---- answers
-- the answer to an edit: the number of its command, the reply and the version
abbrev pub edit_json : ℕ → List ℕ → ℕ → Data
edit_json c reply version = object (member (codes "command") (natural c) (member (codes "reply") (string reply) (member (codes "version") (natural version) no_members)))

-- the reply to a query of this kind, with its levels where it has a value
abbrev pub look_json : ℕ → List ℕ → LookReply → List Data → Data
look_json c kind (Found version hits misses exps) levels = object (
    member (codes "command") (natural c)
    (member (codes "exps") (natural exps)
    (member (codes "hits") (natural hits)
    (member (codes "levels") (list levels)
    (member (codes "misses") (natural misses)
    (member (codes "reply") (string kind)
    (member (codes "version") (natural version) no_members)))))))
look_json c kind (NoVersion version) levels = object (member (codes "command") (natural c) (member (codes "reply") (string (codes "no-version")) (member (codes "version") (natural version) no_members)))
look_json c kind (Pair a b) levels = object (member (codes "command") (natural c) (member (codes "left") (natural a) (member (codes "reply") (string (codes "growth")) (member (codes "right") (natural b) no_members))))
look_json c kind (Level k) levels = object (member (codes "command") (natural c) (member (codes "level") (natural k) (member (codes "reply") (string (codes "growth-level")) no_members)))
look_json c kind (Overflow weight) levels = object (member (codes "command") (natural c) (member (codes "reply") (string (codes "overflow")) (member (codes "weight") (string (decimal weight)) no_members)))

-- the answer to the command of number c
abbrev pub answer_json : Extent → ℕ → Due → Data
answer_json extent c (Edited (Done version)) = edit_json c (codes "done") version
answer_json extent c (Edited (NameTaken version)) = edit_json c (codes "name-taken") version
answer_json extent c (Edited (NoRow version)) = edit_json c (codes "no-row") version
answer_json extent c (Valued reply series) = look_json c (codes "sig") reply (signature_levels extent series)
answer_json extent c (Logged reply terms) = look_json c (codes "log") reply (logarithm_levels extent terms)
answer_json extent c (Refused reply) = look_json c [] reply []

-- answers whose commands are numbered from c
abbrev pub answers_json : Extent → ℕ → List Due → List Data
answers_json extent c [] = []
answers_json extent c (due ∷ dues) = answer_json extent c due ∷ answers_json extent (suc c) dues

-- the sessions of the steps, the answers of each session, the shape and the last version, before these members
abbrev pub parts_json : List Data → List Data → Extent → ℕ → Members → Members
parts_json order sessions extent versions others =
    member (codes "order") (list order)
    (member (codes "sessions") (list sessions)
    (member (codes "shape") (list (natural extent.width ∷ natural extent.depth ∷ []))
    (member (codes "versions") (natural versions) others)))

-- the member of the watches, where there are any
abbrev pub watches_member : List Data → Members
watches_member [] = no_members
watches_member (watch ∷ watches) = member (codes "watches") (list (watch ∷ watches)) no_members

-- the whole object
abbrev pub outcome_json : Extent → List Interval → DueOutcome → Data
outcome_json extent watches outcome = object (
    parts_json (map natural outcome.order) (map (λ dues. list (answers_json extent 1 dues)) outcome.transcripts) extent (length outcome.edits)
    (watches_member (map (watch_json outcome.edits) watches)))

-- one line
abbrev pub json_text : Extent → List Interval → DueOutcome → List ℕ
json_text extent watches outcome = compact_text (outcome_json extent watches outcome) ++ codes "\n"
