-- Worked examples: the texts of short outcomes, a generated script, and a summary.
use Rattle.std.proofs.Common.{◌≡◌, ℕ, List, [], ◌∷◌, refl}
use Rattle.std.specs.Prelude.{◌+◌, ◌*◌, ◌%◌, map, codes, pos, negsuc, None}
use Rattle.std.specs.Fmt.{digits}
use Rattle.definitions.specs.Words.{up_to}
use Rattle.definitions.specs.Sums.{sum_below}
use Rattle.definitions.specs.Products.{scaled_product, product_term}
use Rattle.definitions.specs.Moves.{Parts, plain, lie_series, step, root, move_weight}
use Rattle.definitions.specs.Exponentials.{plain_product, exponential}
use Rattle.definitions.specs.Hall.{number_of, expansion, text_of}
use Rattle.definitions.specs.Commutators.{commutator_term, commutator}
use Rattle.definitions.specs.Logarithm.{logarithm}
use Rattle.lie_bracket.specs.Brackets.{bracket}
use Rattle.dynkin_map.specs.Coordinates.{coordinate, coordinates}
use Rattle.definitions.specs.Signature.{signature}
use Rattle.versions.specs.declared.edit.Edit.TheVariants as edit
use Rattle.script_reader.specs.declared.command.Command.TheVariants as commands
use Rattle.script_reader.specs.declared.command.Kind.TheVariants as kinds
use Rattle.versions.specs.declared.edit.EditReply.TheVariants.{Done, NameTaken, NoRow}
use Rattle.book.specs.declared.step.LookReply.TheVariants.{Found, NoVersion, Overflow}
use Rattle.versions.specs.declared.log.Accepted.{Accepted}
use Rattle.watches.specs.declared.interval.Interval.{Interval}
use Rattle.session.specs.Play.{Due, Edited, Valued, Logged, Refused, DueOutcome}
use Rattle.serde_json.proofs.OnLiterals.{serde_json_on_literals}
use Rattle.answers.specs.Text.{outcome_text}
use Rattle.answers.specs.Json.{json_text}
use Rattle.answers.specs.Generator.{draw, entries_from, numbers_of, command_at, summary_text}

-- edits at these ticks
abbrev edits_at : List ℕ → List Accepted
edits_at ticks = map (λ tick. record { edit = edit.Remove (codes "a"); tick = tick }) ticks

abbrev outcome : List (List Due) → List ℕ → List ℕ → DueOutcome
outcome transcripts order ticks = record { transcripts = transcripts; order = order; edits = edits_at ticks }

abbrev one_row_due : DueOutcome
one_row_due = outcome ((Edited (Done 1) ∷ Valued (Found 1 0 1 1) (signature (plain 2 (pos 2 ∷ pos 3 ∷ []) ∷ [])) ∷ []) ∷ []) (1 ∷ 1 ∷ 1 ∷ []) (0 ∷ [])

one_row : outcome_text (record { width = 2; depth = 2 }) [] one_row_due
    ≡ codes "shape 2 2\nsession 1\n1 done 1\n2 sig version 1 hits 0 misses 1 exps 1\nlevel 1 over 1 (1)=2 (2)=3\nlevel 2 over 2 (1,1)=4 (1,2)=6 (2,1)=6 (2,2)=9\norder 1,1,1\nversions 1\n"
unfolding signature scaled_product product_term sum_below step lie_series exponential plain_product expansion root move_weight digits
one_row = refl

one_row_in_json : json_text (record { width = 2; depth = 2 }) [] one_row_due
    ≡ codes "{\"order\":[1,1,1],\"sessions\":[[{\"command\":1,\"reply\":\"done\",\"version\":1},{\"command\":2,\"exps\":1,\"hits\":0,\"levels\":[{\"over\":\"1\",\"terms\":[[\"(1)\",\"2\"],[\"(2)\",\"3\"]]},{\"over\":\"2\",\"terms\":[[\"(1,1)\",\"4\"],[\"(1,2)\",\"6\"],[\"(2,1)\",\"6\"],[\"(2,2)\",\"9\"]]}],\"misses\":1,\"reply\":\"sig\",\"version\":1}]],\"shape\":[2,2],\"versions\":1}\n"
unfolding signature scaled_product product_term sum_below step lie_series exponential plain_product expansion root move_weight digits serde_json_on_literals
one_row_in_json = refl

-- ---- rows that are Lie elements
-- the bracket of the letters alone, and the first letter with it
abbrev area : Parts
area = (pos 0 ∷ pos 0 ∷ []) ∷ (pos 1 ∷ []) ∷ []

abbrev letter_with_area : Parts
letter_with_area = (pos 1 ∷ pos 0 ∷ []) ∷ (pos 1 ∷ []) ∷ []

-- the signature of moves on two letters of depth 2, and its logarithm
abbrev both_due : List Parts → DueOutcome
both_due moves =
    outcome ((Valued (Found 1 0 1 1) (signature moves) ∷ Logged (Found 1 1 0 0) (coordinates (record { width = 2; depth = 2 }) (logarithm (signature moves))) ∷ []) ∷ []) (1 ∷ 1 ∷ 1 ∷ []) (0 ∷ [])

area_alone : outcome_text (record { width = 2; depth = 2 }) [] (both_due (area ∷ []))
    ≡ codes "shape 2 2\nsession 1\n1 sig version 1 hits 0 misses 1 exps 1\nlevel 1 over 1\nlevel 2 over 2 (1,2)=2 (2,1)=-2\n2 log version 1 hits 1 misses 0 exps 0\nlevel 1 over 1\nlevel 2 over 8 [1,2]=8\norder 1,1,1\nversions 1\n"
unfolding signature scaled_product product_term sum_below step lie_series exponential plain_product expansion commutator commutator_term root move_weight logarithm coordinates coordinate bracket number_of text_of digits
area_alone = refl

area_and_letter : outcome_text (record { width = 2; depth = 2 }) [] (both_due (letter_with_area ∷ plain 2 (pos 0 ∷ pos 1 ∷ []) ∷ []))
    ≡ codes "shape 2 2\nsession 1\n1 sig version 1 hits 0 misses 1 exps 1\nlevel 1 over 1 (1)=1 (2)=1\nlevel 2 over 2 (1,1)=1 (1,2)=4 (2,1)=-2 (2,2)=1\n2 log version 1 hits 1 misses 0 exps 0\nlevel 1 over 1 1=1 2=1\nlevel 2 over 8 [1,2]=12\norder 1,1,1\nversions 1\n"
unfolding signature scaled_product product_term sum_below step lie_series exponential plain_product expansion commutator commutator_term root move_weight logarithm coordinates coordinate bracket number_of text_of digits
area_and_letter = refl

two_sessions : outcome_text (record { width = 1; depth = 8 }) []
    (outcome ((Edited (Done 1) ∷ Edited (NameTaken 1) ∷ []) ∷ (Edited (NoRow 1) ∷ Refused (Overflow 60097) ∷ Refused (NoVersion 1) ∷ []) ∷ []) (1 ∷ 2 ∷ 1 ∷ 2 ∷ 2 ∷ []) (0 ∷ []))
    ≡ codes "shape 1 8\nsession 1\n1 done 1\n2 name-taken 1\nsession 2\n1 no-row 1\n2 overflow 60097\n3 no-version 1\norder 1,2,1,2,2\nversions 1\n"
unfolding digits
two_sessions = refl

no_steps : outcome_text (record { width = 1; depth = 1 }) [] (outcome ([] ∷ []) [] []) ≡ codes "shape 1 1\nsession 1\norder none\nversions 0\n"
unfolding digits
no_steps = refl

-- ---- watches
-- three edits, of which the first and the third touch the first interval, and none the second
abbrev watched_due : DueOutcome
watched_due = outcome ((Edited (Done 1) ∷ Edited (Done 2) ∷ Edited (Done 3) ∷ []) ∷ []) (1 ∷ 1 ∷ 1 ∷ []) (7 ∷ 9 ∷ 5 ∷ [])

abbrev two_intervals : List Interval
two_intervals = record { from = 5; to = 8 } ∷ record { from = 10; to = 20 } ∷ []

two_watches : outcome_text (record { width = 1; depth = 1 }) two_intervals watched_due
    ≡ codes "shape 1 1\nsession 1\n1 done 1\n2 done 2\n3 done 3\norder 1,1,1\nversions 3\nwatch 1 versions 1,3\nwatch 2 versions none\n"
unfolding digits
two_watches = refl

two_watches_in_json : json_text (record { width = 1; depth = 1 }) two_intervals watched_due
    ≡ codes "{\"order\":[1,1,1],\"sessions\":[[{\"command\":1,\"reply\":\"done\",\"version\":1},{\"command\":2,\"reply\":\"done\",\"version\":2},{\"command\":3,\"reply\":\"done\",\"version\":3}]],\"shape\":[1,1],\"versions\":3,\"watches\":[[1,3],[]]}\n"
unfolding digits serde_json_on_literals
two_watches_in_json = refl

-- ---- the generated script
eight_draws : map (draw 8) (up_to 8) ≡ 674 ∷ 50624 ∷ 61265 ∷ 7359 ∷ 27703 ∷ 46152 ∷ 53550 ∷ 18567 ∷ []
eight_draws = refl

eight_entries : map (λ i. entries_from (draw 8 i)) (up_to 7)
    ≡ (negsuc 0 ∷ pos 2 ∷ []) ∷ (negsuc 2 ∷ negsuc 1 ∷ []) ∷ (negsuc 1 ∷ negsuc 0 ∷ []) ∷ (negsuc 0 ∷ negsuc 1 ∷ []) ∷ (pos 1 ∷ negsuc 0 ∷ []) ∷ (negsuc 1 ∷ pos 3 ∷ []) ∷ (negsuc 2 ∷ pos 3 ∷ []) ∷ []
eight_entries = refl

eight_numbers : map (numbers_of 8) (0 ∷ 1 ∷ 2 ∷ 3 ∷ []) ≡ (0 ∷ 4 ∷ []) ∷ (1 ∷ 5 ∷ []) ∷ (2 ∷ 6 ∷ []) ∷ (3 ∷ 7 ∷ []) ∷ []
eight_numbers = refl

first_command : command_at 8 0 ≡ commands.Edit (edit.Append (codes "r0") 43136 (plain 4 (negsuc 0 ∷ pos 2 ∷ [])))
unfolding digits
first_command = refl

first_correction : command_at 8 6 ≡ commands.Edit (edit.Correct (codes "r0") (plain 4 (negsuc 2 ∷ pos 3 ∷ [])))
unfolding digits
first_correction = refl

first_query : command_at 8 7 ≡ commands.Ask (record { kind = kinds.Sig; from = 0; to = 8 * 65536; r = 16; version = None })
first_query = refl

second_query : command_at 16 15 ≡ commands.Ask (record { kind = kinds.Log; from = 0; to = 65536 * (1 + draw 16 16 % 64); r = 16; version = None })
second_query = refl

-- a sum below 0, and level 0 isn't in it
summary_of_two : summary_text 2 (record { width = 1; depth = 2 })
    (outcome ((Valued (Found 1 1 2 3) (signature (plain 2 (pos 3 ∷ []) ∷ [])) ∷ []) ∷ (Logged (Found 2 4 5 6) (record { factor = negsuc 12; number = 1 } ∷ []) ∷ Refused (NoVersion 2) ∷ []) ∷ []) (1 ∷ 2 ∷ 2 ∷ []) (0 ∷ 0 ∷ []))
    ≡ codes "gen 2\nsteps 3\nversions 2\nhits 5\nmisses 7\nexps 9\nsum 18446744073709551615\n"
unfolding signature scaled_product product_term sum_below step lie_series exponential plain_product expansion root move_weight digits
summary_of_two = refl
