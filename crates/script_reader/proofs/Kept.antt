-- A good line keeps what is kept while a script is read.
use Rattle.std.proofs.Common.{◌≡◌, ℕ, zero, suc, ◌+◌, ◌<◌, ◌≤◌, if◌then◌else◌, List, [], ◌∷◌, ◌++◌, length, get_or, set, sum_by, Option, Some, None, IsSome, refl, ap, sym, ◌∙◌, arith, rules, All}
use Rattle.std.proofs.lemmas.Grind.{common_steps}
use Rattle.std.proofs.lemmas.Bool.Decides.{nat_tests}
use Rattle.std.proofs.lemmas.List.Sums.{sum_by_push, sum_by-cons}
use Rattle.std.proofs.lemmas.List.Elements.{All-push, All-cons, All-head, All-tail}
use Rattle.watches.specs.declared.interval.Interval.{Interval}
use Rattle.watches.specs.Watches.{IsInterval}
use Rattle.script_reader.specs.declared.command.Command.{Command}
use Rattle.script_reader.specs.declared.command.Command.TheVariants as commands
use Rattle.script_reader.specs.declared.fault.Reason.{Reason}
use Rattle.script_reader.specs.declared.said.Said.{Said}
use Rattle.script_reader.specs.declared.said.Said.TheVariants as sayings
use Rattle.script_reader.specs.declared.tally.Tally.{Tally}
use Rattle.script_reader.specs.Fields.{first_of}
use Rattle.script_reader.specs.Limits.{named, is_query, commands_of, with_command, with_commands, with_said, limit_tests, limit_reason}
use Rattle.script_reader.specs.Script.{onto_last, all_onto_last, sessions_with, watches_with, IsCommand}
use Rattle.script_reader.specs.Reading.{IsNext, Keeps}

-- nothing is not something
none_is_not_some : {X : Type 0} (o : Option X) → o ≡ None → IsSome o → ⊥
none_is_not_some o e h = grind (arith, common_steps)

-- a command more is put behind those of the last session
pub onto_last_put : (command : Command) (sessions : List (List Command)) (i : ℕ) (d : List Command) → suc i ≡ length sessions → set sessions i (get_or sessions i d ++ command ∷ []) ≡ onto_last command sessions
onto_last_put command [] i d e = absurd (omega arith)
onto_last_put command (session ∷ []) zero d e = refl
onto_last_put command (session ∷ []) (suc i) d e = absurd (omega arith)
onto_last_put command (session ∷ next ∷ sessions) zero d e = absurd (omega arith)
onto_last_put command (session ∷ next ∷ sessions) (suc i) d e = ap (λ rest. session ∷ rest) (onto_last_put command (next ∷ sessions) i d (omega arith))

-- a command more opens no session
onto_last-length : (command : Command) (sessions : List (List Command)) → length (onto_last command sessions) ≡ length sessions
onto_last-length command [] = refl
onto_last-length command (session ∷ []) = refl
onto_last-length command (session ∷ next ∷ sessions) = ap suc (onto_last-length command (next ∷ sessions))

-- a command more, in all sessions together
onto_last-total : (command : Command) (sessions : List (List Command)) → 0 < length sessions → sum_by length (onto_last command sessions) ≡ sum_by length sessions + 1
onto_last-total command [] h = absurd (omega arith)
onto_last-total command (session ∷ []) h = grind (arith, common_steps)
onto_last-total command (session ∷ next ∷ sessions) h =
    let more = onto_last-total command (next ∷ sessions) (omega arith) in
    omega (arith, more, sum_by-cons length session (next ∷ sessions), sum_by-cons length session (onto_last command (next ∷ sessions)))

-- what holds of each command, and of one more
onto_last-all : (P : Command → Type 0) (command : Command) (sessions : List (List Command)) → P command → All (All P) sessions → All (All P) (onto_last command sessions)
onto_last-all P command [] p all = all
onto_last-all P command (session ∷ []) p all =
    All-cons (All P) (session ++ command ∷ []) [] (All-push P session command (All-head (All P) session [] all) p) (λ k d h. absurd (omega arith))
onto_last-all P command (session ∷ next ∷ sessions) p all =
    All-cons (All P) session (onto_last command (next ∷ sessions)) (All-head (All P) session (next ∷ sessions) all)
    (onto_last-all P command (next ∷ sessions) p (All-tail (All P) session (next ∷ sessions) all))

-- ---- limits
-- no first reason of two: no reason of either
neither : (a b : Option Reason) → first_of (a ∷ b ∷ []) ≡ None → (a ≡ None) × (b ≡ None)
neither None None e = (refl, refl)
neither None (Some b) e = (refl, e)
neither (Some a) b e = (e, absurd (none_is_not_some (Some a) e (search rules)))

-- a command that meets no limit has room
has_room : (t : Tally) (command : Command) → first_of (limit_tests (with_command t command)) ≡ None → t.commands + 1 ≤ 65536
has_room t command e = grind (arith, nat_tests, common_steps)

-- commands within the limits: the first has room, and those after it are within the limits too
pub within_limits : (t : Tally) (command : Command) (more : List Command) → limit_reason t (command ∷ more) ≡ None → (t.commands + 1 ≤ 65536) × (limit_reason (with_command t command) more ≡ None)
within_limits t command more e =
    let both = neither (first_of (limit_tests (with_command t command))) (limit_reason (with_command t command) more) e in
    (has_room t command both.0, both.1)

-- ---- commands
-- a command is at most one query
at_most_one : (command : Command) → (if is_query command then 1 else 0) ≤ 1
at_most_one (commands.Edit e) = omega arith
at_most_one (commands.Ask ask) = omega arith

-- a command keeps what is kept
pub keeps_command : (t : Tally) (sessions : List (List Command)) (watches : List Interval) (command : Command) → Keeps t sessions watches → 0 < t.sessions → IsCommand (named t.shape) command → t.commands + 1 ≤ 65536 → Keeps (with_command t command) (onto_last command sessions) watches
keeps_command t sessions watches command k opened good room = record {
  tally_kept = record {
    shape_first = k.tally_kept.shape_first;
    queries_within = omega (arith, k.tally_kept.queries_within, at_most_one command);
    few_commands = room;
    few_watches = k.tally_kept.few_watches;
  };
  counted = k.counted ∙ sym (onto_last-length command sessions);
  few_sessions = k.few_sessions;
  commands_counted = ap (λ n. n + 1) k.commands_counted ∙ sym (onto_last-total command sessions (omega (arith, k.counted, opened)));
  shaped = k.shaped;
  commands = onto_last-all (IsCommand (named t.shape)) command sessions good k.commands;
  watches_counted = k.watches_counted;
  watches_kept = k.watches_kept;
}

-- commands within the limits keep what is kept
keeps_commands : (t : Tally) (sessions : List (List Command)) (watches : List Interval) (more : List Command) → Keeps t sessions watches → 0 < t.sessions → All (IsCommand (named t.shape)) more → limit_reason t more ≡ None → Keeps (with_commands t more) (all_onto_last sessions more) watches
keeps_commands t sessions watches [] k opened good within = k
keeps_commands t sessions watches (command ∷ more) k opened good within =
    let limits = within_limits t command more within in
    keeps_commands (with_command t command) (onto_last command sessions) watches more
    (keeps_command t sessions watches command k opened (All-head (IsCommand (named t.shape)) command more good) limits.0)
    opened (All-tail (IsCommand (named t.shape)) command more good) limits.1

-- a good line keeps what is kept
pub keeps_next : (t : Tally) (sessions : List (List Command)) (watches : List Interval) (said : Said) → Keeps t sessions watches → IsNext t said → limit_reason t (commands_of said) ≡ None → Keeps (with_said t said) (sessions_with sessions said) (watches_with watches said)
keeps_next t sessions watches (sayings.Shape shape) k next within = record {
  tally_kept = record { shape_first = λ h. search rules; queries_within = k.tally_kept.queries_within; few_commands = k.tally_kept.few_commands; few_watches = k.tally_kept.few_watches };
  counted = k.counted;
  few_sessions = k.few_sessions;
  commands_counted = k.commands_counted;
  shaped = next.1;
  commands = λ i d h. absurd (none_is_not_some t.shape next.0 (k.tally_kept.shape_first (omega (arith, k.counted, h))));
  watches_counted = k.watches_counted;
  watches_kept = k.watches_kept;
}
keeps_next t sessions watches sayings.Session k next within = record {
  tally_kept = record { shape_first = λ h. next.0; queries_within = k.tally_kept.queries_within; few_commands = k.tally_kept.few_commands; few_watches = k.tally_kept.few_watches };
  counted = ap (λ n. n + 1) k.counted ∙ sym (grind (arith, common_steps));
  few_sessions = omega (arith, next.1);
  commands_counted = omega (arith, k.commands_counted, sum_by_push length sessions []);
  shaped = k.shaped;
  commands = All-push (All (IsCommand (named t.shape))) sessions [] k.commands (λ i d h. absurd (omega arith));
  watches_counted = k.watches_counted;
  watches_kept = k.watches_kept;
}
keeps_next t sessions watches (sayings.Watch interval) k next within = record {
  tally_kept = record {
    shape_first = k.tally_kept.shape_first;
    queries_within = k.tally_kept.queries_within;
    few_commands = k.tally_kept.few_commands;
    few_watches = omega (arith, next.1);
  };
  counted = k.counted;
  few_sessions = k.few_sessions;
  commands_counted = k.commands_counted;
  shaped = k.shaped;
  commands = k.commands;
  watches_counted = ap (λ n. n + 1) k.watches_counted ∙ sym (grind (arith, common_steps));
  watches_kept = All-push IsInterval watches interval k.watches_kept next.2;
}
keeps_next t sessions watches (sayings.Command command) k next within = keeps_command t sessions watches command k next.0 next.1 (within_limits t command [] within).0
keeps_next t sessions watches (sayings.Commands commands) k next within = keeps_commands t sessions watches commands k next.0 next.1 within
