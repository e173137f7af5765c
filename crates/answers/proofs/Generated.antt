-- The generated script is within the limits of scripts, and a command more.
use Rattle.std.proofs.Common.{◌≡◌, ◌≢◌, ◌∙◌, ℕ, suc, zero, ◌+◌, ◌-◌, ◌%◌, ◌≤◌, ◌<◌, ◌^◌, ℤ, add-one, Bool, true, false, List, [], ◌∷◌, ◌++◌, length, get_or, refl, sym, ap, ap₂, arith}
use Rattle.std.specs.Prelude.{map, filter, All, ◌==◌, nat_lt, if◌then◌else◌}
use Rattle.std.proofs.lemmas.Bool.Decides.{nat_tests}
use Rattle.std.proofs.lemmas.List.{append-nil, map-append, map_push, length-map, length-append}
use Rattle.std.proofs.lemmas.List.Elements.{filter-append, All-nil, All-cons, All-map}
use Rattle.definitions.specs.Words.{Extent, up_to}
use Rattle.definitions.specs.Moves.{IsMove, plain}
use Rattle.script_reader.specs.declared.command.Command.{Command}
use Rattle.script_reader.specs.Script.{IsCommand, IsScript}
use Rattle.watches.specs.Watches.{IsInterval}
use Rattle.answers.specs.Generator.{draw, entries_from, command_from, command_at, numbers_of, generated}

-- the shape of the generated script: width 2, depth 4
abbrev pub generated_extent : Extent
generated_extent = record { width = 2; depth = 4 }

-- ---- numbers
-- what is drawn is at most 65536
pub draw-small : (n i : ℕ) → n ≤ 65536 → draw n i ≤ 65536
draw-small n zero h = h
draw-small n (suc i) h = omega arith

numbers-more : (i session : ℕ) → numbers_of (suc i) session ≡ numbers_of i session ++ (if i % 4 == session then i ∷ [] else [])
numbers-more i session =
    ap (filter (λ j. j % 4 == session)) (map_push (λ j. j - 1) (up_to i) (suc i) ∙ ap (λ j. map (λ j. j - 1) (up_to i) ++ j ∷ []) one-less)
    ∙ filter-append (λ j. j % 4 == session) (map (λ j. j - 1) (up_to i)) (i ∷ [])
  where
    one-less : suc i - 1 ≡ i
    one-less = omega arith

numbers-few : (n session : ℕ) → length (numbers_of n session) ≤ n
numbers-few zero session = omega arith
numbers-few (suc n) session = omega (arith, ap length (numbers-more n session), length-append (numbers_of n session) (if n % 4 == session then n ∷ [] else []), one (n % 4 == session), numbers-few n session)
  where
    one : (b : Bool) → length (if b then n ∷ [] else []) ≤ 1
    one true = omega arith
    one false = omega arith

-- ---- the commands of a session
-- those of the first i commands
abbrev pub commands_to : ℕ → ℕ → ℕ → List Command
commands_to n i session = map (command_at n) (numbers_of i session)

commands-more : (n i session : ℕ) (b : Bool) → (i % 4 == session) ≡ b → commands_to n (i + 1) session ≡ commands_to n i session ++ (if b then command_at n i ∷ [] else [])
commands-more n i session b e =
    ap (λ j. commands_to n j session) (add-one i)
    ∙ ap (map (command_at n)) (numbers-more i session ∙ ap (λ b. numbers_of i session ++ (if b then i ∷ [] else [])) e)
    ∙ map-append (command_at n) (numbers_of i session) (if b then i ∷ [] else [])
    ∙ ap (λ commands. commands_to n i session ++ commands) (at b)
  where
    at : (b : Bool) → map (command_at n) (if b then i ∷ [] else []) ≡ (if b then command_at n i ∷ [] else [])
    at true = refl
    at false = refl

-- the session of a command takes it
pub command-taken : (n i session : ℕ) (before after : List Command) (command : Command) → i % 4 ≡ session → before ≡ commands_to n i session → command ≡ command_at n i
    → after ≡ before ++ command ∷ [] → after ≡ commands_to n (i + 1) session
command-taken n i session before after command h e c grown =
    grown ∙ ap₂ (λ (cs : List Command) (c : Command). cs ++ c ∷ []) e c ∙ sym (commands-more n i session true (grind (arith, nat_tests)))

-- the others don't
pub command-passed : (n i session : ℕ) (before after : List Command) → i % 4 ≢ session → before ≡ commands_to n i session → after ≡ before → after ≡ commands_to n (i + 1) session
command-passed n i session before after h e same =
    same ∙ e ∙ sym (append-nil (commands_to n i session)) ∙ sym (commands-more n i session false (grind (arith, nat_tests)))

-- after the last command
pub sessions-whole : (n i : ℕ) (first second third fourth : List Command) → i ≡ n → first ≡ commands_to n i 0 → second ≡ commands_to n i 1 → third ≡ commands_to n i 2 → fourth ≡ commands_to n i 3
    → first ∷ second ∷ third ∷ fourth ∷ [] ≡ (generated n).sessions
sessions-whole n i first second third fourth e a b c d = cc

-- ---- limits
either : {X : Type 0} (P : X → Type 0) (b : Bool) (x y : X) → P x → P y → P (if b then x else y)
either P true x y p q = p
either P false x y p q = q

entries-move : (z : ℕ) → IsMove generated_extent (plain 4 (entries_from z))
entries-move z =
    let few : List ℤ → Type 0 = λ part. length part < 2 ^ 32 in
    record {
      letters = refl;
      deep = refl;
      short = All-cons few (entries_from z) ([] ∷ [] ∷ [] ∷ []) (omega arith)
          (All-cons few [] ([] ∷ [] ∷ []) (omega arith) (All-cons few [] ([] ∷ []) (omega arith) (All-cons few [] [] (omega arith) (All-nil few))));
    }

command-within : (z i : ℕ) → z ≤ 65536 → IsCommand generated_extent (command_from z i)
command-within z i h =
    either (IsCommand generated_extent) (nat_lt (i % 8) 6) _ _ (omega arith, entries-move z)
    (either (IsCommand generated_extent) (i % 8 == 6) _ _ (entries-move z) (record { forward = omega arith; within = omega arith; resolution = omega arith }))

commands-within : (n session : ℕ) → n ≤ 65536 → All (IsCommand generated_extent) (commands_to n n session)
commands-within n session h =
    All-map (IsCommand generated_extent) (command_at n) (numbers_of n session)
    (λ k d l.
    let i : ℕ = get_or (numbers_of n session) k d in
    command-within (draw n (suc i)) i (draw-small n (suc i) h))

commands-few : (n session : ℕ) → length (commands_to n n session) ≤ n
commands-few n session = omega (arith, length-map (numbers_of n session) (command_at n), numbers-few n session)

-- a generated script of at most 10000 commands is one
pub generated-within : (n : ℕ) → n ≤ 10000 → IsScript (generated n)
generated-within n h =
    let first = commands-few n 0 in
    let second = commands-few n 1 in
    let third = commands-few n 2 in
    let fourth = commands-few n 3 in
    let small : n ≤ 65536 = omega arith in
    record {
      shape = record { some_width = omega arith; within_width = omega arith; some_depth = omega arith; within_depth = omega arith; within_words = omega arith };
      some_session = omega arith;
      few_sessions = omega arith;
      few_commands = omega (arith, first, second, third, fourth);
      commands = All-map (All (IsCommand generated_extent)) (commands_to n n) (0 ∷ 1 ∷ 2 ∷ 3 ∷ []) (λ k d l. commands-within n (get_or (0 ∷ 1 ∷ 2 ∷ 3 ∷ []) k d) small);
      few_watches = omega arith;
      watches = All-nil IsInterval;
    }
