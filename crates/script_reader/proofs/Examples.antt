-- Worked examples of the format.
use Rattle.std.proofs.Common.{◌≡◌, ℕ, List, [], ◌∷◌, ◌++◌, refl, pos, neg_ℤ}
use Rattle.std.specs.Prelude.{codes, Some, None, Ok, Err}
use Rattle.script_reader.specs.declared.fault.Reason.TheVariants as reasons
use Rattle.script_reader.specs.declared.fault.ScriptFault.TheVariants.{Line}
use Rattle.script_reader.specs.declared.command.Command.TheVariants as commands
use Rattle.versions.specs.declared.edit.Edit.TheVariants as edit
use Rattle.script_reader.specs.declared.command.Kind.TheVariants as kinds
use Rattle.script_reader.specs.Fields.{is_number, is_tick, are_entries, tick_or_zero}
use Rattle.script_reader.specs.Coordinates.{members_to, degree_counts, degree_with, lie_move}
use Rattle.script_reader.specs.Script.{parse}

abbrev good : List ℕ
good = codes "shape 2 2" ++ 10 ∷ [] ++ codes "# a comment" ++ 10 ∷ [] ++ codes "session 1" ++ 13 ∷ 10 ∷ [] ++ codes "append a 1/2 2 -3" ++ 10 ∷ [] ++ codes "sig 0 2 0"

-- a script is read
good_is : parse good ≡ Ok (record {
  extent = record { width = 2; depth = 2 };
  sessions = (commands.Edit (edit.Append (codes "a") 32768 ((pos 2 ∷ neg_ℤ (pos 3) ∷ []) ∷ [] ∷ [])) ∷ commands.Ask (record { kind = kinds.Sig; from = 0; to = 131072; r = 0; version = None }) ∷ []) ∷ [];
  watches = [];
})
unfolding is_number is_tick are_entries tick_or_zero members_to degree_counts degree_with lie_move lib.Count.ones
good_is = refl

bad_number : parse (good ++ 10 ∷ [] ++ codes "append b 1 2 x") ≡ Err (Line 6 reasons.Number)
unfolding is_number is_tick are_entries tick_or_zero members_to degree_counts degree_with lie_move lib.Count.ones
bad_number = refl

-- a line that watches an interval, before the first session
watched : parse (codes "shape 1 1" ++ 10 ∷ [] ++ codes "watch 1/2 5/2 0" ++ 10 ∷ [] ++ codes "session 1") ≡ Ok (record {
  extent = record { width = 1; depth = 1 };
  sessions = [] ∷ [];
  watches = record { from = 0; to = 131072 } ∷ [];
})
unfolding is_number is_tick tick_or_zero lib.Count.ones
watched = refl

nothing : parse [] ≡ Err (Line 1 reasons.End)
nothing = refl

-- ---- coordinates
-- 2 letters, then [1,2], then the 2 members of degree 3, and the 3 of degree 4
counts : degree_counts (record { width = 2; depth = 4 }) ≡ 2 ∷ 3 ∷ 5 ∷ 8 ∷ []
unfolding members_to degree_counts
counts = refl

-- on one letter there is one coordinate up to each degree, and the least degree is taken
single : degree_with (record { width = 1; depth = 3 }) 1 ≡ Some 1
unfolding members_to degree_counts degree_with
single = refl

-- four coordinates are none up to any degree
between : degree_with (record { width = 2; depth = 4 }) 4 ≡ None
unfolding members_to degree_counts degree_with
between = refl

-- five coordinates: those of the letters, of [1,2], and of [1,[1,2]] and [2,[1,2]]
in_parts : lie_move (record { width = 2; depth = 4 }) (pos 1 ∷ pos 2 ∷ pos 3 ∷ pos 4 ∷ pos 5 ∷ [])
    ≡ (pos 1 ∷ pos 2 ∷ []) ∷ (pos 3 ∷ []) ∷ (pos 4 ∷ pos 5 ∷ []) ∷ [] ∷ []
unfolding members_to degree_counts degree_with lie_move
in_parts = refl
