-- The numbers so far, before those of the rest, are the numbers of the whole.
use Rattle.std.proofs.Common.{◌≡◌, ◌++◌, length}
use Rattle.std.specs.Prelude.{option_map}
use denote.Text.{Utf8}
use denote.Shadow.{shadow}
use Rattle.command_line.specs.Values.{pieces_of, sessions_in}
use Rattle.command_line.proofs.values.sessions_in.Given as goal

abbrev pub invariant-loop-piece : goal.invariant-loop-piece
invariant-loop-piece l = shadow (Utf8 l.rest) × (option_map (λ after. l.sessions.items ++ after) (sessions_in (pieces_of l.rest)) ≡ sessions_in (pieces_of l.value))

abbrev pub decreases-loop-piece : goal.decreases-loop-piece
decreases-loop-piece l = length l.rest
