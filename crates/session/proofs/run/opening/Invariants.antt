use Rattle.std.proofs.Common.{◌≡◌, [], None, replicate}
use Rattle.session.proofs.run.opening.Given as goal

-- so many sessions have their places
abbrev pub invariant-loop-session : goal.invariant-loop-session
invariant-loop-session l = record {
  taken : l.taken.items ≡ replicate l._session 0;
  solved : l.solved.items ≡ replicate l._session None;
  transcripts : l.transcripts.items ≡ replicate l._session [];
}
