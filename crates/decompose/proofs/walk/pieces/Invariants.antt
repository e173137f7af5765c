use Rattle.std.proofs.Common.{◌-◌, ◌≤◌}
use Rattle.std.specs.Prelude.{All}
use Rattle.decompose.specs.Pieces.{IsPiece, Adjoin}
use Rattle.decompose.proofs.Longest.{IsCut}
use Rattle.decompose.proofs.walk.pieces.Given as goal

abbrev pub invariant-loop-at : goal.invariant-loop-at
invariant-loop-at l =
    record {
      after : l.a ≤ l.at;
      before : l.at ≤ l.b;
      adjoin : Adjoin l.a l.at l.nodes.items;
      pieces : All (IsPiece l.a l.b) l.nodes.items;
      cut : IsCut l.a l.b l.at;
    }

abbrev pub decreases-loop-at : goal.decreases-loop-at
decreases-loop-at l = l.b - l.at
