use Rattle.std.proofs.Common.{◌≡◌, [], ◌∷◌, ◌++◌, arith, refl}
use Rattle.std.proofs.lemmas.List.Elements.{All-nil, All-push}
use Rattle.dyadic.specs.Nodes.{high_of}
use Rattle.dyadic.proofs.Spans.{low-lt-high}
use Rattle.decompose.specs.Pieces.{IsPiece, Adjoin}
use Rattle.decompose.proofs.Lists.{adjoin-push, pieces-from_adjoin}
use Rattle.decompose.proofs.Longest.{IsLongest, cut-first, cut-next, longest-is_piece}
use Rattle.decompose.proofs.Counts.{pieces-few}
use Rattle.decompose.proofs.walk.pieces.Goals as goal

pub loop-at-init : goal.loop-at-init
loop-at-init c =
    let a = c.args.a in
    let b = c.args.b in
    let none : c.new-nodes.result.items ≡ [] = c.new-nodes.ensures.items in
    record {
      after = omega arith;
      before = omega arith;
      adjoin = rw none refl;
      pieces = rw none (All-nil (IsPiece a b));
      cut = cut-first a b;
    }

pub loop-at-preserved : goal.loop-at-preserved
loop-at-preserved c =
    let a = c.args.a in
    let b = c.args.b in
    let at = c.loop-at.at in
    let nodes = c.loop-at.nodes.items in
    let node = c.longest_from-node.result in
    let kept = c.loop-at.invariant in
    let ensured = c.longest_from-node.ensures in
    let longest : IsLongest at b node = record { is_node = ensured.is_node; begins = ensured.begins; ends = ensured.ends; longest = ensured.longest } in
    let pushed : c.push.new.self.items ≡ nodes ++ node ∷ [] = c.in_ok-push.ensures.items in
    let end : c.high-at.result ≡ high_of node = c.high-at.ensures.value in
    record {
      after = omega (arith, kept.after, end, ensured.begins, low-lt-high node);
      before = omega (arith, end, ensured.ends);
      adjoin = rw (pushed, end) (adjoin-push a at nodes node kept.adjoin ensured.begins);
      pieces = rw pushed (All-push (IsPiece a b) nodes node kept.pieces (longest-is_piece a b at node kept.cut kept.after longest));
      cut = rw end (cut-next a b at node kept.cut longest);
    }

pub returns-clause-pieces : goal.returns-clause-pieces
returns-clause-pieces c =
    let a = c.args.a in
    let b = c.args.b in
    let kept = c.loop-at.invariant in
    let whole : c.loop-at.at ≡ b = omega (arith, kept.before, c.loop-at-test.false) in
    pieces-from_adjoin a b c.loop-at.nodes.items (rw whole at kept.adjoin) kept.pieces

pub returns-clause-count : goal.returns-clause-count
returns-clause-count c =
    let a = c.args.a in
    let b = c.args.b in
    let nodes = c.loop-at.nodes.items in
    let kept = c.loop-at.invariant in
    let whole : c.loop-at.at ≡ b = omega (arith, kept.before, c.loop-at-test.false) in
    let adjoin : Adjoin a b nodes = rw whole at kept.adjoin in
    omega (arith, c.loop-at.nodes.ok.0, pieces-few a b nodes c.requires.line adjoin (pieces-from_adjoin a b nodes adjoin kept.pieces))
