use Rattle.std.proofs.Common.{◌∙◌, sym}
use Rattle.book.proofs.ExpiryLaws.{left-touched, right-half}
use Rattle.book.proofs.expiry.half_with.Goals as goal

pub returns-then-touches-clause-half : goal.returns-then-touches-clause-half
returns-then-touches-clause-half c =
    left-touched c.args.log.now.edits c.args.touch c.args.node c.in_ok-left.left c.in_ok-left.ensures.0 c.in_ok-left.ensures.1 (sym c.touches.ensures ∙ c.if-touches.true)

pub returns-clause-half : goal.returns-clause-half
returns-clause-half c =
    right-half c.args.log.now.edits c.args.touch c.args.node c.in_ok-left.left c.right.result c.in_ok-left.ensures.1 c.right.ensures c.requires.some c.requires.within c.requires.touches
    (sym c.touches.ensures ∙ c.if-touches.false)
