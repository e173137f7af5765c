use Rattle.std.proofs.Common.{IfOk}
use Rattle.definitions.specs.Words.{Extent}
use Rattle.book.specs.Play.{State}
use Rattle.book.specs.Looks.{IsLook}
use Rattle.book.proofs.BookLaws.{of-value, held-look}
use Rattle.book.proofs.book.Book.look.Goals as goal

pub invariant_of-self : goal.invariant_of-self
invariant_of-self g c =
    let book = c.self.inside in let new = c.look.new in let ensures = c.look.ensures in
    held-look book.stream book.cache book.pending.items book.history.items book.spent c.args.session c.args.self.now c.self.view_is c.self.invariant c.requires.ready
    c.look.result c.args.q new.cache new.pending.items new.history.items
    ensures.state ensures.history ensures.kept ensures.looks ensures.count ensures.capacity ensures.err

pub returns-clause-look : goal.returns-clause-look
returns-clause-look g c =
    let book = c.self.inside in
    of-value book.stream book.cache book.pending.items book.history.items book.spent c.args.session c.args.self.now c.self.view_is c.self.invariant c.requires.ready
    (λ (extent : Extent) (state : State). IfOk c.look.result (IsLook extent state c.args.q)) c.look.ensures.look
