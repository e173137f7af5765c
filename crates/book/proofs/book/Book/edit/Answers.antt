use Rattle.book.proofs.BookLaws.{held-edit}
use Rattle.book.proofs.book.Book.edit.Goals as goal

pub invariant_of-self : goal.invariant_of-self
invariant_of-self c =
    let book = c.self.inside in let new = c.edit.new in let ensures = c.edit.ensures in
    held-edit book.stream book.cache book.pending.items book.history.items book.spent c.args.session c.args.self.now c.self.view_is c.self.invariant c.requires.ready
    c.edit.result c.args.e.now new.stream new.cache new.history.items
    ensures.stream ensures.pairs ensures.kept ensures.capacity ensures.history ensures.err
