use Rattle.std.proofs.Common.{◌≡◌, subst}
use Rattle.versions.specs.Versions.{LogValue}
use Rattle.book.specs.Books.{IsHeld}
use Rattle.book.proofs.BookLaws.{value_of, held-settle}
use Rattle.book.proofs.book.Book.settle.Goals as goal

pub invariant_of-self : goal.invariant_of-self
invariant_of-self c =
    let book = c.self.inside in let new = c.settle-settled.new in let ensures = c.settle-settled.ensures in let failed = c.is_err-self-inside.result in
    subst
    (λ (log : LogValue). value_of log book.cache book.pending.items book.history.items book.spent ≡ c.args.self.now → IsHeld log book.cache book.pending.items book.history.items book.spent
    → IsHeld log new.cache new.pending.items new.history.items failed)
    c.log.ensures
    (λ view_is before. held-settle c.log.result.now book.cache book.pending.items book.history.items book.spent c.args.session c.args.self.now view_is before c.requires.ready
    c.settle-settled.result new.cache new.pending.items new.history.items failed
    ensures.pairs ensures.kept ensures.capacity ensures.pending ensures.looks ensures.history ensures.err c.is_err-self-inside.ensures.value)
    c.self.view_is c.self.invariant
