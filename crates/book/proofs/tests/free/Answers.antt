use Rattle.std.proofs.Common.{◌≡◌, ◌∙◌, sym, refl, subst, T, false, Option, Some, None}
use Rattle.std.specs.Prelude.{is_some}
use Rattle.book.specs.Play.{PendingLook, pending_of}
use Rattle.book.specs.Books.{state_of}
use Rattle.book.proofs.tests.free.Goals as goal

none : (look : Option PendingLook) → is_some look ≡ false → look ≡ None
none None is = refl
none (Some look) is = absurd (subst T is tt)

pub returns : goal.returns
returns c = none (pending_of c.args.session (state_of c.args.book.now).pending) (sym c.pending.ensures ∙ c.if-pending.false)
