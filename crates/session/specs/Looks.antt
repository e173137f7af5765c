-- What a look of the book gave, as it is answered after the hold.
use Rattle.std.specs.Prelude.{◌≡◌, ℕ, is_some}
use Rattle.definitions.specs.Words.{Extent}
use Rattle.book.specs.declared.query.Query.{Query}
use Rattle.book.specs.Play.{Looking, pending_of, look_reply}
use Rattle.book.specs.Looks.{IsLook}
use Rattle.book.specs.Books.{BookValue, IsReady, IsFree, state_of, with_request}
use Rattle.session.specs.declared.asked.Asked.{Asked}
use Rattle.session.specs.declared.look.Looked.{Looked}
use Rattle.session.specs.Play.{query_for}

-- the look, its reply, and whether it is pending then
pub record IsLooked (session : ℕ) (q : Query) (old : BookValue) (looked : Looked) : Type 0 where
  pub gives : IsLook old.extent (state_of old) q looked.look
  pub reply_is : looked.reply ≡ look_reply (state_of old) q
  pub pending_is : looked.pending ≡ is_some (pending_of session (state_of (with_request (Looking session q) old)).pending)

-- what a session looked at, as it is asked at this extent
pub record IsLookedFor (extent : Extent) (session : ℕ) (asked : Asked) (old : BookValue) (looked : Looked) : Type 0 where
  pub extent_is : extent ≡ old.extent
  pub ready : IsReady old session
  pub free : IsFree old session
  pub looked_is : IsLooked session (query_for extent asked) old looked
