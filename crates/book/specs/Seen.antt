-- The versions that sessions see.
use Rattle.std.specs.Prelude.{ℕ, List, [], ◌∷◌, flat_map, Option, None}
use Rattle.versions.specs.declared.edit.EditReply.{EditReply}
use Rattle.versions.specs.declared.edit.EditReply.TheVariants.{Done, NameTaken, NoRow}
use Rattle.book.specs.declared.step.LookReply.{LookReply}
use Rattle.book.specs.declared.step.LookReply.TheVariants.{Found}
use Rattle.book.specs.declared.step.Step.{Step}
use Rattle.book.specs.declared.step.Step.TheVariants.{Edited, Looked, Settled}
use Rattle.book.specs.Play.{Request, Editing, Looking, Settling}

-- the session that asks
abbrev pub asker : Request → ℕ
asker (Editing session edit) = session
asker (Looking session q) = session
asker (Settling session) = session

-- the version in the reply to an edit
abbrev pub edit_version : EditReply → ℕ
edit_version (Done version) = version
edit_version (NameTaken version) = version
edit_version (NoRow version) = version

-- the version of an answer whose look named none
abbrev pub look_version : Option ℕ → LookReply → List ℕ
look_version None (Found version hits misses exps) = version ∷ []
look_version named reply = []

-- the version in a step's reply; one that was named isn't counted
abbrev pub seen_in : Step → List ℕ
seen_in (Edited session edit reply) = edit_version reply ∷ []
seen_in (Looked session q reply) = look_version q.version reply
seen_in (Settled session kept) = []

-- the versions in the replies of these steps, in their order
abbrev pub versions_seen : List Step → List ℕ
versions_seen steps = flat_map seen_in steps
