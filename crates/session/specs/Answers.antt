-- When an answer that is kept, whose signature is a tensor, is the one that is due.
use Rattle.std.specs.Prelude.{◌≡◌, ℕ, List, [], ◌∷◌, ℤ, All, None}
use Rattle.definitions.specs.Hall.{InHall, hall_list}
use Rattle.definitions.specs.Words.{Extent, IsWord}
use Rattle.scaled_tensor.specs.Tensors.{TensorValue, coefficient}
use Rattle.session.specs.declared.answer.Answer.{Answer}
use Rattle.session.specs.declared.answer.Answer.TheVariants as answers
use Rattle.session.specs.declared.answer.Outcome.{Outcome}
use Rattle.versions.specs.Versions.{IsLog}
use Rattle.session.specs.declared.asked.Wanted.{Wanted}
use Rattle.book.specs.Play.{refused_by}
use Rattle.session.specs.Play.{Due, Edited, Valued, Logged, Refused, DueOutcome, allowed_for}

-- the tensor has these coefficients at the words of the extent
pub record HasSeries (extent : Extent) (tensor : TensorValue) (series : List ℕ → ℤ) : Type 0 where
  pub extent_is : tensor.extent ≡ extent
  pub coefficients : (word : List ℕ) → IsWord extent word → coefficient tensor word ≡ series word

-- the answer that is kept is the one that is due
abbrev pub Shows : Extent → Answer → Due → Type 0
Shows extent (answers.Edit reply) (Edited due) = reply ≡ due
Shows extent (answers.Sig reply tensor) (Valued due series) = (reply ≡ due) × HasSeries extent tensor series
Shows extent (answers.Log reply lie) (Logged due terms) = (reply ≡ due) × (lie ≡ terms)
Shows extent (answers.Refused reply) (Refused due) = reply ≡ due
Shows extent _ _ = ⊥

-- so it is with each answer of a session
abbrev pub ShowsEach : Extent → List Answer → List Due → Type 0
ShowsEach extent [] [] = Unit {0}
ShowsEach extent (answer ∷ answers) (due ∷ dues) = Shows extent answer due × ShowsEach extent answers dues
ShowsEach extent _ _ = ⊥

-- and with each session
abbrev pub ShowsAll : Extent → List (List Answer) → List (List Due) → Type 0
ShowsAll extent [] [] = Unit {0}
ShowsAll extent (transcript ∷ transcripts) (dues ∷ all) = ShowsEach extent transcript dues × ShowsAll extent transcripts all
ShowsAll extent _ _ = ⊥

-- the outcome is the one that is due
pub record IsOutcome (extent : Extent) (outcome : Outcome) (due : DueOutcome) : Type 0 where
  pub transcripts : ShowsAll extent outcome.transcripts.items due.transcripts
  pub order : outcome.order.items ≡ due.order
  pub edits : outcome.edits.items ≡ due.edits

-- rows of this weight have the value that is wanted
abbrev pub IsAllowed : Extent → Wanted → ℕ → Type 0
IsAllowed extent wanted weight = refused_by (allowed_for extent wanted) weight ≡ None

-- ---- what printing needs
-- the numbers of a logarithm are those of members of the extent's Hall set
abbrev pub HasMembers : Extent → Answer → Type 0
HasMembers extent (answers.Log reply lie) = All (λ t. InHall (hall_list extent.width extent.depth) t.number) lie
HasMembers extent _ = Unit {0}

-- this holds for all answers of an outcome
abbrev pub AllHaveMembers : Extent → Outcome → Type 0
AllHaveMembers extent outcome = All (All (HasMembers extent)) outcome.transcripts.items

-- ---- the accepted edits
-- the edits of an outcome were accepted in their order
abbrev pub IsLogOf : Extent → Outcome → Type 0
IsLogOf extent outcome = IsLog (record { extent = extent; edits = outcome.edits.items })
