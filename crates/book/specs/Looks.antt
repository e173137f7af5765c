-- Looks: when a query may be asked, and what a look of it gives.
use Rattle.std.specs.Prelude.{◌≡◌, ℕ, true, ◌≤◌, ◌^◌, List, All, sum_by, Option, Some, None}
use Rattle.definitions.specs.Words.{Extent}
use Rattle.definitions.specs.Rows.{moves_of}
use Rattle.definitions.specs.Signature.{limit}
use Rattle.solve.specs.Plans.{PlansStand}
use Rattle.solve.specs.Works.{WorkValue}
use Rattle.book.specs.declared.query.Query.{Query}
use Rattle.book.specs.declared.query.Allowed.{Allowed}
use Rattle.book.specs.declared.query.Allowed.TheVariants as allowed
use Rattle.book.specs.declared.step.LookReply.{LookReply}
use Rattle.book.specs.declared.step.LookReply.TheVariants as replies
use Rattle.book.specs.declared.look.Look.{Look}
use Rattle.book.specs.declared.look.Look.TheVariants.{Work, NoVersion, Pair, Level, Overflow}
use Rattle.book.specs.declared.planning.Planned.{Planned}
use Rattle.book.specs.declared.planning.Planned.TheVariants.{Refused, Plans}
use Rattle.book.specs.Walks.{Visit, visits_of}
use Rattle.book.specs.Plans.{ArePlansOf, AreForRows}
use Rattle.book.specs.Play.{State, looked_version, looked_rows, look_refusal, look_walk, fits_from}

-- an interval of the line of time that doesn't end before it begins, at a resolution of at most 16
pub record IsQuery (q : Query) : Type 0 where
  pub forward : q.from ≤ q.to
  pub end : q.to ≤ 2 ^ 32
  pub resolution : q.r ≤ 16

-- what fits has a signature
abbrev pub AllowsSignatures : Extent → Allowed → Type 0
AllowsSignatures extent (allowed.Fits factors) = (v : ℕ) → fits_from 1 factors v ≡ true → v ^ extent.depth ≤ limit
AllowsSignatures extent _ = Unit {0}

-- the work of a query: its plans follow the walk, and each of them stands for its rows, as all together do for those of the interval
pub record IsWorkOf (extent : Extent) (state : State) (q : Query) (work : WorkValue) : Type 0 where
  pub extent_is : work.extent ≡ extent
  pub version_is : work.version ≡ looked_version state.edits q
  pub plans : ArePlansOf extent state.edits (looked_version state.edits q) (look_walk state q) work.plans
  pub each : All (AreForRows state.edits (looked_version state.edits q)) work.plans
  pub whole : PlansStand work.plans (moves_of (looked_rows state.edits q))

-- what a look gives: a work exactly where nothing refuses it
abbrev pub IsLook : Extent → State → Query → Look → Type 0
IsLook extent state q (Work work) = (look_refusal state.edits q ≡ None) × IsWorkOf extent state q work
IsLook extent state q (NoVersion current) = look_refusal state.edits q ≡ Some (replies.NoVersion current)
IsLook extent state q (Pair a b) = look_refusal state.edits q ≡ Some (replies.Pair a b)
IsLook extent state q (Level k) = look_refusal state.edits q ≡ Some (replies.Level k)
IsLook extent state q (Overflow v) = look_refusal state.edits q ≡ Some (replies.Overflow v)

-- how many nodes are visited: none where the look is refused
abbrev pub visits_unless : Option LookReply → List Visit → ℕ
visits_unless None visits = sum_by visits_of visits
visits_unless (Some reply) visits = 0

-- how many nodes the look of a query visits, halves too
abbrev pub look_visits : State → Query → ℕ
look_visits state q = visits_unless (look_refusal state.edits q) (look_walk state q)

-- the plans of a query, or why there are none
abbrev pub IsPlanned : Extent → State → Query → Planned → Type 0
IsPlanned extent state q (Refused reply) = look_refusal state.edits q ≡ Some reply
IsPlanned extent state q (Plans plans) = (look_refusal state.edits q ≡ None) × ArePlansOf extent state.edits (looked_version state.edits q) (look_walk state q) plans.items
